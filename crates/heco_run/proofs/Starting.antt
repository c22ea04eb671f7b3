-- The work that a run opens with.
use Rattle.std.proofs.Common.{◌≡◌, ℕ, ◌-◌, ◌<◌, ◌≤◌, inl, inr, List, [], ◌∷◌, length, map, replicate, get_or, refl, sym, ◌∙◌, ap, arith, Bool, true, false, not, cond, eqb, ◌&&◌, Option, Some, None}
use Rattle.std.specs.Prelude.{IsTrue, is_some}
use Rattle.std.specs.List.{slice_get, list_any}
use Rattle.std.specs.Option.{option_map}
use Rattle.std.proofs.lemmas.Bool.{cases_eq, cases_Bool, eqb-true, leb-true}
use Rattle.std.proofs.lemmas.List.{length-replicate}
use Rattle.std.proofs.lemmas.Option.{get_or_from_slice_get}
use Rattle.heco_nums.specs.declared.preset.Preset.{Preset}
use Rattle.heco_nums.specs.declared.needs.KeyNeeds.{KeyNeeds}
use Rattle.heco_nums.specs.Presets.{slots_of, modulus_of}
use Rattle.heco_nums.proofs.Amounts.{any_passing}
use Rattle.heco_fields.proofs.Bools.{both_true}
use Rattle.heco_circuit.specs.declared.gate.Gate.{Gate}
use Rattle.heco_circuit.specs.declared.gate.Gate.TheVariants.{Neg, Add, Sub, Mul, Relin, Scale, Shift, Turn, Weigh}
use Rattle.heco_circuit.specs.Needs.{needs_relin, turns_by, needed_turns}
use Rattle.heco_circuit.specs.Plans.{Plan, wire_parts, is_formed}
use Rattle.heco_circuit.specs.Validity.{is_between, has_parts, is_gate}
use Rattle.heco_keys.specs.declared.eval.Eval.{Eval}
use Rattle.heco_schedules.specs.declared.event.Stage.TheVariants.{Open, Done}
use Rattle.heco_schedules.specs.Rising.{names}
use Rattle.heco_schedules.specs.Tables.{table}
use Rattle.heco_schedules.specs.Standings.{Wiring, wire_count, is_done, is_held}
use Rattle.heco_schedules.specs.Schedules.{Schedule}
use Rattle.heco_schedules.specs.Stores.{entry, held_values}
use Rattle.heco_schedules.specs.Runs.{fresh}
use Rattle.heco_schedules.proofs.Lists.{within, and_left, or_cases, length-map, length-table, get-table, some_of_any}
use Rattle.heco_schedules.proofs.Ends.{there}
use Rattle.heco_schedules.proofs.Consistent.{done_cases}
use Rattle.heco_schedules.proofs.Sound.{fresh_consistent, entry-held_values}
use Rattle.heco_sched.specs.Wirings.{operands_of, wiring}
use Rattle.heco_sched.proofs.Wired.{circuit_wired}
use Rattle.heco_run_laws.specs.Runs.{Ciphertext}
use Rattle.heco_run.specs.declared.error.RunErr.TheVariants as run
use Rattle.heco_run.specs.Making.{weighers_of}
use Rattle.heco_run.specs.Refusals.{missing_turn, opening_refusal}
use Rattle.heco_run.specs.Shapes.{AreTwoParts, Serves}
use Rattle.heco_run.specs.Works.{IsWork}
use Rattle.heco_run.proofs.Fits.{GateFits, gate_fits, input_has_two}
use Rattle.heco_run.proofs.Gathering.{entry_within}
use Rattle.heco_run.proofs.Releases.{length-held_values}
use Rattle.heco_run.proofs.Judging.{count_refused, relin_refused, turns_refused}

-- ---- a run that is not refused has as many ciphertexts as inputs, and the keys

pub record Opens (p : Plan) (needs : KeyNeeds) (found : ℕ) : Type 0 where
  pub count : found ≡ length p.inputs
  pub relin : needs_relin p ≡ true → needs.relin ≡ true
  pub turns : missing_turn (needed_turns p) needs.turns ≡ None

relin_there : (a b : Bool) → (a && not b) ≡ false → a ≡ true → b ≡ true
relin_there true true e h = refl
relin_there true false e h = absurd (cc)
relin_there false b e h = absurd (cc)

none_mapped : {A B : Type 0} (f : A → B) (o : Option A) → option_map f o ≡ None → o ≡ None
none_mapped f None e = refl
none_mapped f (Some x) e = absurd (cc)

pub opens : (p : Plan) (needs : KeyNeeds) (found : ℕ) → opening_refusal p needs found ≡ None → Opens p needs found
opens p needs found e = elim (cases_eq found (length p.inputs)) [
  | inr apart ↦ absurd (let other = count_refused p needs found apart in cc)
  | inl same ↦ elim (cases_Bool (needs_relin p && not needs.relin)) [
    | inl lacks ↦ absurd (let other = relin_refused p needs found same lacks in cc)
    | inr fine ↦ record {
      count = same;
      relin = relin_there (needs_relin p) needs.relin fine;
      turns = none_mapped (λ r. run.MissingKey r) (missing_turn (needed_turns p) needs.turns) (sym (turns_refused p needs found same fine) ∙ e);
    }
  ]
]

found_all : (needed turns : List ℕ) (r : ℕ) → missing_turn needed turns ≡ None → names needed r ≡ true → names turns r ≡ true
found_all [] turns r e h = absurd (cc)
found_all (x ∷ xs) turns r e h = elim (cases_Bool (names turns x)) [
  | inr off ↦ absurd (let first : missing_turn (x ∷ xs) turns ≡ Some x = rw off refl in cc)
  | inl on ↦ (
      let rest : missing_turn xs turns ≡ None = rw on at e in
      elim (or_cases (eqb x r) (names xs r) h) [
        | inl here ↦ (let same : x ≡ r = eqb-true x r here in rw (← same) on)
        | inr later ↦ found_all xs turns r rest later
      ])
]

turned_by : (r : ℕ) (g : Gate) → turns_by r g ≡ true → (a : ℕ) × (g ≡ Turn r a)
turned_by r (Neg a) h = absurd (cc)
turned_by r (Add a b) h = absurd (cc)
turned_by r (Sub a b) h = absurd (cc)
turned_by r (Mul a b) h = absurd (cc)
turned_by r (Relin a) h = absurd (cc)
turned_by r (Scale c a) h = absurd (cc)
turned_by r (Shift c a) h = absurd (cc)
turned_by r (Turn s a) h = (a, ap (λ k. Turn k a) (eqb-true s r h))
turned_by r (Weigh v a) h = absurd (cc)

-- a gate turns by an amount from 1 to N - 1
amount_there : (p : Plan) (r : ℕ) → IsTrue (is_formed p) → list_any (turns_by r) p.gates ≡ true → (1 ≤ r) × (r ≤ slots_of p.preset - 1)
amount_there p r formed h =
    let s = some_of_any (turns_by r) p.gates h in
    let lt = within p.gates s.1.0 s.0 s.1.1 in
    let t = turned_by r s.0 s.1.2 in
    let fits = gate_at_place p s.1.0 s.0 formed lt s.1.1 in
    let g : is_gate (modulus_of p.preset) (slots_of p.preset) (length p.vectors) (wire_parts p) (Turn r t.0) ≡ true = rw t.1 at fits.is_gate in
    let u = both_true (is_between 1 (slots_of p.preset - 1) r) (has_parts 2 (wire_parts p) t.0) g in
    let v = both_true _ _ u.0 in
    (leb-true _ _ v.0, leb-true _ _ v.1) where
      gate_at_place : (p : Plan) (k : ℕ) (g : Gate) → IsTrue (is_formed p) → k < length p.gates → slice_get p.gates k ≡ Some g → GateFits p k g
      gate_at_place p k g formed lt at = let is : get_or p.gates k g ≡ g = get_or_from_slice_get p.gates k g g at in rw is at (gate_fits p k g formed lt)

pub serves_all : (p : Plan) (e : Eval) (found : ℕ) → IsTrue (is_formed p) → e.preset.id ≡ p.preset → opening_refusal p e.needs found ≡ None → Serves p e
serves_all p e found formed one none =
    let o = opens p e.needs found none in
    record {
      one_preset = one;
      relin = o.relin;
      turns = λ r h. (let range = amount_there p r formed h in
          found_all (needed_turns p) e.needs.turns r o.turns (any_passing (λ t. list_any (turns_by t) p.gates) 1 (slots_of p.preset - 1) r (range.0, omega (arith, range.1), h)));
    }

-- ---- the fresh work

-- in a fresh standing only inputs are done
done_is_input : (c : Wiring) (workers wire : ℕ) → is_done c (fresh c workers) wire ≡ true → wire < c.inputs
unfolding fresh
done_is_input c workers wire h = elim (done_cases c (fresh c workers) wire h) [
  | inl lt ↦ lt
  | inr r ↦ absurd (
      let lt : r.0 < length (table (length c.reads) (λ g. Open)) = within _ r.0 Done r.2 in
      let inside : r.0 < length c.reads = rw length-table at lt in
      let open_is : slice_get (table (length c.reads) (λ g. Open)) r.0 ≡ Some Open = get-table (length c.reads) (λ g. Open) r.0 inside in
      cc)
]

held_is_input : (c : Wiring) (workers wire : ℕ) → is_held c (fresh c workers) wire ≡ true → wire < c.inputs
unfolding is_held
held_is_input c workers wire h = done_is_input c workers wire (and_left _ _ h)

none_busy : (c : Wiring) (workers worker gate : ℕ) → slice_get (fresh c workers).workers worker ≡ Some (Some gate) → ⊥
unfolding fresh
none_busy c workers worker gate busy =
    let lt : worker < length (table workers (λ w. None)) = within _ worker (Some gate) busy in
    let inside : worker < workers = rw length-table at lt in
    let idle : slice_get (table workers (λ w. None)) worker ≡ Some None = get-table workers (λ w. None) worker inside in
    apart (sym idle ∙ busy) where
      apart : ◌≡◌ {A = Option (Option ℕ)} (Some None) (Some (Some gate)) → ⊥
      apart e = absurd (cc)

hands : (c : Wiring) (workers : ℕ) → length (fresh c workers).workers ≡ workers
unfolding fresh
hands c workers = length-table workers (λ w. None)

present_is : {X : Type 0} (b : Bool) (o : Option X) → (b ≡ true → (x : X) × (o ≡ Some x)) → is_some (cond b o None) ≡ b
present_is true o h = let r = h refl in rw r.1 refl
present_is false o h = refl

value_is : {X : Type 0} (b : Bool) (o : Option X) (x : X) → cond b o None ≡ Some x → (b ≡ true) × (o ≡ Some x)
value_is true o x e = (refl, e)
value_is false o x e = absurd (cc)

pub fresh_work : (p : Plan) (e : Eval) (preset : Preset) (weighers : List (List ℕ)) (board : Schedule) (store room : List (Option Ciphertext)) (inputs : List Ciphertext) (workers : ℕ) → IsTrue (is_formed p) → preset ≡ e.preset → weighers ≡ weighers_of e.preset p.vectors
    → e.preset.id ≡ p.preset → AreTwoParts e.preset.n inputs → opening_refusal p e.needs (length inputs) ≡ None → board ≡ record { circuit = wiring p; standing = fresh (wiring p) workers }
    → store ≡ held_values board.circuit board.standing (slice_get inputs) → room ≡ replicate workers None → IsWork p e preset weighers board store room
fresh_work p e preset weighers board store room inputs workers formed same weighed one shaped none board_is store_is room_is =
    let facts = circuit_wired p formed in
    let few_inputs = facts.few_inputs in
    let few_gates = facts.few_gates in
    let all : length (map operands_of p.gates) ≡ length p.gates = length-map operands_of p.gates in
    let c = wiring p in
    let s = fresh c workers in
    let count = (opens p e.needs (length inputs) none).count in
    let store_at : store ≡ held_values c s (slice_get inputs) = store_is ∙ rw board_is refl in
    let work : IsWork p e preset weighers (record { circuit = c; standing = s }) store room = record {
      formed = formed;
      serves = serves_all p e (length inputs) formed one none;
      same_preset = same;
      same_weighers = weighed;
      stocked = record {
        circuit_is = refl;
        wired = facts.wired;
        small = omega arith;
        consistent = fresh_consistent c workers;
        stored = record {
          count = ap length store_at ∙ length-held_values c s (slice_get inputs);
          present = λ wire lt. ap (λ st. is_some (entry st wire)) store_at ∙ ap is_some (entry-held_values c s (slice_get inputs) wire lt) ∙ present_is (is_held c s wire) (slice_get inputs wire) (λ on.
              there inputs wire (let low : wire < length p.inputs = held_is_input c workers wire on in omega arith));
        };
        buffers = record {
          count = ap length room_is ∙ length-replicate workers None ∙ sym (hands c workers);
          taken = λ worker gate busy. absurd (none_busy c workers worker gate busy);
        };
      };
      store_shaped = λ wire x at.
          (let lt : wire < wire_count c = rw (ap length store_at ∙ length-held_values c s (slice_get inputs)) at (entry_within store wire x at) in
          let v = value_is (is_held c s wire) (slice_get inputs wire) x (sym (entry-held_values c s (slice_get inputs) wire lt) ∙ sym (ap (λ st. entry st wire) store_at) ∙ at) in
          rw (input_has_two p wire (held_is_input c workers wire v.0)) (shaped wire x v.1));
      room_shaped = λ worker gate x busy at. absurd (none_busy c workers worker gate busy);
    } in
    rw board_is work
