-- A store that gains the ciphertext of one gate after the other has those of the run.
use Rattle.std.proofs.Common.{◌≡◌, ◌∙◌, ℕ, zero, suc, ◌+◌, ◌<◌, ◌≤◌, true, List, [], ◌∷◌, ◌++◌, length, map, get_or, refl, sym, ap, inl, inr, arith, Option, Some, None}
use Rattle.std.specs.Prelude.{IsSome, unwrap_or}
use Rattle.std.specs.List.{slice_get, range_with_len}
use Rattle.std.specs.Option.{option_map}
use Rattle.std.proofs.lemmas.Bool.{cases_lt}
use Rattle.std.proofs.lemmas.List.{length_push}
use Rattle.std.proofs.lemmas.Option.{get_or_from_slice_get, slice_get-get_or}
use lib.IntN.{ℤ}
use Rattle.heco_nums.specs.declared.preset.Preset.{Preset}
use Rattle.heco_circuit.specs.Bounds.{weights_of, wire_bounds}
use Rattle.heco_circuit.specs.Circuits.{IsCircuit}
use Rattle.heco_circuit.specs.Plans.{Plan, wire_parts}
use Rattle.heco_circuit.specs.declared.gate.Gate.{Gate}
use Rattle.heco_circuit.specs.declared.gate.Gate.TheVariants.{Neg}
use Rattle.heco_keys.specs.declared.eval.Eval.{Eval}
use Rattle.heco_scheme.specs.Noise.{noise}
use Rattle.heco_schedules.specs.Rising.{names}
use Rattle.heco_schedules.specs.Stores.{entry, gathered, both, IsInOrder}
use Rattle.heco_schedules.proofs.Ends.{there}
use Rattle.heco_schedules.proofs.Lists.{within, get-map, length-map, or_right}
use Rattle.heco_schedules.proofs.Order.{get_append_left, get_append_right}
use Rattle.heco_sched.specs.Wirings.{operands_of, wiring}
use Rattle.heco_sched.proofs.TestLaws.{first_named}
use Rattle.heco_sched.proofs.Wired.{circuit_wired}
use Rattle.heco_run.specs.Making.{HasVector, keys_of, made_of, made_parts, maker, Takes, weighers_of}
use Rattle.heco_run.specs.Shapes.{AreTwoParts, IsShaped, Serves}
use Rattle.heco_run.proofs.Fits.{GateFits, gate_fits, gate_has_vector, gate_takes, input_has_two}
use Rattle.heco_run.proofs.Gathering.{entry_within}
use Rattle.heco_run.proofs.InOrder.{run_in_order}
use Rattle.heco_run.proofs.VectorWeighers.{vector_there}
use Rattle.heco_run_laws.specs.Measured.{measured_messages, measured_noise}
use Rattle.heco_run_laws.specs.Messages.{message_at}
use Rattle.heco_run_laws.specs.Results.{wire_count}
use Rattle.heco_run_laws.specs.Runs.{Ciphertext, SwitchKeys, ciphertext_at, run_of}
use Rattle.heco_measure.specs.Measuring.{measured_of, measured_wire, measured_wires}
use Rattle.heco_measure.specs.inside.Stores.{HasFirst, AreEntries, ciphertext_in}
use Rattle.heco_measure.specs.declared.measuring.Measured.{Measured}
use Rattle.heco_measure.proofs.Plaintexts.{earlier}

-- ---- entries

entry-some : {X : Type 0} (xs : List X) (wire : ℕ) → wire < length xs → entry (map (λ x. Some x) xs) wire ≡ slice_get xs wire
unfolding entry
entry-some xs wire l =
    let x = there xs wire l in
    ap (λ o. unwrap_or o None) (get-map (λ y. Some y) xs wire x.0 x.1) ∙ sym x.1

entry_before : {X : Type 0} (store : List (Option X)) (v : Option X) (wire : ℕ) → wire < length store → entry (store ++ v ∷ []) wire ≡ entry store wire
unfolding entry
entry_before store v wire l = ap (λ o. unwrap_or o None) (get_append_left store (v ∷ []) wire l)

entry_last : {X : Type 0} (store : List (Option X)) (v : Option X) (wire : ℕ) → wire ≡ length store → entry (store ++ v ∷ []) wire ≡ v
unfolding entry
entry_last store v wire e = ap (λ o. unwrap_or o None) (get_append_right store (v ∷ []) wire 0 (omega (arith, e)))

-- what agrees on the wires that are read gathers the same
gathered_same : {X : Type 0} (f g : ℕ → Option X) (wires : List ℕ) → ((wire : ℕ) → names wires wire ≡ true → f wire ≡ g wire) → gathered f wires ≡ gathered g wires
gathered_same f g [] h = refl
gathered_same f g (w ∷ wires) h =
    let here : f w ≡ g w = h w (first_named w wires) in
    let rest : gathered f wires ≡ gathered g wires = gathered_same f g wires (λ wire named. h wire (or_right _ (names wires wire) named)) in
    ap (λ o. both o (gathered f wires)) here ∙ ap (both (g w)) rest

some_mapped : {X Y : Type 0} (f : X → Y) (o : Option X) (y : Y) → option_map f o ≡ Some y → IsSome o
some_mapped f None y e = absurd (let no : ⊥ = cc in no)
some_mapped f (Some x) y e = refl

-- ---- the run

module _ (c : Plan) (e : Eval) (inputs : List Ciphertext) (valid : IsCircuit c) (serves : Serves c e) (many : length inputs ≡ length c.inputs) where
  abbrev run : List Ciphertext
  run = run_of e.preset (keys_of e) c inputs

  in_order : IsInOrder (wiring c) (maker (made_of e.preset (keys_of e) c.vectors) c.gates) inputs run
  in_order = run_in_order c e.preset (keys_of e) inputs (circuit_wired c valid.0).wired many

  pub length-run : length run ≡ wire_count c
  length-run = in_order.count ∙ ap (λ (n : ℕ). length c.inputs + n) (length-map operands_of c.gates)

  -- the inputs
  pub first_wires : (store : List (Option Ciphertext)) → AreTwoParts e.preset.n inputs → store ≡ map (λ x. Some x) inputs → HasFirst c e.preset.n run (length c.inputs + 0) store
  first_wires store two is = rw is (record {
    count = length-map (λ x. Some x) inputs ∙ many ∙ omega arith;
    each = λ wire l.
        (let inside : wire < length c.inputs = omega arith in
        let given : wire < length inputs = omega arith in
        entry-some inputs wire given ∙ sym (in_order.inputs_first wire inside));
    shaped = λ wire x found.
        (let l : wire < length (map (λ y. Some y) inputs) = entry_within (map (λ y. Some y) inputs) wire x found in
        let given : wire < length inputs = omega (arith, l, length-map (λ (y : Ciphertext). Some y) inputs) in
        rw (input_has_two c wire (omega (arith, given, many))) (two wire x (sym (entry-some inputs wire given) ∙ found)));
  })

  module _ (k : ℕ) (g : Gate) (at : slice_get c.gates k ≡ Some g) (store : List (Option Ciphertext)) (has : HasFirst c e.preset.n run (length c.inputs + k) store) where
    inside : k < length c.gates
    inside = within c.gates k g at

    fits : GateFits c k g
    fits = let is : get_or c.gates k g ≡ g = get_or_from_slice_get c.gates k g g at in rw is at (gate_fits c k g valid.0 inside)

    same_operands : gathered (entry store) (operands_of g) ≡ gathered (slice_get run) (operands_of g)
    same_operands = gathered_same (entry store) (slice_get run) (operands_of g) (λ wire named. has.each wire (earlier c k g valid at wire named))

    -- the run has what the gate makes of them
    next : slice_get run (length c.inputs + k) ≡ option_map (made_of e.preset (keys_of e) c.vectors g) (gathered (slice_get run) (operands_of g))
    next =
        let reads : unwrap_or (slice_get (map operands_of c.gates) k) [] ≡ operands_of g = ap (λ o. unwrap_or o []) (get-map operands_of c.gates k g at) in
        let gate : get_or c.gates k (Neg 0) ≡ g = get_or_from_slice_get c.gates k g (Neg 0) at in
        in_order.gates_next k (omega (arith, inside, length-map operands_of c.gates))
        ∙ ap (λ ops. option_map (made_of e.preset (keys_of e) c.vectors (get_or c.gates k (Neg 0))) (gathered (slice_get run) ops)) reads
        ∙ ap (λ h. option_map (made_of e.preset (keys_of e) c.vectors h) (gathered (slice_get run) (operands_of g))) gate

    pub operands_found : IsSome (gathered (entry store) (operands_of g))
    operands_found =
        let x = there run (length c.inputs + k) (omega (arith, length-run, inside)) in
        rw same_operands (some_mapped (made_of e.preset (keys_of e) c.vectors g) (gathered (slice_get run) (operands_of g)) x.0 (sym next ∙ x.1))

    takes_and_makes : (xs : List Ciphertext) → gathered (entry store) (operands_of g) ≡ Some xs → Takes e.preset e.needs g xs × (made_parts g xs ≡ get_or (wire_parts c) (length c.inputs + k) 0)
    takes_and_makes xs all =
        let r = gate_takes c e (entry store) k g xs serves at fits (λ wire x found. (has.shaped wire x found).count) all in
        (r.0, r.1 ∙ sym fits.parts)

    pub vector : (weighers : List (List ℕ)) → weighers ≡ weighers_of e.preset c.vectors → HasVector (length weighers) g
    vector weighers same = vector_there e.preset weighers c.vectors same g (gate_has_vector c k g fits)

    pub takes : (xs : List Ciphertext) → gathered (entry store) (operands_of g) ≡ Some xs → Takes e.preset e.needs g xs
    takes xs all = (takes_and_makes xs all).0

    pub parts : (xs : List Ciphertext) → gathered (entry store) (operands_of g) ≡ Some xs → made_parts g xs ≡ get_or (wire_parts c) (length c.inputs + k) 0
    parts xs all = (takes_and_makes xs all).1

    -- with what it makes the store has one wire more
    pub next_wires : (out : Ciphertext) → Some out ≡ option_map (made_of e.preset (keys_of e) c.vectors g) (gathered (entry store) (operands_of g)) → IsShaped e.preset.n (get_or (wire_parts c) (length c.inputs + k) 0) out
        → HasFirst c e.preset.n run (length c.inputs + (k + 1)) (store ++ Some out ∷ [])
    next_wires out made shape =
        let here : Some out ≡ slice_get run (length c.inputs + k) = made ∙ ap (option_map (made_of e.preset (keys_of e) c.vectors g)) same_operands ∙ sym next in
        record {
          count = length_push store (Some out) ∙ omega (arith, has.count);
          each = λ wire l. elim (cases_lt wire (length store)) [
            | inl before ↦ entry_before store (Some out) wire before ∙ has.each wire (omega (arith, before, has.count))
            | inr past ↦ (let last : wire ≡ length c.inputs + k = omega (arith, l, past, has.count) in
                entry_last store (Some out) wire (last ∙ sym has.count) ∙ here ∙ ap (slice_get run) (sym last))
          ];
          shaped = λ wire x found. elim (cases_lt wire (length store)) [
            | inl before ↦ has.shaped wire x (sym (entry_before store (Some out) wire before) ∙ found)
            | inr past ↦ (let l : wire < length (store ++ Some out ∷ []) = entry_within (store ++ Some out ∷ []) wire x found in
                let last : wire ≡ length store = omega (arith, l, past, length_push store (Some out)) in
                let two : ◌≡◌ {A = Option Ciphertext} (Some out) (Some x) = sym (entry_last store (Some out) wire last) ∙ found in
                let same : out ≡ x = cc in
                rw (← same, last, has.count) shape)
          ];
        }

-- ---- the whole run

module _ (c : Plan) (n : ℕ) (run : List Ciphertext) (store : List (Option Ciphertext)) (long : length run ≡ wire_count c) (has : HasFirst c n run (wire_count c) store) where
  kept : (wire : ℕ) → wire < wire_count c → entry store wire ≡ Some (ciphertext_at run wire)
  kept wire l = has.each wire l ∙ slice_get-get_or run wire [] (omega (arith, l, long))

  pub are_entries : AreEntries n store
  are_entries = record {
    there = λ wire l. (let found = kept wire (omega (arith, l, has.count)) in rw found refl);
    ciphertexts = λ wire x found. (has.shaped wire x found).ciphertext;
  }

  pub ciphertext_is : (wire : ℕ) → wire < wire_count c → ciphertext_in store wire ≡ ciphertext_at run wire
  ciphertext_is wire l = ap (λ o. unwrap_or o []) (kept wire l)

-- ---- what is measured

range_same : {X : Type 0} (f g : ℕ → X) (a n : ℕ) → ((w : ℕ) → a ≤ w → w < a + n → f w ≡ g w) → map f (range_with_len a n) ≡ map g (range_with_len a n)
range_same f g a zero h = refl
range_same f g a (suc n) h =
    ap (λ x. x ∷ map f (range_with_len (a + 1) n)) (h a (omega arith) (omega arith))
    ∙ ap (λ xs. g a ∷ xs) (range_same f g (a + 1) n (λ w low high. h w (omega arith) (omega arith)))

abbrev measured : ℕ → ℕ → ℕ → Measured
measured w e b = record { wire = w; noise = e; bound = b }

module _ (p : Preset) (s : List ℤ) (keys : SwitchKeys) (c : Plan) (inputs : List Ciphertext) (store : List (Option Ciphertext)) (messages : List (List ℕ)) (bounds : List ℕ) where
  pub all_measured : ((wire : ℕ) → wire < wire_count c → ciphertext_in store wire ≡ ciphertext_at (run_of p keys c inputs) wire) → messages ≡ measured_messages p s c inputs
      → bounds ≡ wire_bounds c.preset (weights_of c.preset c.vectors) c.inputs c.gates → length messages ≡ wire_count c
      → map (measured_of p s (ciphertext_in store) messages bounds) (range_with_len 0 (length messages)) ≡ measured_wires p s keys c inputs
  unfolding measured_wires measured_noise
  all_measured same ms bs count =
      rw (count, bs, ms) (range_same (measured_of p s (ciphertext_in store) (measured_messages p s c inputs) (wire_bounds c.preset (weights_of c.preset c.vectors) c.inputs c.gates)) (measured_wire p s keys c inputs) 0 (wire_count c)
      (λ w low high. ap (λ (x : Ciphertext). measured w (noise p s x (message_at (measured_messages p s c inputs) w)) (get_or (wire_bounds c.preset (weights_of c.preset c.vectors) c.inputs c.gates) w 0)) (same w (omega arith))))
