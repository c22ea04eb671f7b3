-- Before each look: its window is one that a pass may be shown, its constant is below t, and all bounds are quiet.
use Rattle.std.proofs.Common.{◌≡◌, ℕ, ◌<◌, ◌≤◌, List, [], ◌∷◌, ◌++◌, length, length-append, ◌+◌, ◌^◌, refl, ap, sym, ◌∙◌, arith, Bool, true, leb, subst}
use Rattle.std.specs.Prelude.{All, slice_index}
use Rattle.std.proofs.lemmas.Bool.{leb-true}
use Rattle.std.proofs.lemmas.List.{length-map, get_or_default}
use Rattle.heco_nums.specs.Presets.{modulus_of, slots_of}
use Rattle.heco_nums.specs.declared.preset.Preset.{Preset}
use Rattle.heco_noise.specs.Rows.{IsQuiet}
use Rattle.heco_nums.specs.Runs.{along, all_along}
use Rattle.heco_nums.proofs.PresetCases.{modulus_pos}
use Rattle.heco_fields.proofs.Bools.{both_true, and_true}
use Rattle.heco_circuit.specs.declared.gate.Gate.{Gate}
use Rattle.heco_circuit.specs.Bounds.{with_bound, fresh_bounds, weights_of, is_below}
use Rattle.heco_circuit.specs.Plans.{Plan, input_parts, is_input, push}
use Rattle.heco_circuit.specs.Validity.{with_gate, is_gate}
use Rattle.heco_circuit.proofs.Lengths.{length-input_parts}
use Rattle.heco_rewrites.specs.Wires.{Wires, behind, over, OperandsStand}
use Rattle.heco_rewrites.specs.Renaming.{IsRenamed}
use Rattle.heco_rewrites.proofs.Renamed.{renamed}
use Rattle.heco_rewrites.proofs.Along.{along_parts, along_bounds, along_long, gate_below}
use Rattle.heco_rewrites.proofs.Dropping.{keeps_itself}
use Rattle.heco_peep.specs.Rules.{Rule, IsWindow, is_shown, in_range}
use Rattle.heco_peep.specs.Looks.{window, Progress, look_behind, unchanged}
use Rattle.heco_peep.proofs.Makers.{gate_ranged}
use Rattle.heco_peep.proofs.Look.{Ground, Formed, ready}
use Rattle.heco_peep.proofs.Step.{Going, passes}
use Rattle.heco_peep.proofs.Whole.{base, start_going}
use Rattle.heco_peep.proofs.Rows.{base_even, no_rows}
use Rattle.heco_peep.proofs.Quiet.{bounds_long, bounds_kept}
use Rattle.heco_peep.proofs.OnePass.{Valid, full_blank}
use Rattle.heco_peep.proofs.Asking.{ranged_below}

pub along_append : {S A : Type 0} (next : S → A → S) (s : S) (xs ys : List A) → along next s (xs ++ ys) ≡ along next (along next s xs) ys
along_append next s [] ys = refl
along_append next s (x ∷ xs) ys = along_append next (next s x) xs ys

pub all_first : {S A : Type 0} (test : S → A → Bool) (next : S → A → S) (s : S) (xs ys : List A) → all_along test next s (xs ++ ys) ≡ true → all_along test next s xs ≡ true
all_first test next s [] ys h = refl
all_first test next s (x ∷ xs) ys h =
    let u = both_true (test s x) (all_along test next (next s x) (xs ++ ys)) h in
    and_true (test s x) (all_along test next (next s x) xs) u.0 (all_first test next (next s x) xs ys u.1)

pub all_after : {S A : Type 0} (test : S → A → Bool) (next : S → A → S) (s : S) (xs ys : List A) → all_along test next s (xs ++ ys) ≡ true → all_along test next (along next s xs) ys ≡ true
all_after test next s [] ys h = h
all_after test next s (x ∷ xs) ys h = all_after test next (next s x) xs ys (both_true (test s x) (all_along test next (next s x) (xs ++ ys)) h).1

-- the looks at these gates of a circuit
abbrev pub looks_at : Preset → Plan → Rule → List ℕ → List Gate → Progress
looks_at p c rule state gates = along (look_behind p (weights_of p.id c.vectors) (input_parts c.inputs) (fresh_bounds p.id c.inputs) rule) (unchanged (length c.inputs) state) gates

pub record IsBefore (p : Preset) (c : Plan) (s : Progress) (g : Gate) : Type 0 where
  pub window_ready : is_shown (over (slice_index s.names) g) ≡ true → IsWindow (window p (length c.inputs) s.gates (over (slice_index s.names) g))
  pub constant : is_below (modulus_of p.id) (over (slice_index s.names) g) ≡ true
  pub few : length c.inputs + length s.gates < 2 ^ 26
  pub quiet : All IsQuiet (along (with_bound p.id (weights_of p.id c.vectors)) (fresh_bounds p.id c.inputs) s.gates)

quiet_below : (e f : ℕ) → e ≤ f → IsQuiet f → IsQuiet e
quiet_below e f l q = omega (arith, l, q)

old_quiet : (c : Plan) (id : ℕ) (pre post : List Gate) (a : ℕ) → id ≡ c.preset → Valid c → c.gates ≡ pre ++ post → a < length (along (with_bound id (weights_of id c.vectors)) (fresh_bounds id c.inputs) pre)
    → IsQuiet (slice_index (along (with_bound id (weights_of id c.vectors)) (fresh_bounds id c.inputs) pre) a)
old_quiet c id pre post a q v split l =
    let weights : List ℕ = weights_of id c.vectors in
    let first : List ℕ = fresh_bounds id c.inputs in
    let all : All IsQuiet (along (with_bound id weights) first c.gates) = subst (λ i. All IsQuiet (along (with_bound i (weights_of i c.vectors)) (fresh_bounds i c.inputs) c.gates)) (sym q) v.quiet in
    let parts : along (with_bound id weights) first c.gates ≡ along (with_bound id weights) (along (with_bound id weights) first pre) post = ap (along (with_bound id weights) first) split ∙ along_append (with_bound id weights) first pre post in
    let there : All IsQuiet (along (with_bound id weights) (along (with_bound id weights) first pre) post) = subst (All IsQuiet) parts all in
    let long = bounds_long id weights (along (with_bound id weights) first pre) post in
    let one : IsQuiet (slice_index (along (with_bound id weights) (along (with_bound id weights) first pre) post) a) = there a 0 (omega (arith, l, long)) in
    subst IsQuiet (bounds_kept id weights (along (with_bound id weights) first pre) post a l) one

pub before : (p : Preset) (c : Plan) (rule : Rule) (state : List ℕ) (pre post : List Gate) (g : Gate) → p.id ≡ c.preset → Valid c → c.gates ≡ pre ++ g ∷ post → IsBefore p c (looks_at p c rule state pre) g
before p c rule state pre post g q v split = record {
  window_ready = λ e. subst (λ n. IsWindow (window p n s.gates at)) many (ready p vs start s.gates at o.formed e ranged);
  constant = ranged_below t N at ranged;
  few =
      let inputs = leb-true (length c.inputs) 256 (both_true (leb (length c.inputs) 256) (all_along (is_input (slots_of c.preset)) push [] c.inputs) v.inputs).0 in
      let gates = v.few_gates in
      let long = ap length split ∙ length-append pre (g ∷ post) in
      let level = o.level in
      omega (arith, inputs, gates, long, level, along_long p.id vs start s.gates, along_long p.id vs start pre);
  quiet = λ a d l.
      let new_long = along_bounds p.id vs start s.gates in
      let even = o.named.new_even.bounds in
      let level = o.level in
      let same = ap length new_long in
      let inside : a < length old.parts = omega (arith, l, same, even, level) in
      let e1 : slice_index new.bounds a ≤ slice_index old.bounds a = o.under a inside in
      let e2 = along_bounds p.id vs start pre in
      let old_even = o.named.old_even.bounds in
      let e2_long = ap length e2 in
      let f = old_quiet c p.id pre (g ∷ post) a q v split (omega (arith, inside, old_even, e2_long)) in
      let h : IsQuiet (slice_index old.bounds a) = subst (λ bs. IsQuiet (slice_index bs a)) (sym e2) f in
      let k : IsQuiet (slice_index new.bounds a) = quiet_below (slice_index new.bounds a) (slice_index old.bounds a) e1 h in
      let m : IsQuiet (slice_index (along (with_bound p.id (weights_of p.id vs)) start.bounds s.gates) a) = subst (λ bs. IsQuiet (slice_index bs a)) new_long k in
      subst IsQuiet (get_or_default (along (with_bound p.id (weights_of p.id vs)) start.bounds s.gates) a 0 d l) m;
}
  where
    t : ℕ
    t = modulus_of p.id

    N : ℕ
    N = slots_of p.id

    vs : List (List ℕ)
    vs = c.vectors

    start : Wires
    start = base p.id c (no_rows c.inputs)

    many : length start.parts ≡ length c.inputs
    many = length-input_parts c.inputs

    s : Progress
    s = looks_at p c rule state pre

    ground : Ground p.id vs start
    ground = subst (λ id. Ground id vs (base id c (no_rows c.inputs))) (sym q)
        (record { some = modulus_pos c.preset; vectors = v.vectors_are; even = base_even c.preset c (no_rows c.inputs) (length-map c.inputs (λ s. [])); full = full_blank c })

    formed : Formed p.id vs start (pre ++ g ∷ post)
    formed = subst (Formed p.id vs start) split (subst (λ id. Formed id vs (base id c (no_rows c.inputs)) c.gates) (sym q) v.gates)

    old : Wires
    old = along (behind p.id vs) start pre

    new : Wires
    new = along (behind p.id vs) start s.gates

    o : Going p.id vs start old s
    o = passes p vs start start (unchanged (length c.inputs) state) rule pre ground (start_going p.id vs start (length c.inputs) state (sym many) ground.even)
        (all_first (is_gate t N (length vs)) with_gate start.parts pre (g ∷ post) formed)

    here : is_gate t N (length vs) old.parts g ≡ true
    here =
        let u = all_after (is_gate t N (length vs)) with_gate start.parts pre (g ∷ post) formed in
        let w = both_true (is_gate t N (length vs) (along with_gate start.parts pre) g) (all_along (is_gate t N (length vs)) with_gate (with_gate (along with_gate start.parts pre) g) post) u in
        subst (λ ps. is_gate t N (length vs) ps g ≡ true) (sym (along_parts p.id vs start pre)) w.0

    at : Gate
    at = over (slice_index s.names) g

    ops : OperandsStand (slice_index s.names) old new g
    ops a k = o.named.each a (gate_below t N (length vs) old.parts g here a k)

    same : IsRenamed p.id vs vs old new g at
    same = renamed p.id vs vs (slice_index s.names) old new g (keeps_itself vs) ops here

    ranged : in_range t N at ≡ true
    ranged = gate_ranged t N (length vs) new.parts at same.valid
