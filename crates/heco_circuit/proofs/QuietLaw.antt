-- No bound of a valid circuit passes.
use Rattle.std.proofs.Common.{◌≡◌, ℕ, ◌+◌, ◌*◌, ◌^◌, Bool, true, false, cond, ◌&&◌, leb, List, [], ◌∷◌, refl, All, Option, Some, None}
use Rattle.std.specs.Prelude.{IsTrue}
use Rattle.std.proofs.lemmas.Bool.{leb-true, leb-false}
use Rattle.std.proofs.lemmas.List.Elements.{All-push, All-nil, All-cons}
use Rattle.std.specs.Option.{is_none}
use Rattle.heco_noise.specs.Rows.{IsQuiet, passes}
use Rattle.heco_nums.specs.Runs.{along}
use Rattle.heco_fields.proofs.Bools.{both_true}
use Rattle.heco_circuit.specs.declared.gate.Gate.{Gate}
use Rattle.heco_circuit.specs.Validity.{is_between}
use Rattle.heco_circuit.specs.Plans.{Plan, are_inputs, are_vectors, are_gates, are_outputs}
use Rattle.heco_circuit.specs.Bounds.{fresh_of, fresh_bounds, weights_of, bound_of, with_bound, wire_bounds, first_passing}
use Rattle.heco_circuit.specs.Circuits.{IsCircuit, passing}
use Rattle.heco_circuit.proofs.Sizes.{fresh_quiet}

quiet_along : (id : ℕ) (weights : List ℕ) (n : ℕ) (bounds : List ℕ) (gates : List Gate) → All IsQuiet bounds → first_passing id weights n bounds gates ≡ None → All IsQuiet (along (with_bound id weights) bounds gates)
quiet_along id weights n bounds [] q h = q
quiet_along id weights n bounds (g ∷ gates) q h =
    by (passes (bound_of id weights bounds g)) refl h (λ quiet. quiet_along id weights (n + 1) (with_bound id weights bounds g) gates (All-push IsQuiet bounds (bound_of id weights bounds g) q quiet))
  where
    by : (b : Bool) → passes (bound_of id weights bounds g) ≡ b → cond b (Some (n, bound_of id weights bounds g)) (first_passing id weights (n + 1) (with_bound id weights bounds g) gates) ≡ None
        → (IsQuiet (bound_of id weights bounds g) → first_passing id weights (n + 1) (with_bound id weights bounds g) gates ≡ None → All IsQuiet (along (with_bound id weights) (with_bound id weights bounds g) gates))
        → All IsQuiet (along (with_bound id weights) (with_bound id weights bounds g) gates)
    by true e none rest = cc
    by false e none rest = rest (leb-false (2 ^ 58) (2 * bound_of id weights bounds g) e) none

fresh_all : {A : Type 0} (id : ℕ) (xs : List A) → IsQuiet (fresh_of id) → All IsQuiet (fresh_bounds id xs)
fresh_all id [] q = All-nil IsQuiet
fresh_all id (x ∷ xs) q = All-cons IsQuiet (fresh_of id) (fresh_bounds id xs) q (fresh_all id xs q)

none_is : {A : Type 0} (o : Option A) → IsTrue (is_none o) → o ≡ None
none_is None h = refl
none_is (Some x) h = cc

pub quiet_law : (p : Plan) → IsCircuit p → All IsQuiet (wire_bounds p.preset (weights_of p.preset p.vectors) p.inputs p.gates)
quiet_law p h =
    let formed = both_true (is_between 1 5 p.preset) (are_inputs p && (are_vectors p && (are_gates p && are_outputs p))) h.0 in
    let range = both_true (leb 1 p.preset) (leb p.preset 5) formed.0 in
    let fresh = fresh_quiet p.preset (leb-true 1 p.preset range.0) (leb-true p.preset 5 range.1) in
    quiet_along p.preset (weights_of p.preset p.vectors) 0 (fresh_bounds p.preset p.inputs) p.gates (fresh_all p.preset p.inputs fresh) (none_is (passing p) h.1)
