-- How many gates there are, what bounds and what needs they have.
use Rattle.std.proofs.Common.{◌≡◌, ℕ, zero, suc, ◌+◌, ◌<◌, ◌≤◌, Bool, true, false, cond, ltb, List, [], ◌∷◌, ◌++◌, length, map, None, refl, sym, ap, ◌∙◌, get_or, arith}
use Rattle.std.specs.List.{list_any, sum_by, count_by, flat_map}
use Rattle.std.proofs.lemmas.Bool.{leb-true, ltb-true}
use Rattle.std.proofs.lemmas.Bool.Decides.{nat_tests}
use Rattle.std.proofs.lemmas.List.{length_push, get_or_at, take_all}
use Rattle.std.proofs.lemmas.List.Sums.{sum_by_push}
use Rattle.heco_nums.specs.Runs.{along, all_along}
use Rattle.heco_nums.specs.declared.shape.Shape.{Shape}
use Rattle.heco_noise.specs.Rows.{passes, IsQuiet}
use Rattle.heco_written.specs.VectorTerm.{VectorTerm}
use Rattle.heco_written.specs.Cost.{gates, late_gates, is_due}
use Rattle.heco_written.specs.Needs.{is_product, turns_by}
use Rattle.heco_ir.specs.declared.vector.VNode.{VNode}
use Rattle.heco_ir.specs.declared.vector.VNode.TheVariants.{Input as InputNode, Neg, Add, Mul, Scale, Shift, Turn}
use Rattle.heco_ir.specs.Ranges.{node_gates, gates_of_nodes}
use Rattle.heco_ir.specs.Terms.{vector_terms, vector_term_over}
use Rattle.heco_ir.specs.Arena.{built_from}
use Rattle.heco_circuit.specs.declared.gate.Gate.{Gate}
use Rattle.heco_circuit.specs.Bounds.{bound_of, with_bound, first_passing}
use Rattle.heco_circuit.specs.Needs.{is_relin, turns_by as gate_turns_by}
use Rattle.heco_place.specs.declared.carrier.Carrier.{Carrier}
use Rattle.heco_thrift.specs.Thrift.{is_product as is_product_gate, is_weighing}
use Rattle.heco_place.specs.Kinds.{is_relinearised, kind, kinds}
use Rattle.heco_place.specs.inside.Placing.{is_low, IsChosen}
use Rattle.heco_place.proofs.Bools.{left, right}
use Rattle.heco_place.proofs.Growing.{along-keeps}
use Rattle.heco_place.proofs.KindCounts.{gate_count, relin_count_is, mul_count_is, any_relin_is, any_turn_is, forms_differ, none_weighs as no_weighing}
use Rattle.heco_place.proofs.NodeTerms.{length-vector_terms}

-- bounds that are all low
pub low_at : (id most : ℕ) (bs : List ℕ) (gs : List Gate) → all_along (is_low id most) (with_bound id []) bs gs ≡ true → (k : ℕ) → k < length gs
    → get_or (along (with_bound id []) bs gs) (length bs + k) 0 ≤ most
low_at id most bs [] e k h = elim h [ ]
low_at id most bs (g ∷ gs) e zero h =
    let z : length bs + 0 ≡ length bs = omega arith in
    let b : ℕ = bound_of id [] bs g in
    let here : get_or (along (with_bound id []) (with_bound id [] bs g) gs) (length bs) 0 ≡ b =
    along-keeps (bound_of id []) (with_bound id [] bs g) gs (length bs) 0 (omega (arith, length_push bs b)) ∙ get_or_at bs b [] 0 (length bs) refl in
    rw (z, here) (leb-true b most (left _ _ e))
low_at id most bs (g ∷ gs) e (suc k) h =
    let s : length bs + suc k ≡ length (with_bound id [] bs g) + k = omega (arith, length_push bs (bound_of id [] bs g)) in
    rw s (low_at id most (with_bound id [] bs g) gs (right (is_low id most bs g) _ e) k (omega arith))

loud : (e most : ℕ) → e ≤ most → IsQuiet most → passes e ≡ false
loud e most le q = grind (arith, nat_tests)

pub none_passes : (id most : ℕ) → IsQuiet most → (n : ℕ) (bs : List ℕ) (gs : List Gate) → all_along (is_low id most) (with_bound id []) bs gs ≡ true → first_passing id [] n bs gs ≡ None
none_passes id most q n bs [] e = refl
none_passes id most q n bs (g ∷ gs) e =
    rw (loud (bound_of id [] bs g) most (leb-true _ most (left _ _ e)) q) (none_passes id most q (n + 1) (with_bound id [] bs g) gs (right (is_low id most bs g) _ e))

-- the number of gates of terms is that of their nodes
node_gates_are : (us : List VectorTerm) (n : VNode) → gates (vector_term_over us n) ≡ node_gates n
node_gates_are us (InputNode a) = refl
node_gates_are us (Neg v) = refl
node_gates_are us (Add v u) = refl
node_gates_are us (Mul v u) = refl
node_gates_are us (Scale c v) = refl
node_gates_are us (Shift c v) = refl
node_gates_are us (Turn r v) = refl

sum_built : (done : List VectorTerm) (ns : List VNode) → sum_by gates (built_from vector_term_over done ns) ≡ sum_by gates done + gates_of_nodes ns
sum_built done [] = omega arith
sum_built done (n ∷ ns) =
    omega (arith, sum_built (done ++ vector_term_over done n ∷ []) ns, sum_by_push gates done (vector_term_over done n), node_gates_are done n)

pub early_sum : (ns : List VNode) → sum_by gates (vector_terms ns) ≡ gates_of_nodes ns
early_sum ns = omega (arith, sum_built [] ns)

weights : (late : Bool) (ts vs xs : List VectorTerm) → sum_by (λ v. cond late (late_gates ts vs v) (gates v)) xs ≡ cond late (sum_by (late_gates ts vs) xs) (sum_by gates xs)
weights true ts vs xs = refl
weights false ts vs xs = refl

relins : (late : Bool) (ts vs xs : List VectorTerm) → count_by (is_relinearised late ts vs) xs ≡ cond late (count_by (is_due ts vs) xs) (count_by is_product xs)
relins true ts vs xs = refl
relins false ts vs xs = refl

-- the form with fewer gates
fewer : (late : Bool) (n e l d m : ℕ) → n ≡ cond late l e → l + m ≡ e + d → late ≡ ltb d m → (n ≤ e) × (n ≤ l)
fewer true n e l d m is differ c = let lt : d < m = ltb-true d m (sym c) in (omega arith, omega arith)
fewer false n e l d m is differ c = let le : m ≤ d = not_lt d m (sym c) in (omega arith, omega arith)
  where
    not_lt : (a b : ℕ) → ltb a b ≡ false → b ≤ a
    not_lt a b h = grind (arith, nat_tests)

few_relins : (late : Bool) (n d m : ℕ) → n ≡ cond late d m → late ≡ ltb d m → n ≤ m
few_relins true n d m is c = let lt : d < m = ltb-true d m (sym c) in omega arith
few_relins false n d m is c = omega arith

module _ (id most : ℕ) (inputs : List Shape) (ns : List VNode) (vs : List VectorTerm) (gs : List Gate) (ds : List Carrier) (c : IsChosen id most inputs ns vs gs ds) where
  abbrev ts : List VectorTerm
  ts = vector_terms ns

  pub are : map kind gs ≡ flat_map (kinds c.late ts vs) ts
  are = c.placing.kinds_are ∙ ap (flat_map (kinds c.late ts vs)) (take_all (length ns) ts (omega (arith, length-vector_terms ns)))

  pub gates_within : (length gs ≤ sum_by gates ts) × (length gs ≤ sum_by (late_gates ts vs) ts)
  gates_within =
      fewer c.late (length gs) (sum_by gates ts) (sum_by (late_gates ts vs) ts) (count_by (is_due ts vs) ts) (count_by is_product ts)
      (gate_count c.late ts vs gs ts are ∙ weights c.late ts vs ts) (forms_differ ts vs ts) c.chosen

  pub relins_within : count_by is_relin gs ≤ count_by is_product_gate gs
  relins_within =
      rw (mul_count_is c.late ts vs gs ts are)
      (few_relins c.late (count_by is_relin gs) (count_by (is_due ts vs) ts) (count_by is_product ts) (relin_count_is c.late ts vs gs ts are ∙ relins c.late ts vs ts) c.chosen)

  pub relins_are : list_any is_relin gs ≡ list_any (is_relinearised c.late ts vs) ts
  relins_are = any_relin_is c.late ts vs gs ts are

  pub turns_are : (r : ℕ) → list_any (gate_turns_by r) gs ≡ list_any (turns_by r) ts
  turns_are r = any_turn_is c.late ts vs gs ts are r

  pub none_weighs : list_any is_weighing gs ≡ false
  none_weighs = no_weighing c.late ts vs gs ts are
