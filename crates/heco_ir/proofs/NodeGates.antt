-- The gates of nodes are those of their terms.
use Rattle.std.proofs.Common.{◌≡◌, ℕ, ◌+◌, List, [], ◌∷◌, ◌++◌, refl, arith, ◌∙◌}
use Rattle.std.specs.List.{sum_by}
use Rattle.std.proofs.lemmas.List.Recursion.{is_sum_by}
use Rattle.heco_written.specs.VectorTerm.{VectorTerm}
use Rattle.heco_written.specs.Cost.{gates}
use Rattle.heco_ir.specs.declared.vector.VNode.{VNode}
use Rattle.heco_ir.specs.declared.vector.VNode.TheVariants.{Input, Neg, Add, Mul, Scale, Shift, Turn}
use Rattle.heco_ir.specs.Arena.{built_from}
use Rattle.heco_ir.specs.Ranges.{node_gates, gates_of_nodes}
use Rattle.heco_ir.specs.Terms.{vector_term_over, vector_terms}

abbrev total : List VectorTerm → ℕ
total [] = 0
total (x ∷ xs) = gates x + total xs

total-push : (xs : List VectorTerm) (x : VectorTerm) → total (xs ++ x ∷ []) ≡ total xs + gates x
total-push [] x = let e : gates x + 0 ≡ 0 + gates x = omega arith in e
total-push (y ∷ xs) x = let e : gates y + total (xs ++ x ∷ []) ≡ gates y + total xs + gates x = omega (arith, total-push xs x) in e

one : (ts : List VectorTerm) (n : VNode) → gates (vector_term_over ts n) ≡ node_gates n
one ts (Input a) = refl
one ts (Neg v) = refl
one ts (Add v w) = refl
one ts (Mul v w) = refl
one ts (Scale c v) = refl
one ts (Shift c v) = refl
one ts (Turn r v) = refl

all : (done : List VectorTerm) (ns : List VNode) → total (built_from vector_term_over done ns) ≡ total done + gates_of_nodes ns
all done [] = let e : total done ≡ total done + 0 = omega arith in e
all done (n ∷ ns) =
    let e : total (built_from vector_term_over (done ++ vector_term_over done n ∷ []) ns) ≡ total done + (node_gates n + gates_of_nodes ns) = omega (arith, all (done ++ vector_term_over done n ∷ []) ns, total-push done (vector_term_over done n), one done n) in e

pub node_gates_law : (ns : List VNode) → gates_of_nodes ns ≡ sum_by gates (vector_terms ns)
node_gates_law ns =
    let e : gates_of_nodes ns ≡ total (vector_terms ns) = omega (arith, all [] ns) in
    e ∙ is_sum_by total gates refl (λ x xs. refl) (vector_terms ns)
