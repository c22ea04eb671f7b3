use Rattle.std.specs.Prelude.{ℕ, List, [], ◌∷◌, Contains}
use Rattle.heco_written.specs.ScalarTerm.{ScalarTerm}
use Rattle.heco_ir.specs.declared.vector.VNode.{VNode}
use Rattle.heco_ir.specs.declared.scalar.SNode.{SNode}
use Rattle.heco_ir.specs.declared.scalar.SNode.TheVariants.{Elem}
use Rattle.heco_ir.specs.declared.vector.VNode.TheVariants.{Input}
use Rattle.heco_batch.specs.declared.written.NodeWritten.{NodeWritten}
use Rattle.heco_batch.specs.inside.Written.{WrittenIs}

-- the written forms of terms, in order
abbrev pub TableIs : List VNode → ℕ → ℕ → List NodeWritten → List ScalarTerm → Type 0
TableIs nodes slots modulus [] [] = Unit {0}
TableIs nodes slots modulus (d ∷ ds) (x ∷ xs) = WrittenIs nodes slots modulus d x × TableIs nodes slots modulus ds xs
TableIs nodes slots modulus ds xs = ⊥

-- each element's input is among the vector nodes
abbrev pub HasInputs : List SNode → List VNode → Type 0
HasInputs ns nodes = (a i : ℕ) → Contains ns (Elem a i) → Contains nodes (Input a)
