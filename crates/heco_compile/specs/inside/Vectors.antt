-- The vectors of a source's output elements.
use Rattle.std.specs.Prelude.{◌≡◌, ℕ, ◌≤◌, false, List, length}
use Rattle.heco_syntax.specs.declared.tree.Source.{Source}
use Rattle.heco_types.specs.Shapes.{shapes_of}
use Rattle.heco_written.specs.ScalarTerm.{ScalarTerm}
use Rattle.heco_ir.specs.declared.home.Home.{Home}
use Rattle.heco_ir.specs.declared.scalar.SNode.{SNode}
use Rattle.heco_ir.specs.declared.vector.VNode.{VNode}
use Rattle.heco_ir.specs.Ranges.{AllFit, gates_of_nodes}
use Rattle.heco_ir.specs.Terms.{terms_at}
use Rattle.heco_ir.specs.Unrolled.{AllElementsBelow}
use Rattle.heco_ir.specs.Used.{EachOnce}
use Rattle.heco_batch.specs.Roots.{homes_from}
use Rattle.heco_ir.specs.Homes.{AllHomesFit}
use Rattle.heco_written.specs.WrittenForm.{vectors_of}
use Rattle.heco_good.specs.Good.{modulus, slots, homes_of}
use Rattle.heco_good.specs.Placed.{AreTerms}

-- the roots are the vectors of the written homes of the source's terms, and the homes number them; each node stands once,
-- and all are as a circuit of the source may have them
pub record AreVectors (source : Source) (nodes : List VNode) (roots : List ℕ) (homes : List Home) : Type 0 where
  pub terms : List (List ScalarTerm)
  pub are : AreTerms source terms
  pub homes_are : homes ≡ homes_from 0 (homes_of source terms)
  pub roots_are : terms_at nodes roots ≡ vectors_of (homes_of source terms)
  pub homes_fit : AllHomesFit (slots source) (modulus source) homes
  pub once : EachOnce nodes
  pub few : gates_of_nodes nodes ≤ 20447232
  pub scalars : List SNode
  pub elements : AllElementsBelow (length (shapes_of false source.ports)) scalars
  pub fit : AllFit (slots source) (modulus source) scalars nodes
