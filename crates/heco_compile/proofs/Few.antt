-- A placed circuit has at most as many gates as its nodes.
use Rattle.std.proofs.Common.{◌≡◌, ◌∙◌, sym, ap, ℕ, ◌≤◌, List, length, arith}
use Rattle.heco_circuit.specs.Plans.{Plan}
use Rattle.heco_syntax.specs.declared.tree.Source.{Source}
use Rattle.std.specs.List.{sum_by}
use Rattle.heco_written.specs.Cost.{gates, cost}
use Rattle.heco_ir.specs.declared.home.Home.{Home}
use Rattle.heco_ir.specs.declared.vector.VNode.{VNode}
use Rattle.heco_ir.specs.Ranges.{gates_of_nodes}
use Rattle.heco_ir.specs.Terms.{terms_at, vector_terms}
use Rattle.heco_ir.specs.Gates.{Agrees}
use Rattle.heco_thrift.specs.Thrift.{IsThrifty}
use Rattle.heco_good.specs.Good.{homes_of}
use Rattle.heco_compile.specs.inside.Vectors.{AreVectors}

pub few_gates : (source : Source) (nodes : List VNode) (roots : List ℕ) (homes : List Home) → (h : AreVectors source nodes roots homes) → (used : List VNode) (used_roots : List ℕ)
    → terms_at used used_roots ≡ terms_at nodes roots → gates_of_nodes used ≤ gates_of_nodes nodes → Agrees (vector_terms used) (terms_at used used_roots)
    → gates_of_nodes used ≡ sum_by gates (vector_terms used) → (c : Plan) → IsThrifty c (homes_of source h.terms) → length c.gates ≤ 20447232
few_gates source nodes roots homes h used used_roots e fewer agrees same c thrift =
    omega (arith, thrift.gates, ap cost (sym h.roots_are ∙ sym e), agrees.gates_are, same, fewer, h.few)
