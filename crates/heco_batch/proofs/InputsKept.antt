-- The inputs of elements are among the vector nodes.
use Rattle.std.proofs.Common.{◌≡◌, ℕ, ◌<◌, List, length, ap, sym, ◌∙◌, arith, true, get_or}
use Rattle.std.specs.Prelude.{slice_get, Some, None, Contains}
use Rattle.std.proofs.lemmas.Option.{slice_get-get_or}
use Rattle.heco_written.specs.ScalarTerm.{Number}
use Rattle.heco_written.specs.VectorTerm.{Input as InputTerm}
use Rattle.heco_written.specs.WrittenForm.{At}
use Rattle.heco_ir.specs.declared.scalar.SNode.{SNode}
use Rattle.heco_ir.specs.declared.scalar.SNode.TheVariants.{Elem}
use Rattle.heco_ir.specs.declared.vector.VNode.{VNode}
use Rattle.heco_ir.specs.declared.vector.VNode.TheVariants.{Input}
use Rattle.heco_ir.specs.Values.{all_earlier}
use Rattle.heco_ir.specs.Vectors.{vector_operands}
use Rattle.heco_ir.specs.Terms.{scalar_terms, vector_terms}
use Rattle.heco_ir.proofs.Unique.{vector_terms-at, input_node}
use Rattle.heco_batch.specs.declared.home.NodeHome.{NodeHome}
use Rattle.heco_batch.specs.declared.home.NodeHome.TheVariants.{Number as NumberNode, At as AtNode}
use Rattle.heco_batch.specs.declared.written.NodeWritten.{NodeWritten}
use Rattle.heco_batch.specs.inside.Homes.{HomeIs}
use Rattle.heco_batch.specs.inside.Written.{WrittenIs}
use Rattle.heco_batch.specs.Table.{TableIs, HasInputs}
use Rattle.heco_batch.proofs.RootsAdded.{table_long}
use Rattle.heco_batch.proofs.TableRead.{table_at, term_here}

module _ (nodes : List VNode) (slots modulus : ℕ) (earlier : all_earlier vector_operands 0 nodes ≡ true) where
  at_input : (a i : ℕ) (d : NodeHome) → HomeIs nodes slots modulus d (At (record { vector = InputTerm a; slot = i })) → Contains nodes (Input a)
  at_input a i (NumberNode c) h = absurd h
  at_input a i (AtNode p) h =
      let l : p.node.0 < length nodes = h.0.within in
      let t : get_or (vector_terms nodes) p.node.0 (InputTerm 0) ≡ InputTerm a = ap (λ q. q.vector) h.0.is in
      (p.node.0, l, input_node (vector_terms nodes) a (get_or nodes p.node.0 (Input a)) (sym (vector_terms-at nodes p.node.0 (Input a) earlier l) ∙ t))

  pub has_inputs : (table : List NodeWritten) (ns : List SNode) → TableIs nodes slots modulus table (scalar_terms ns) → HasInputs ns nodes
  has_inputs table ns h a i (k, l, e) =
      let here : slice_get ns k ≡ Some (Elem a i) = slice_get-get_or ns k (Elem a i) l ∙ ap Some e in
      let d : NodeWritten = record { home = NumberNode 0; members = None } in
      let w = table_at nodes slots modulus table (scalar_terms ns) k d h (omega (arith, l, table_long nodes slots modulus table ns h)) in
      let v : WrittenIs nodes slots modulus (get_or table k d) (get_or (scalar_terms ns) k (Number 0)) = w in
      let u = rw (term_here ns k (Elem a i) here) at v in
      at_input a i (get_or table k d).home u.home_is
