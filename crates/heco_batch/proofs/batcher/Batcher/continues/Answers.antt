use Rattle.std.proofs.Common.{◌≡◌, ◌+◌, ◌%◌, ◌∙◌, sym, nat_eq, nat_lt, eq-eqb}
use Rattle.std.proofs.lemmas.Bool.{eqb-true}
use Rattle.heco_written.specs.VectorTerm.{same_vector}
use Rattle.heco_ir.specs.Terms.{vector_at, vector_terms}
use Rattle.heco_batch.proofs.Placed.{same_node, all_true, first_false, second_false}
use Rattle.heco_batch.proofs.batcher.Batcher.continues.Goals as goal
use Rattle.heco_batch.proofs.batcher.Batcher.continues.Goals.{then-run-p, else-run-p}

pub returns-then-p-run : goal.returns-then-p-run
returns-then-p-run c =
    let same : same_vector (vector_at (vector_terms c.args.c.now) c.args.run.node) (vector_at (vector_terms c.args.c.now) c.args.p.node) ≡ nat_eq c.args.run.node.0 c.args.p.node.0 =
    same_node c.args.c.now c.args.run.node.0 c.args.p.node.0 c.len-valid.ensures.earlier c.len-valid.ensures.once c.requires.run c.requires.within in
    elim c.if-run-p.branch [
      | then-run-p w ↦ all_true _ _ _ (same ∙ eq-eqb _ _ w.if-run-p.true) (sym w.value-is ∙ c.if-p-run.true)
      | else-run-p w ↦ absurd (w.if-run-p.false (eqb-true _ _ (sym w.value-is ∙ c.if-p-run.true)))
    ]

pub returns-else-p-run : goal.returns-else-p-run
returns-else-p-run c =
    let same : same_vector (vector_at (vector_terms c.args.c.now) c.args.run.node) (vector_at (vector_terms c.args.c.now) c.args.p.node) ≡ nat_eq c.args.run.node.0 c.args.p.node.0 =
    same_node c.args.c.now c.args.run.node.0 c.args.p.node.0 c.len-valid.ensures.earlier c.len-valid.ensures.once c.requires.run c.requires.within in
    elim c.if-run-p.branch [
      | then-run-p w ↦ c.if-p-run.false ∙ second_false _ _ _ (sym w.value-is ∙ c.if-p-run.false)
      | else-run-p w ↦ c.if-p-run.false ∙ first_false _ (nat_eq c.args.p.slot ((c.args.run.slot + c.args.run.size) % c.args.self.slots)) (nat_lt c.args.run.size c.args.self.slots) (same ∙ sym w.value-is ∙ c.if-p-run.false)
    ]
