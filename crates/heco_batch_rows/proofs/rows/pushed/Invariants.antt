use Rattle.heco_batch.specs.Plain.{ArePlain}
use Rattle.heco_batch_rows.proofs.rows.pushed.Given as goal

abbrev pub invariant-loop-text : goal.invariant-loop-text
invariant-loop-text l = ArePlain l.s.p.t l.s.p.slots l.s.count l.s.nodes
