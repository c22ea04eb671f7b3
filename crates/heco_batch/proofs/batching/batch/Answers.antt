use Rattle.heco_batch.proofs.InputsKept.{has_inputs}
use Rattle.heco_batch.proofs.batching.batch.Goals as goal

pub returns-clause-elements : goal.returns-clause-elements
returns-clause-elements c = rw (c.finish.ensures, c.in_ok-nodes.ensures) (has_inputs _ _ _ c.len-valid.ensures.earlier _ _ c.in_ok-table.ensures.table)
