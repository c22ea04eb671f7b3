use Rattle.heco_batch_rows.proofs.scalars.Scalars.batched.Goals as goal

pub batch-requires-clause-inputs : goal.batch-requires-clause-inputs
batch-requires-clause-inputs c = rw c.finish.ensures c.requires.elements
