use Rattle.heco_jobs.proofs.report.write_malformed.Goals as goal

pub returns-clause-wrote : goal.returns-clause-wrote
returns-clause-wrote g c = λ told.
    let h = c.write_offset.ensures.wrote told in
    rw (c.as_slice.ensures) at h
