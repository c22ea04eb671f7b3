use Rattle.heco_jobs.proofs.report.write_preset.Goals as goal

pub returns-clause-wrote : goal.returns-clause-wrote
returns-clause-wrote g c = λ told.
    let h = c.write_other.ensures.wrote told in
    rw (c.as_slice.ensures, c.from.ensures, c.from-2.ensures) at h
