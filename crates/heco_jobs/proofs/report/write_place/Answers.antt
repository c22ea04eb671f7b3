use Rattle.heco_jobs.proofs.report.write_place.Goals as goal

pub returns-clause-wrote : goal.returns-clause-wrote
returns-clause-wrote g c = λ told.
    let h = c.write_pieces.ensures.wrote told in
    rw (c.as_bytes.ensures.value, c.as_slice.ensures, c.as_bytes-2.ensures.value, c.format.ensures.text, c.as_slice-2.ensures, c.as_bytes-3.ensures.value, c.format-2.ensures.text, c.as_slice-3.ensures, c.as_slice-4.ensures) at h
