use Rattle.heco_bfv.proofs.PhaseSteps.{decrypted_below}
use Rattle.heco_rows.proofs.decryption.decrypt_two.Goals as goal

pub decode_two-requires-clause-below : goal.decode_two-requires-clause-below
decode_two-requires-clause-below c =
    rw (c.decrypt_poly.ensures.formula, c.requires.table) (decrypted_below c.args.s.now.preset c.args.s.now.places c.args.c.now)
