use Rattle.std.proofs.Common.{◌∙◌}
use Rattle.heco_scheme.proofs.FreshNoise.{decrypted_is}
use Rattle.heco_bfv.proofs.decryption.decrypt_poly.Goals as goal

pub returns-clause-right : goal.returns-clause-right
returns-clause-right c = λ m E h x. c.message_into.ensures.formula ∙ decrypted_is c.args.s.now.preset c.args.s.now.places c.args.c.now m E h x
