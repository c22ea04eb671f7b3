use Rattle.std.proofs.Common.{◌≡◌, ap, ◌∙◌}
use Rattle.heco_written.specs.VectorTerm.{Added, Turned}
use Rattle.heco_ir.specs.Terms.{vector_at, vector_terms}
use Rattle.heco_ir.proofs.Extended.{term_stands}
use Rattle.heco_fold.proofs.run.beside.Goals as goal

pub returns-clause-term : goal.returns-clause-term
returns-clause-term c =
    let e : Added (vector_at (vector_terms c.put.new.self) c.args.v) (vector_at (vector_terms c.put.new.self) c.in_ok-turned.turned)
    ≡ Added (vector_at (vector_terms c.args.c.now) c.args.v) (Turned c.args.r (vector_at (vector_terms c.args.c.now) c.args.w)) =
    ap (λ x. Added x (vector_at (vector_terms c.put.new.self) c.in_ok-turned.turned)) (term_stands c.args.v.0 c.in_ok-turned.ensures.stands c.requires.left)
    ∙ ap (Added (vector_at (vector_terms c.args.c.now) c.args.v)) c.in_ok-turned.ensures.term.is in
    rw e at c.put-2.ensures.term

pub returns-clause-fits : goal.returns-clause-fits
returns-clause-fits c = λ slots modulus es some most h. c.put-2.ensures.fits slots modulus es tt (c.put.ensures.fits slots modulus es (some, most) h)
