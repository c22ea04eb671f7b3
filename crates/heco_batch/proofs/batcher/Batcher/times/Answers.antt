use Rattle.std.proofs.Common.{ap, ◌∙◌}
use Rattle.heco_written.specs.VectorTerm.{Multiplied}
use Rattle.heco_ir.specs.Terms.{vector_at, vector_terms}
use Rattle.heco_ir.proofs.Extended.{term_stands}
use Rattle.std.proofs.Common.{arith}
use Rattle.heco_ir.proofs.Extended.{extends_length, extends_more}
use Rattle.heco_batch.proofs.batcher.Batcher.times.Goals as goal

pub returns-clause-home : goal.returns-clause-home
returns-clause-home c = (
  record {
    within = c.in_ok-node.ensures.term.within;
    is = ap (λ v. record { vector = v; slot = c.args.p.slot }) (c.in_ok-node.ensures.term.is
        ∙ ap (λ x. Multiplied x (vector_at (vector_terms c.align.new.c) c.in_ok-aligned.aligned)) (term_stands c.args.p.node.0 c.in_ok-aligned.ensures.stands c.requires.left)
        ∙ ap (Multiplied (vector_at (vector_terms c.args.c.now) c.args.p.node)) c.in_ok-aligned.ensures.term.is);
  },
  c.requires.left_slot,
)

pub put-requires-clause-room : goal.put-requires-clause-room
put-requires-clause-room c = omega (arith, (extends_length c.align.ensures.stands).1)

pub returns-clause-stands : goal.returns-clause-stands
returns-clause-stands c = extends_more c.align.ensures.stands c.put.ensures.stands

pub returns-in_err-aligned-clause-fits : goal.returns-in_err-aligned-clause-fits
returns-in_err-aligned-clause-fits c = λ es h. c.align.ensures.fits c.args.self.modulus es h

pub returns-clause-fits : goal.returns-clause-fits
returns-clause-fits c = λ es h. c.put.ensures.fits c.args.self.slots c.args.self.modulus es tt (c.align.ensures.fits c.args.self.modulus es h)

pub returns-in_err-node-clause-fits : goal.returns-in_err-node-clause-fits
returns-in_err-node-clause-fits c = λ es h. c.put.ensures.fits c.args.self.slots c.args.self.modulus es tt (c.align.ensures.fits c.args.self.modulus es h)
