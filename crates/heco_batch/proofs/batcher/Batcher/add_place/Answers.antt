use Rattle.std.proofs.Common.{◌≡◌, ap, ◌∙◌, sym}
use Rattle.heco_written.specs.VectorTerm.{Added, turned_by}
use Rattle.heco_written.specs.WrittenForm.{beside, distance}
use Rattle.heco_ir.specs.Terms.{vector_at, vector_terms}
use Rattle.heco_ir.proofs.Extended.{term_stands}
use Rattle.heco_batch.specs.inside.Places.{place_at, place_at_option}
use Rattle.std.proofs.Common.{arith}
use Rattle.heco_ir.proofs.Extended.{extends_length, extends_more}
use Rattle.heco_batch.proofs.batcher.Batcher.add_place.Goals as goal

pub returns-clause-place : goal.returns-clause-place
returns-clause-place c =
    let w = rw c.in-Some.is at c.requires.head in
    let e : Added (vector_at (vector_terms c.align.new.c) c.in-Some.head.node) (vector_at (vector_terms c.align.new.c) c.in_ok-aligned.aligned)
    ≡ Added (vector_at (vector_terms c.args.c.now) c.in-Some.head.node) (turned_by (distance c.args.self.slots c.in-Some.head.slot c.args.p.slot) (place_at c.args.c.now c.args.p).vector) =
    ap (λ x. Added x (vector_at (vector_terms c.align.new.c) c.in_ok-aligned.aligned)) (term_stands c.in-Some.head.node.0 c.in_ok-aligned.ensures.stands w.0)
    ∙ ap (Added (vector_at (vector_terms c.args.c.now) c.in-Some.head.node)) c.in_ok-aligned.ensures.term.is in
    record {
      within = c.in_ok-node.ensures.term.within;
      is = ap (λ v. record { vector = v; slot = c.in-Some.head.slot }) (c.in_ok-node.ensures.term.is ∙ e)
          ∙ sym (ap (λ h. beside c.args.self.slots (place_at_option c.args.c.now h) (place_at c.args.c.now c.args.p)) c.in-Some.is);
    }

pub put-requires-clause-room : goal.put-requires-clause-room
put-requires-clause-room c = omega (arith, (extends_length c.align.ensures.stands).1)

pub returns-clause-stands : goal.returns-clause-stands
returns-clause-stands c = extends_more c.align.ensures.stands c.put.ensures.stands

pub returns-clause-fits : goal.returns-clause-fits
returns-clause-fits c = λ modulus es h. c.put.ensures.fits c.args.self.slots modulus es tt (c.align.ensures.fits modulus es h)

pub returns-in_err-node-clause-fits : goal.returns-in_err-node-clause-fits
returns-in_err-node-clause-fits c = λ modulus es h. c.put.ensures.fits c.args.self.slots modulus es tt (c.align.ensures.fits modulus es h)
