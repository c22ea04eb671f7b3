use Rattle.std.proofs.Common.{◌≡◌, ap, ◌∙◌}
use Rattle.heco_written.specs.WrittenForm.{Place, beside, folded}
use Rattle.heco_ir.specs.Terms.{vector_at, vector_terms}
use Rattle.heco_batch.specs.inside.Places.{run_at, place_at_option}
use Rattle.heco_batch.proofs.Placed.{option_stands}
use Rattle.std.proofs.Common.{arith}
use Rattle.heco_ir.proofs.Extended.{extends_length, extends_more}
use Rattle.heco_batch.proofs.batcher.Batcher.add_run.Goals as goal

pub returns-clause-place : goal.returns-clause-place
returns-clause-place c =
    let here : ◌≡◌ {A = Place} (record { vector = vector_at (vector_terms c.fold_run.new.c) c.in_ok-node.node; slot = c.args.run.slot }) (folded (run_at c.args.c.now c.args.run)) =
    ap (λ v. record { vector = v; slot = c.args.run.slot }) c.in_ok-node.ensures.term.is in
    let e = ap (λ h. beside c.args.self.slots h (record { vector = vector_at (vector_terms c.fold_run.new.c) c.in_ok-node.node; slot = c.args.run.slot })) (option_stands c.args.self.slots c.args.head c.in_ok-node.ensures.stands c.requires.head)
    ∙ ap (λ p. beside c.args.self.slots (place_at_option c.args.c.now c.args.head) p) here in
    rw e at c.add_place.ensures.place

pub add_place-requires-clause-room : goal.add_place-requires-clause-room
add_place-requires-clause-room c = omega (arith, (extends_length c.fold_run.ensures.stands).1)

pub returns-clause-stands : goal.returns-clause-stands
returns-clause-stands c = extends_more c.fold_run.ensures.stands c.add_place.ensures.stands

pub returns-in_err-node-clause-fits : goal.returns-in_err-node-clause-fits
returns-in_err-node-clause-fits c = λ modulus es h. c.fold_run.ensures.fits c.args.self.slots modulus es c.requires.size h

pub returns-clause-fits : goal.returns-clause-fits
returns-clause-fits c = λ modulus es h. c.add_place.ensures.fits modulus es (c.fold_run.ensures.fits c.args.self.slots modulus es c.requires.size h)
