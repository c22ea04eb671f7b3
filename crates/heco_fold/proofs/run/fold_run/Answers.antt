use Rattle.std.proofs.Common.{◌≡◌, ◌+◌, ◌^◌, ◌%◌, nat_eq, arith, refl}
use Rattle.heco_ir.proofs.Extended.{extends_length, extends_more}
use Rattle.heco_fold.proofs.Folding.{folding_start, folding_length, folding_turn, folding_next, folding_end, folding_stands, folding_room, folding_low}
use Rattle.heco_fold.proofs.run.fold_run.Goals as goal

pub loop-rest-init : goal.loop-rest-init
loop-rest-init c = record { folding = folding_start c.args.c.now c.args.v c.args.len c.requires.within c.requires.some; fits = λ slots modulus es le h. h }

pub low_bit-requires-clause-room : goal.low_bit-requires-clause-room
low_bit-requires-clause-room c = omega (arith, (folding_length c.loop-rest.invariant.folding c.requires.most).1)

pub returns-in_err-low-clause-stands : goal.returns-in_err-low-clause-stands
returns-in_err-low-clause-stands c = folding_turn c.loop-rest.invariant.folding c.loop-rest-test.true c.requires.most (omega arith) c.low_bit.ensures.stands

pub beside-requires-clause-room : goal.beside-requires-clause-room
beside-requires-clause-room c =
    omega (arith, (folding_length c.loop-rest.invariant.folding c.requires.most).1, (extends_length c.low_bit.ensures.stands).1)

pub returns-in_err-power-clause-stands : goal.returns-in_err-power-clause-stands
returns-in_err-power-clause-stands c =
    folding_turn c.loop-rest.invariant.folding c.loop-rest-test.true c.requires.most (omega arith) (extends_more c.low_bit.ensures.stands c.beside.ensures.stands)

pub loop-rest-preserved : goal.loop-rest-preserved
loop-rest-preserved c = record {
  folding =
      folding_next c.loop-rest.invariant.folding c.low_bit.new.c c.beside.new.c c.in_ok-low.low c.in_ok-power.power (nat_eq (c.loop-rest.rest % 2) 1)
      c.loop-rest-test.true refl c.in_ok-low.ensures.fold c.low_bit.ensures.stands c.low_bit.ensures.alone c.in_ok-power.ensures.term c.beside.ensures.stands;
  fits = λ slots modulus es le h.
      let (some, most) = folding_room c.loop-rest.invariant.folding c.loop-rest-test.true in
      c.beside.ensures.fits slots modulus es some (omega arith)
      (c.low_bit.ensures.fits _ _ _ slots modulus es c.loop-rest.invariant.folding.power_is c.loop-rest.invariant.folding.low_is
      (omega (arith, folding_low c.loop-rest.invariant.folding)) (c.loop-rest.invariant.fits slots modulus es le h));
}

-- what was turned already fits where the call fails
pub returns-in_err-low-clause-fits : goal.returns-in_err-low-clause-fits
returns-in_err-low-clause-fits c = λ slots modulus es le h.
    c.low_bit.ensures.fits _ _ _ slots modulus es c.loop-rest.invariant.folding.power_is c.loop-rest.invariant.folding.low_is
    (omega (arith, folding_low c.loop-rest.invariant.folding)) (c.loop-rest.invariant.fits slots modulus es le h)

pub returns-in_err-power-clause-fits : goal.returns-in_err-power-clause-fits
returns-in_err-power-clause-fits c = λ slots modulus es le h.
    let (some, most) = folding_room c.loop-rest.invariant.folding c.loop-rest-test.true in
    c.beside.ensures.fits slots modulus es some (omega arith)
    (c.low_bit.ensures.fits _ _ _ slots modulus es c.loop-rest.invariant.folding.power_is c.loop-rest.invariant.folding.low_is
    (omega (arith, folding_low c.loop-rest.invariant.folding)) (c.loop-rest.invariant.fits slots modulus es le h))

pub returns-clause-fits : goal.returns-clause-fits
returns-clause-fits c = λ slots modulus es le h.
    c.included.ensures.fits _ _ _ slots modulus es c.loop-rest.invariant.folding.power_is c.loop-rest.invariant.folding.low_is
    (omega (arith, folding_low c.loop-rest.invariant.folding)) (c.loop-rest.invariant.fits slots modulus es le h)

pub included-requires-clause-room : goal.included-requires-clause-room
included-requires-clause-room c = omega (arith, (folding_length c.loop-rest.invariant.folding c.requires.most).1)

pub returns-clause-term : goal.returns-clause-term
returns-clause-term c =
    let e : c.args.len ≡ 2 ^ c.loop-rest.invariant.folding.bit + c.loop-rest.invariant.folding.folded = folding_end c.loop-rest.invariant.folding (omega (arith, c.loop-rest.invariant.folding.left)) in
    rw e (c.included.ensures.fold _ _ _ c.loop-rest.invariant.folding.power_is c.loop-rest.invariant.folding.low_is)

pub returns-clause-stands : goal.returns-clause-stands
returns-clause-stands c = folding_stands c.loop-rest.invariant.folding c.included.new.c c.requires.most c.included.ensures.stands c.included.ensures.alone
