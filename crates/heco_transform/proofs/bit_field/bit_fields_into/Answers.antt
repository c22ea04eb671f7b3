use Rattle.std.proofs.Common.{◌≡◌, length, arith, ◌∙◌}
use Rattle.heco_transform.proofs.Parts.{parted_more, parted_all, parted_below}
use Rattle.heco_transform.proofs.bit_field.bit_fields_into.Goals as goal

pub loop-i-preserved : goal.loop-i-preserved
loop-i-preserved c = parted_more c.loop-i.i c.args.shift c.args.bits c.bit_field.result c.args.a.now c.loop-i.out (omega (arith, c.loop-i.auto.out)) c.loop-i.invariant c.bit_field.ensures

pub returns-clause-value : goal.returns-clause-value
returns-clause-value c =
    let e : c.loop-i.i ≡ length c.loop-i.out = omega (arith, c.loop-i.auto.out) in
    parted_all c.args.shift c.args.bits c.args.a.now c.loop-i.out (c.loop-i.auto.out ∙ c.requires.long) (rw e at c.loop-i.invariant)

pub returns-clause-below : goal.returns-clause-below
returns-clause-below c =
    let e : c.loop-i.i ≡ length c.loop-i.out = omega (arith, c.loop-i.auto.out) in
    parted_below c.args.shift c.args.bits c.args.a.now c.loop-i.out c.requires.bits (c.loop-i.auto.out ∙ c.requires.long) (rw e at c.loop-i.invariant)
