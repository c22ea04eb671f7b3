use Rattle.std.proofs.Common.{◌≡◌, length, arith, refl, subst, ◌∙◌, ℕ}
use Rattle.heco_transform.proofs.Quarters.{Quarters, quarters_more, folded_twice}
use Rattle.heco_transform.proofs.forward.forward_quarters.Goals as goal

pub loop-i-preserved : goal.loop-i-preserved
loop-i-preserved c =
    let second : length c.loop-i.second ≡ length c.args.first.now = c.loop-i.auto.second ∙ c.requires.second_long in
    let third : length c.loop-i.third ≡ length c.args.first.now = c.loop-i.auto.third ∙ c.requires.third_long in
    let fourth : length c.loop-i.fourth ≡ length c.args.first.now = c.loop-i.auto.fourth ∙ c.requires.fourth_long in
    quarters_more (length c.args.first.now) c.loop-i.i c.args.s c.args.u c.args.v
    c.forward_butterfly-b0.result.0 c.forward_butterfly-b1.result.0 c.forward_butterfly-b0.result.1 c.forward_butterfly-b1.result.1
    c.forward_butterfly-c0.result.0 c.forward_butterfly-c0.result.1 c.forward_butterfly-c2.result.0 c.forward_butterfly-c2.result.1
    c.args.first.now c.args.second.now c.args.third.now c.args.fourth.now c.loop-i.first c.loop-i.second c.loop-i.third c.loop-i.fourth
    (omega arith) c.loop-i.auto.first second third fourth c.loop-i.invariant
    c.forward_butterfly-b0.ensures.sum c.forward_butterfly-b0.ensures.difference c.forward_butterfly-b1.ensures.sum c.forward_butterfly-b1.ensures.difference
    c.forward_butterfly-c0.ensures.sum c.forward_butterfly-c0.ensures.difference c.forward_butterfly-c2.ensures.sum c.forward_butterfly-c2.ensures.difference
    (omega (arith, c.forward_butterfly-b0.ensures.sum_room, c.forward_butterfly-c0.ensures.sum_room))
    (omega (arith, c.forward_butterfly-b0.ensures.sum_room, c.forward_butterfly-c0.ensures.difference_room))
    (omega (arith, c.forward_butterfly-b0.ensures.difference_room, c.forward_butterfly-c2.ensures.sum_room))
    (omega (arith, c.forward_butterfly-b0.ensures.difference_room, c.forward_butterfly-c2.ensures.difference_room))

pub returns-clause-folded : goal.returns-clause-folded
returns-clause-folded c =
    let end : c.loop-i.i ≡ length c.args.first.now = omega arith in
    folded_twice (length c.args.first.now) c.args.s c.args.u c.args.v c.args.first.now c.args.second.now c.args.third.now c.args.fourth.now c.loop-i.first c.loop-i.second c.loop-i.third c.loop-i.fourth
    refl c.requires.second_long c.requires.third_long
    (subst (λ (i : ℕ). Quarters (length c.args.first.now) i c.args.s c.args.u c.args.v c.args.first.now c.args.second.now c.args.third.now c.args.fourth.now c.loop-i.first c.loop-i.second c.loop-i.third c.loop-i.fourth) end c.loop-i.invariant)
