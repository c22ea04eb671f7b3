use Rattle.std.proofs.Common.{◌≡◌, length, arith, subst, ◌∙◌, ℕ}
use Rattle.heco_transform.proofs.QuartersBack.{Back, back_more, unfolds_twice}
use Rattle.heco_transform.proofs.inverse.inverse_quarters.Goals as goal

pub loop-i-preserved : goal.loop-i-preserved
loop-i-preserved c =
    let second : length c.loop-i.second ≡ length c.args.first.now = c.loop-i.auto.second ∙ c.requires.second_long in
    let third : length c.loop-i.third ≡ length c.args.first.now = c.loop-i.auto.third ∙ c.requires.third_long in
    let fourth : length c.loop-i.fourth ≡ length c.args.first.now = c.loop-i.auto.fourth ∙ c.requires.fourth_long in
    back_more (length c.args.first.now) c.loop-i.i c.args.s c.args.u c.args.v
    c.inverse_butterfly-c0.result.0 c.inverse_butterfly-c0.result.1 c.inverse_butterfly-c2.result.0 c.inverse_butterfly-c2.result.1
    c.inverse_butterfly-b0.result.0 c.inverse_butterfly-b1.result.0 c.inverse_butterfly-b0.result.1 c.inverse_butterfly-b1.result.1
    c.args.first.now c.args.second.now c.args.third.now c.args.fourth.now c.loop-i.first c.loop-i.second c.loop-i.third c.loop-i.fourth
    (omega arith) c.loop-i.auto.first second third fourth c.loop-i.invariant
    c.inverse_butterfly-c0.ensures.sum c.inverse_butterfly-c0.ensures.difference c.inverse_butterfly-c2.ensures.sum c.inverse_butterfly-c2.ensures.difference
    c.inverse_butterfly-b0.ensures.sum c.inverse_butterfly-b0.ensures.difference c.inverse_butterfly-b1.ensures.sum c.inverse_butterfly-b1.ensures.difference
    (omega arith) (omega arith) (omega arith)

pub returns-clause-value : goal.returns-clause-value
returns-clause-value c =
    let end : c.loop-i.i ≡ length c.args.first.now = omega arith in
    let second : length c.loop-i.second ≡ length c.args.first.now = c.loop-i.auto.second ∙ c.requires.second_long in
    let third : length c.loop-i.third ≡ length c.args.first.now = c.loop-i.auto.third ∙ c.requires.third_long in
    unfolds_twice (length c.args.first.now) c.args.s c.args.u c.args.v c.args.first.now c.args.second.now c.args.third.now c.args.fourth.now c.loop-i.first c.loop-i.second c.loop-i.third c.loop-i.fourth
    c.loop-i.auto.first second third
    (subst (λ (i : ℕ). Back (length c.args.first.now) i c.args.s c.args.u c.args.v c.args.first.now c.args.second.now c.args.third.now c.args.fourth.now c.loop-i.first c.loop-i.second c.loop-i.third c.loop-i.fourth) end c.loop-i.invariant)
