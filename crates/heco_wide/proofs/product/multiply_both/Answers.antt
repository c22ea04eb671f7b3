use Rattle.std.proofs.Common.{◌≡◌, ◌-◌, arith}
use Rattle.heco_wide.proofs.Joins.{both_none, both_small, both_next, both_all, sum_small}
use Rattle.heco_wide.proofs.product.multiply_both.Goals as goal

pub loop-i-init : goal.loop-i-init
loop-i-init c = both_none c.args.f.now.depth c.args.x.now c.args.w.now c.args.y.now c.args.z.now c.clear_wide.new.room c.clear_wide.ensures.room c.clear_wide.ensures.zero

pub join_sum-requires-clause-small : goal.join_sum-requires-clause-small
join_sum-requires-clause-small c = both_small c.args.f.now.depth c.loop-i.i c.args.x.now c.args.w.now c.args.y.now c.args.z.now c.loop-i.room c.args.f.now.short (omega arith) c.requires.x c.requires.w c.requires.y c.requires.z c.loop-i.invariant

pub loop-i-preserved : goal.loop-i-preserved
loop-i-preserved c = both_next c.args.f.now.depth c.loop-i.i c.args.x.now c.args.w.now c.args.y.now c.args.z.now c.loop-i.room c.join_sum.new.room c.join_sum.ensures.room c.loop-i.invariant
    (λ p q r s ip iq ir is k l. c.join_sum.ensures.value _ (c.add_part-in-loop-i.ensures.sum _ r s (c.add_part.ensures.sum _ p q c.clear.ensures.zero ip iq) ir is)
    (λ j jl. sum_small c.args.f.now.depth (4 - c.loop-i.i) j p q r s c.args.x.now c.args.w.now c.args.y.now c.args.z.now c.args.f.now.short ip iq ir is jl) k l)

pub returns-clause-value : goal.returns-clause-value
returns-clause-value c = λ p q r s ip iq ir is k l.
    let done : c.loop-i.i ≡ 5 = omega arith in
    both_all c.args.f.now.depth k c.args.x.now c.args.w.now c.args.y.now c.args.z.now c.loop-i.room p q r s (rw done at c.loop-i.invariant) ip iq ir is l
