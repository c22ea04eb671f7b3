use Rattle.std.proofs.Common.{◌≡◌, ◌-◌, arith}
use Rattle.heco_wide.proofs.Joins.{joins_none, joins_small, joins_next, joins_all, first_small}
use Rattle.heco_wide.proofs.product.multiply.Goals as goal

pub loop-i-init : goal.loop-i-init
loop-i-init c = joins_none c.args.f.now.depth c.args.x.now c.args.y.now c.clear_wide.new.room c.clear_wide.ensures.room c.clear_wide.ensures.zero

pub join_sum-requires-clause-small : goal.join_sum-requires-clause-small
join_sum-requires-clause-small c = joins_small c.args.f.now.depth c.loop-i.i c.args.x.now c.args.y.now c.loop-i.room c.args.f.now.short (omega arith) c.requires.x c.requires.y c.loop-i.invariant

pub loop-i-preserved : goal.loop-i-preserved
loop-i-preserved c = joins_next c.args.f.now.depth c.loop-i.i c.args.x.now c.args.y.now c.loop-i.room c.join_sum.new.room c.join_sum.ensures.room c.loop-i.invariant
    (λ a b ia ib k l. c.join_sum.ensures.value _ (c.add_part.ensures.sum _ a b c.clear.ensures.zero ia ib) (λ j jl. first_small c.args.f.now.depth (4 - c.loop-i.i) j a b c.args.x.now c.args.y.now c.args.f.now.short ia ib jl) k l)

pub returns-clause-value : goal.returns-clause-value
returns-clause-value c = λ a b ha hb k l.
    let done : c.loop-i.i ≡ 5 = omega arith in
    joins_all c.args.f.now.depth k c.args.x.now c.args.y.now c.loop-i.room a b (rw done at c.loop-i.invariant) ha hb l
