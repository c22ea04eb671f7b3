use Rattle.std.proofs.Common.{◌≡◌, length, arith, ◌∙◌}
use Rattle.heco_ir.proofs.Renaming.{renaming_length, renaming_below, renaming_next, mixed-all}
use Rattle.heco_ir.proofs.pass.rename.Goals as goal

pub operand-old-requires : goal.operand-old-requires
operand-old-requires g c = omega (arith, renaming_length c.loop-k.invariant)

pub bounds-ids-old : goal.bounds-ids-old
bounds-ids-old g c = rw c.operand-old.ensures (renaming_below c.loop-k.invariant (omega arith) c.requires)

pub with_operand-m-requires : goal.with_operand-m-requires
with_operand-m-requires g c = omega (arith, renaming_length c.loop-k.invariant)

pub loop-k-preserved : goal.loop-k-preserved
loop-k-preserved g c = renaming_next c.loop-k.invariant _ c.operand-old.ensures (omega arith) c.requires c.with_operand-m.ensures.operands c.with_operand-m.ensures.value

pub returns-clause-operands : goal.returns-clause-operands
returns-clause-operands g c =
    let e : c.loop-k.k ≡ length (g.D.Dialect.operands_of c.args.n) = omega arith in
    rw e at c.loop-k.invariant.operands ∙ mixed-all _ _
