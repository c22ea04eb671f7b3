use Rattle.std.proofs.Common.{rules, arith, ◌∙◌}
use Rattle.heco_nums.proofs.Powers.{even_step, odd_step}
use Rattle.heco_nums.proofs.arithmetic.pow_t.Goals as goal
use Rattle.heco_nums.proofs.arithmetic.pow_t.Goals.{then-left-eq1, else-left-eq1}

pub loop-left-preserved : goal.loop-left-preserved
loop-left-preserved c = record {
  power_small = elim c.if-left-eq1.branch [
    | then-left-eq1 w ↦ search rules
    | else-left-eq1 w ↦ search rules
  ];
  square_small = search rules;
  value = elim c.if-left-eq1.branch [
    | then-left-eq1 w ↦ rw (w.power-is, c.mul_t-square.ensures, w.mul_t-power.ensures)
        (odd_step c.loop-left.power c.loop-left.square c.loop-left.left c.args.p.now.t w.if-left-eq1.true ∙ c.loop-left.invariant.value)
    | else-left-eq1 w ↦ rw (w.power-is, c.mul_t-square.ensures)
        (even_step c.loop-left.power c.loop-left.square c.loop-left.left c.args.p.now.t (omega (arith, w.if-left-eq1.false)) ∙ c.loop-left.invariant.value)
  ];
}
