use Rattle.std.proofs.Common.{◌∙◌, arith}
use Rattle.heco_circuit.specs.declared.gate.Gate.TheVariants.{Neg}
use Rattle.heco_peep.specs.inside.Dropped.{is_marked}
use Rattle.heco_peep.proofs.Marks.{step_marked, step_unmarked}
use Rattle.heco_peep.proofs.marking.mark_needed.Goals as goal

pub loop-i-preserved-then-marks-inputs : goal.loop-i-preserved-then-marks-inputs
loop-i-preserved-then-marks-inputs c =
    let v = c.loop-i.invariant in
    let p = c.loop-i-test.true in
    record {
      within = omega (arith, v.within);
      long = c.mark_operands.ensures.long ∙ v.long;
      each = step_marked (is_marked c.args.marks.now) c.args.inputs c.args.gates.now c.loop-i.marks c.mark_operands.new.marks c.loop-i.i _ p v.within v.each c.if-marks-inputs.true
          (λ a l. c.mark_operands.ensures.each a (omega (arith, l, v.long)));
    }

pub loop-i-preserved : goal.loop-i-preserved
loop-i-preserved c =
    let v = c.loop-i.invariant in
    record {
      within = omega (arith, v.within);
      long = v.long;
      each = step_unmarked (is_marked c.args.marks.now) c.args.inputs c.args.gates.now c.loop-i.marks c.loop-i.i (Neg 0) c.loop-i-test.true v.within v.each c.if-marks-inputs.false;
    }
