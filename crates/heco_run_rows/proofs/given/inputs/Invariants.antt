use Rattle.std.proofs.Common.{◌≡◌, length}
use Rattle.heco_run.specs.Shapes.{AreTwoParts}
use Rattle.heco_run_rows.proofs.given.inputs.Given as goal

abbrev pub invariant-loop-x : goal.invariant-loop-x
invariant-loop-x l = record {
  count : length l.ins.items ≡ l.x;
  shaped : AreTwoParts l.g.eval.preset.n l.ins.items;
}
