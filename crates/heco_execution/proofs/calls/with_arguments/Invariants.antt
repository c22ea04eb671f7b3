use Rattle.std.proofs.Common.{◌≡◌, drop}
use Rattle.heco_execution.specs.States.{nothing}
use Rattle.heco_execution.specs.Evaluation.{with_arguments}
use Rattle.heco_execution.proofs.calls.with_arguments.Given as goal

abbrev pub invariant-loop-x : goal.invariant-loop-x
invariant-loop-x g l = (l.i ≡ l.x-index) × (with_arguments l.params l.args nothing ≡ with_arguments (drop l.x-index l.params) (drop l.x-index l.args) l.names)
