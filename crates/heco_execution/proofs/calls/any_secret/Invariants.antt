use Rattle.std.proofs.Common.{◌≡◌, drop}
use Rattle.std.specs.List.{list_any}
use Rattle.heco_execution.specs.Evaluation.{is_secret}
use Rattle.heco_execution.proofs.calls.any_secret.Given as goal

abbrev pub invariant-loop-v : goal.invariant-loop-v
invariant-loop-v g l = list_any is_secret l.values ≡ list_any is_secret (drop l.v-index l.values)
