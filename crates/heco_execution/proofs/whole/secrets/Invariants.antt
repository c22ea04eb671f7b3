use Rattle.std.proofs.Common.{◌≡◌, map, take}
use Rattle.heco_execution.specs.declared.value.Value.TheVariants.{Secret}
use Rattle.heco_execution.proofs.whole.secrets.Given as goal

abbrev pub invariant-loop-v : goal.invariant-loop-v
invariant-loop-v g l = l.list ≡ map (λ v. Secret v) (take l.v-index l.row)
