use Rattle.std.proofs.Common.{◌≡◌, ◌++◌, take}
use Rattle.std.specs.List.{flat_map}
use Rattle.heco_material.specs.KeyFormat.{switch_text}
use Rattle.heco_material.proofs.writing.put_switches.Given as goal

abbrev pub invariant-loop-switch : goal.invariant-loop-switch
invariant-loop-switch l = l.out ≡ l.fn.out ++ flat_map switch_text (take l.switch-index l.switches)
