use Rattle.std.proofs.Common.{◌≡◌, ◌++◌, take}
use Rattle.std.specs.List.{flat_map}
use Rattle.heco_material.specs.KeyFormat.{row_text}
use Rattle.heco_material.proofs.writing.put_switch.Given as goal

abbrev pub invariant-loop-row : goal.invariant-loop-row
invariant-loop-row l = l.out ≡ l.fn.out ++ flat_map row_text (take l.row-index l.switch.rows)
