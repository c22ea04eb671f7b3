use Rattle.std.proofs.Common.{◌≡◌, ◌++◌, take}
use Rattle.std.specs.List.{flat_map}
use Rattle.heco_key_files.specs.KeyFiles.{pair_text}
use Rattle.heco_key_files.proofs.writing.put_switch.Given as goal

abbrev pub invariant-loop-first : goal.invariant-loop-first
invariant-loop-first l = l.out ≡ l.fn.out ++ flat_map pair_text (take l.first-index l.key.rows)
