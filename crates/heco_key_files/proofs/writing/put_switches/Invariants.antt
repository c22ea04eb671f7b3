use Rattle.std.proofs.Common.{◌≡◌, ◌++◌, take, map}
use Rattle.std.specs.List.{flat_map}
use Rattle.heco_key_files.specs.KeyFiles.{switch_text}
use Rattle.heco_key_files.proofs.writing.put_switches.Given as goal

abbrev pub invariant-loop-key : goal.invariant-loop-key
invariant-loop-key l = l.out ≡ l.fn.out ++ flat_map switch_text (map (λ k. k.rows) (take l.key-index l.keys))
