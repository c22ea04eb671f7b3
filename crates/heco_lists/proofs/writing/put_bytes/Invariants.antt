use Rattle.std.proofs.Common.{◌≡◌, ◌++◌, take}
use Rattle.std.specs.List.{flat_map}
use Rattle.heco_lists.specs.ListFormat.{byte_text}
use Rattle.heco_lists.proofs.writing.put_bytes.Given as goal

abbrev pub invariant-loop-n : goal.invariant-loop-n
invariant-loop-n l = l.out ≡ l.fn.out ++ flat_map byte_text (take l.n-index l.numbers)
