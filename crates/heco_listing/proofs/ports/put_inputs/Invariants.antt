use Rattle.std.proofs.Common.{◌≡◌, ◌++◌, take}
use Rattle.std.specs.List.{flat_map}
use Rattle.heco_listing.specs.Listings.{input_line}
use Rattle.heco_listing.proofs.ports.put_inputs.Given as goal

abbrev pub invariant-loop-input : goal.invariant-loop-input
invariant-loop-input l = l.out ≡ l.fn.out ++ flat_map input_line (take l.input-index l.inputs)
