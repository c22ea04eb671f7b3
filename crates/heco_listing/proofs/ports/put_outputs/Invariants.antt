use Rattle.std.proofs.Common.{◌≡◌, ◌++◌, take}
use Rattle.std.specs.List.{flat_map}
use Rattle.heco_listing.specs.Listings.{output_line}
use Rattle.heco_listing.proofs.ports.put_outputs.Given as goal

abbrev pub invariant-loop-output : goal.invariant-loop-output
invariant-loop-output l = l.out ≡ l.fn.out ++ flat_map output_line (take l.output-index l.outputs)
