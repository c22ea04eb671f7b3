use Rattle.std.proofs.Common.{◌≡◌, ◌+◌, ◌++◌, length}
use Rattle.heco_listing.specs.Listings.{gate_lines}
use Rattle.heco_listing.proofs.gates.put_gates.Given as goal

abbrev pub invariant-loop-rest : goal.invariant-loop-rest
invariant-loop-rest l = record {
  text : l.out ++ gate_lines l.bounds l.wire l.rest ≡ l.fn.out ++ gate_lines l.bounds l.first l.gates;
  count : l.wire + length l.rest ≡ l.first + length l.gates;
}

abbrev pub decreases-loop-rest : goal.decreases-loop-rest
decreases-loop-rest l = length l.rest
