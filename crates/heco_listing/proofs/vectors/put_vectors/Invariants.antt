use Rattle.std.proofs.Common.{◌≡◌, ◌+◌, ◌++◌, length}
use Rattle.heco_listing.specs.Listings.{vector_lines}
use Rattle.heco_listing.proofs.vectors.put_vectors.Given as goal

abbrev pub invariant-loop-rest : goal.invariant-loop-rest
invariant-loop-rest l = record {
  text : l.out ++ vector_lines l.number l.rest ≡ l.fn.out ++ vector_lines 0 l.vectors;
  count : l.number + length l.rest ≡ length l.vectors;
}

abbrev pub decreases-loop-rest : goal.decreases-loop-rest
decreases-loop-rest l = length l.rest
