use Rattle.std.proofs.Common.{◌≡◌, ℕ, ◌<◌, ◌||◌, false, length, get_or}
use Rattle.std.specs.List.{list_any}
use Rattle.heco_rewrites.specs.Needed.{reads}
use Rattle.heco_plainvec.specs.Gathering.{is_read}
use Rattle.heco_plainvec.proofs.reads.reads_of.Given as goal

abbrev pub invariant-loop-rest : goal.invariant-loop-rest
invariant-loop-rest l = record {
  long : length l.marks.items ≡ l.count;
  marked : (w : ℕ) → w < l.count → (get_or l.marks.items w false || list_any (λ g. reads g w) l.rest) ≡ is_read l.c w;
}

abbrev pub decreases-loop-rest : goal.decreases-loop-rest
decreases-loop-rest l = length l.rest
