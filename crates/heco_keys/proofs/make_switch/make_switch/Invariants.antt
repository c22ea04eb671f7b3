use Rattle.std.proofs.Common.{◌≡◌, ◌^◌, length}
use lib.IntN.{pos}
use lib.ListN.{get_or}
use Rattle.heco_ring.specs.Ring.{scale}
use Rattle.heco_ring.specs.Remainders.{reduced}
use Rattle.heco_nums.specs.Listed.{listed}
use Rattle.heco_keys.specs.Made.{source_of, pair_of, no_row}
use Rattle.heco_keys.proofs.make_switch.make_switch.Given as goal

abbrev pub invariant-loop-i : goal.invariant-loop-i
invariant-loop-i l = record {
  pairs : l.pairs ≡ listed l.i (λ i. pair_of l.p.n l.s (source_of l.p.n l.s l.fn.kind) i (get_or l.words.rows i no_row));
  source : l.source ≡ reduced (2 ^ 58) l.p.n (scale l.p.n (pos (4 ^ l.i)) (source_of l.p.n l.s l.fn.kind));
  long : length l.source ≡ l.p.n;
}
