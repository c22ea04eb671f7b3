use Rattle.std.proofs.Common.{◌≡◌, ◌++◌, map}
use Rattle.std.specs.List.{range_with_len}
use Rattle.heco_plainvec.specs.Gathering.{vector}
use Rattle.heco_plainvec.specs.inside.Finding.{product_at}
use Rattle.heco_plainvec.proofs.ChosenAt.{chosen_below}
use Rattle.heco_plainvec.proofs.choosing.choices_beside.Given as goal

abbrev pub invariant-loop-a : goal.invariant-loop-a
invariant-loop-a l = record {
  vectors : l.vectors ≡ l.c.vectors ++ map (vector l.c) (chosen_below l.c l.a);
  products : l.products ≡ map (product_at l.c) (range_with_len 0 l.a);
}
