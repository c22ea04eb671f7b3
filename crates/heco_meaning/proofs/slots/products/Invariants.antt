use Rattle.std.proofs.Common.{◌≡◌, ◌++◌, ◌+◌, ◌-◌, length}
use Rattle.heco_meaning.specs.Meanings.{products}
use Rattle.heco_meaning.proofs.slots.products.Given as goal

abbrev pub invariant-loop-left : goal.invariant-loop-left
invariant-loop-left l = l.out ++ products l.t l.left l.right ≡ products l.t l.xs l.ys

abbrev pub decreases-loop-left : goal.decreases-loop-left
decreases-loop-left l = length l.left
