use Rattle.std.proofs.Common.{◌^◌}
use lib.IntN.{pos, ◌+ℤ◌, ◌*ℤ◌}
use Rattle.heco_wide.specs.inside.Wide.{int_at}
use Rattle.heco_wide.proofs.Changes.{Changed}
use Rattle.heco_wide.proofs.wide.join_all.Given as goal

abbrev pub invariant-loop-k : goal.invariant-loop-k
invariant-loop-k l = Changed l.k l.fn.x l.x (λ k z. z *ℤ pos (2 ^ 19) +ℤ int_at l.y k)
