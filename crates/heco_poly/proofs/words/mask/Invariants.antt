use Rattle.std.proofs.Common.{◌%◌, ◌^◌, length}
use Rattle.heco_poly.proofs.Changes.{Changed}
use Rattle.heco_poly.proofs.words.mask.Given as goal

abbrev pub invariant-loop-i : goal.invariant-loop-i
invariant-loop-i l = Changed (length l.fn.out) l.i l.fn.out l.out (λ k x. x % 2 ^ 58)
