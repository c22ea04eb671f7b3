use Rattle.std.proofs.Common.{◌+◌, ◌*◌, ◌%◌, ◌^◌, length, get_or}
use Rattle.heco_poly.proofs.Changes.{Changed}
use Rattle.heco_poly.proofs.row.add_multiple.Given as goal

abbrev pub invariant-loop-four : goal.invariant-loop-four
invariant-loop-four l = Changed (length l.fn.out) (4 * l.four) l.fn.out l.out (λ k x. (x + l.c * get_or l.b k 0) % 2 ^ 64)

abbrev pub invariant-loop-i : goal.invariant-loop-i
invariant-loop-i l = Changed (length l.fn.out) l.i l.fn.out l.out (λ k x. (x + l.c * get_or l.b k 0) % 2 ^ 64)
