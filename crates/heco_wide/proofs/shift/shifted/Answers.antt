use Rattle.heco_wide.proofs.Shifts.{shift_low, shift_high}
use Rattle.std.proofs.Common.{arith}
use Rattle.heco_wide.proofs.shift.shifted.Goals as goal

pub returns-then-c-lt-HALF-clause-value : goal.returns-then-c-lt-HALF-clause-value
returns-then-c-lt-HALF-clause-value c = shift_low c.args.c (omega arith)

pub returns-else-c-lt-HALF-clause-value : goal.returns-else-c-lt-HALF-clause-value
returns-else-c-lt-HALF-clause-value c = shift_high c.args.c (omega arith)
