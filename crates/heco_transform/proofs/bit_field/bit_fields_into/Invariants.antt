use Rattle.heco_transform.proofs.Parts.{Parted}
use Rattle.heco_transform.proofs.bit_field.bit_fields_into.Given as goal

abbrev pub invariant-loop-i : goal.invariant-loop-i
invariant-loop-i l = Parted l.i l.shift l.bits l.a l.out
