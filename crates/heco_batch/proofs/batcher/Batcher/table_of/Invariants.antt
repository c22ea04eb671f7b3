use Rattle.heco_batch.proofs.TableRead.{Tabled}
use Rattle.heco_batch.proofs.batcher.Batcher.table_of.Given as goal

abbrev pub invariant-loop-i : goal.invariant-loop-i
invariant-loop-i l = Tabled l.ir.0 l.i l.c l.self.slots l.self.modulus l.table.items
