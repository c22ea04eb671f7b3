use Rattle.std.proofs.Common.{◌≤◌, take, length}
use Rattle.heco_ir.specs.Values.{numbers}
use Rattle.heco_ir.specs.Unrolled.{root_terms}
use Rattle.heco_batch.specs.Roots.{RootsAre, written_homes}
use Rattle.heco_batch.proofs.batcher.Batcher.roots_of.Given as goal

abbrev pub invariant-loop-root : goal.invariant-loop-root
invariant-loop-root l =
    RootsAre l.c l.self.slots l.self.modulus l.roots l.homes (written_homes l.self.modulus l.self.slots (root_terms l.ir.0 (numbers (take l.root-index l.root-items)))) × (length l.roots ≤ l.root-index)
