use Rattle.std.proofs.Common.{take}
use Rattle.heco_execution.specs.Definitions.{AreLast}
use Rattle.heco_execution.proofs.definitions.Index.new.Given as goal

abbrev pub invariant-loop-k : goal.invariant-loop-k
invariant-loop-k l = AreLast (λ k. k.items) (take l.k l.all) l.last.entries
