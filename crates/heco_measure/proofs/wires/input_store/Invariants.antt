use Rattle.std.proofs.Common.{◌≡◌, Some, map, take}
use Rattle.heco_measure.proofs.wires.input_store.Given as goal

abbrev pub invariant-loop-c : goal.invariant-loop-c
invariant-loop-c l = l.store.items ≡ map (λ c. Some c) (take l.c-index l.ins)
