use Rattle.std.proofs.Common.{◌≡◌, take}
use Rattle.std.specs.List.{count_by}
use Rattle.heco_products.proofs.wires.count_marked.Given as goal

abbrev pub invariant-loop-wire : goal.invariant-loop-wire
invariant-loop-wire l = l.count ≡ count_by (λ b. b) (take l.wire-index l.wires)
