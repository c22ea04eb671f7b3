use Rattle.std.proofs.Common.{◌≡◌, ◌++◌, drop}
use Rattle.heco_types.specs.Shapes.{shapes_of}
use Rattle.heco_types.proofs.shapes.shapes.Given as goal

abbrev pub invariant-loop-p : goal.invariant-loop-p
invariant-loop-p l = shapes_of l.output l.ports ≡ l.found ++ shapes_of l.output (drop l.p-index l.ports)
