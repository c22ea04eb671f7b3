use Rattle.std.proofs.Common.{◌≡◌, map, take}
use Rattle.heco_circuit.specs.Plans.{shape_of}
use Rattle.heco_products.proofs.decrypting.shapes_of.Given as goal

abbrev pub invariant-loop-output : goal.invariant-loop-output
invariant-loop-output l = l.shapes ≡ map shape_of (take l.output-index l.outputs)
