-- What holds of a circuit before each pass.
use Rattle.std.specs.Prelude.{◌≡◌, ◌<◌, ◌+◌, ◌*◌, ◌^◌, ℕ, List, length, All}
use Rattle.heco_nums.specs.declared.preset.Preset.{Preset}
use Rattle.heco_circuit.specs.Bounds.{weights_of, IsLight}
use Rattle.heco_circuit.specs.Circuits.{IsCircuit}
use Rattle.heco_circuit.specs.CircuitFormat.{inputs_text, outputs_text}
use Rattle.heco_circuit.specs.Plans.{Plan}
use Rattle.heco_circuit.specs.VectorFormat.{vectors_text}
use Rattle.heco_peep.specs.declared.changing.Changed.{Changed}

abbrev ports : Plan → ℕ
ports c = length (inputs_text c.inputs) + (length (vectors_text c.vectors) + length (outputs_text c.outputs))

-- the file's length, were each gate one of 9 bytes
abbrev pub room : Plan → ℕ
room c = 10 + ports c + 9 * length c.gates

-- a valid circuit of this preset whose vectors have these weights, with room for whatever gates passes answer
pub record IsReady (p : Preset) (weights : List ℕ) (c : Plan) : Type 0 where
  pub number : p.id ≡ c.preset
  pub valid : IsCircuit c
  pub has_room : room c < 2 ^ 29
  pub weights_are : weights ≡ weights_of p.id c.vectors
  pub light : All IsLight weights

-- the wires of a circuit as a pass has changed it have numbers of 32 bits
abbrev pub HasFewWires : Plan → Changed → Type 0
HasFewWires c changed = length c.inputs + length changed.gates < 2 ^ 26
