-- The result of a circuit's run: the ciphertexts of the wires that its outputs have.
use Rattle.std.specs.Prelude.{ℕ, ◌+◌, ◌==◌, Bool, false, List, length, map}
use Rattle.std.specs.List.{list_any, filter, range_with_len}
use Rattle.heco_nums.specs.declared.preset.Preset.{Preset}
use Rattle.heco_circuit.specs.declared.gate.Cell.{Cell}
use Rattle.heco_circuit.specs.declared.gate.Cell.TheVariants.{Number, Slot}
use Rattle.heco_circuit.specs.declared.gate.Output.{Output}
use Rattle.heco_circuit.specs.Plans.{Plan as Circuit}
use Rattle.heco_run_laws.specs.Runs.{Ciphertext, SwitchKeys, ciphertext_at, run_of}

-- ---- the wires of outputs

abbrev pub is_slot_of : ℕ → Cell → Bool
is_slot_of w (Number n) = false
is_slot_of w (Slot wire slot) = wire == w

-- an element of an output is a slot of the wire
abbrev pub is_output_wire : List Output → ℕ → Bool
is_output_wire outputs w = list_any (λ o. list_any (is_slot_of w) o.cells) outputs

abbrev pub wire_count : Circuit → ℕ
wire_count c = length c.inputs + length c.gates

-- the wires of which an output has a slot, by rising number
abbrev pub result_wires : Circuit → List ℕ
result_wires c = filter (is_output_wire c.outputs) (range_with_len 0 (wire_count c))

-- ---- their ciphertexts

-- those of the run from these inputs under these switch keys
unfoldable pub results_of : Preset → SwitchKeys → Circuit → List Ciphertext → List Ciphertext
results_of p keys c inputs = map (ciphertext_at (run_of p keys c inputs)) (result_wires c)
