-- What is measured of the wires of a circuit's run.
use Rattle.std.specs.Prelude.{ℕ, ℤ, List, map, slice_index}
use Rattle.std.specs.List.{range_with_len}
use Rattle.heco_nums.specs.declared.preset.Preset.{Preset}
use Rattle.heco_circuit.specs.Bounds.{weights_of, wire_bounds}
use Rattle.heco_circuit.specs.Plans.{Plan}
use Rattle.heco_run_laws.specs.Measured.{measured_noise}
use Rattle.heco_run_laws.specs.Messages.{message_at}
use Rattle.heco_run_laws.specs.Results.{wire_count}
use Rattle.heco_run_laws.specs.Runs.{Ciphertext, SwitchKeys}
use Rattle.heco_scheme.specs.Noise.{noise}
use Rattle.heco_measure.specs.declared.measuring.Measured.{Measured}

-- of a wire, by the ciphertexts, the messages and the bounds of all
abbrev pub measured_of : Preset → List ℤ → (ℕ → Ciphertext) → List (List ℕ) → List ℕ → ℕ → Measured
measured_of p s at messages bounds w = record { wire = w; noise = noise p s (at w) (message_at messages w); bound = slice_index bounds w }

-- of a wire of the run on these inputs
abbrev pub measured_wire : Preset → List ℤ → SwitchKeys → Plan → List Ciphertext → ℕ → Measured
measured_wire p s keys c inputs w = record {
  wire = w;
  noise = measured_noise p s keys c inputs w;
  bound = slice_index (wire_bounds c.preset (weights_of c.preset c.vectors) c.inputs c.gates) w;
}

-- of all its wires, by rising number
unfoldable pub measured_wires : Preset → List ℤ → SwitchKeys → Plan → List Ciphertext → List Measured
measured_wires p s keys c inputs = map (measured_wire p s keys c inputs) (range_with_len 0 (wire_count c))
