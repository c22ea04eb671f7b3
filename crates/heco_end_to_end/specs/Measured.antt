-- What is measured of a run on material within bounds.
use Rattle.std.specs.Prelude.{◌≡◌, ◌≤◌, ◌<◌, ℕ, List, length, map, slice_index, All}
use Rattle.heco_nums.specs.declared.preset.Preset.{Preset}
use Rattle.heco_circuit.specs.Bounds.{weights_of, wire_bounds}
use Rattle.heco_circuit.specs.Plans.{Plan as Circuit}
use Rattle.heco_material.specs.KeyLists.{KeyLists}
use Rattle.heco_material.specs.declared.words.EncRow.{EncRow}
use Rattle.heco_products.specs.Encrypting.{encrypted_messages}
use Rattle.heco_products.specs.KeyProducts.{circuit_key}
use Rattle.heco_products.specs.Results.{keys_of}
use Rattle.heco_scheme.specs.Encryption.{decrypted}
use Rattle.heco_run_laws.specs.Measured.{IsMessage, measured_noise}
use Rattle.heco_run_laws.specs.Results.{wire_count}
use Rattle.heco_end_to_end.specs.EndToEnd.{IsProvided}

-- the inputs decrypt to the messages that were encrypted, and the noise that is measured of each wire is at most its written bound
pub record IsMeasuredWithinBounds (p : Preset) (c : Circuit) (k : KeyLists) (material : List EncRow) (messages : List (List ℕ)) : Type 0 where
  pub inputs : map (decrypted p k.s) (encrypted_messages p (circuit_key p c k) material messages) ≡ messages
  pub noises : (w : ℕ) → w < wire_count c
      → measured_noise p k.s (keys_of (circuit_key p c k)) c (encrypted_messages p (circuit_key p c k) material messages) w
      ≤ slice_index (wire_bounds c.preset (weights_of c.preset c.vectors) c.inputs c.gates) w

-- of one row of values or of two: their encodings are messages
abbrev pub RunsAreMeasuredWithinBounds : Type 0
RunsAreMeasuredWithinBounds =
    (p : Preset) (c : Circuit) (k : KeyLists) (material : List EncRow) (messages : List (List ℕ)) → IsProvided p c k material
    → length messages ≡ length c.inputs → All (IsMessage p) messages
    → IsMeasuredWithinBounds p c k material messages
