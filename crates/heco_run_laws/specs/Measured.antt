-- What is measured: each wire's noise for messages that begin with the raw decryptions of the inputs.
use Rattle.std.specs.Prelude.{◌≡◌, ℕ, List, length, map, All, ℤ}
use Rattle.std.specs.List.{AllZip}
use Rattle.heco_nums.specs.declared.preset.Preset.{Preset}
use Rattle.heco_ring.specs.Remainders.{reduced}
use Rattle.heco_ring.specs.Ring.{wholes}
use Rattle.heco_circuit.specs.Bounds.{weights_of, wire_bounds}
use Rattle.heco_circuit.specs.Circuits.{IsCircuit}
use Rattle.heco_circuit.specs.Plans.{Plan, wire_parts}
use Rattle.heco_slots.specs.Rows.{encoded_two}
use Rattle.heco_nums.specs.MaterialBounds.{IsSparse}
use Rattle.heco_scheme.specs.Encryption.{decrypted}
use Rattle.heco_scheme.specs.Noise.{noise}
use Rattle.heco_slots.specs.Slots.{encoded}
use Rattle.heco_run_laws.specs.Runs.{Ciphertext, SwitchKeys, ciphertext_at, run_of}
use Rattle.heco_run_laws.specs.Messages.{message_at, messages_along}
use Rattle.heco_run_laws.specs.Carried.{AllKeep, HaveKeys, IsFreshFor}

-- n numbers below t
abbrev pub IsMessage : Preset → List ℕ → Type 0
IsMessage p m = reduced p.t p.n (wholes m) ≡ m

-- the messages of all wires, from the raw decryptions of the inputs
unfoldable pub measured_messages : Preset → List ℤ → Plan → List Ciphertext → List (List ℕ)
measured_messages p s c inputs = messages_along p c (map (decrypted p s) inputs)

-- the noise that is measured of wire w
unfoldable pub measured_noise : Preset → List ℤ → SwitchKeys → Plan → List Ciphertext → ℕ → ℕ
measured_noise p s keys c inputs w = noise p s (ciphertext_at (run_of p keys c inputs) w) (message_at (measured_messages p s c inputs) w)

-- fresh inputs decrypt to their messages, and then each wire is measured at its written bound or less
abbrev pub MeasuredNoisesKeepToTheirBounds : Type 0
MeasuredNoisesKeepToTheirBounds =
    (p : Preset) (s : List ℤ) (keys : SwitchKeys) (c : Plan) (messages : List (List ℕ)) (inputs : List Ciphertext) → p.id ≡ c.preset → IsCircuit c
    → IsSparse p.n p.h s → HaveKeys p s keys c.gates
    → length messages ≡ length c.inputs → AllZip (IsFreshFor p s) messages inputs → All (IsMessage p) messages
    → (map (decrypted p s) inputs ≡ messages)
    × AllKeep p s (wire_parts c) (wire_bounds c.preset (weights_of c.preset c.vectors) c.inputs c.gates) (measured_messages p s c inputs)
    (run_of p keys c inputs)

-- what is encoded in one row or in two is a message
abbrev pub EncodingsAreMessages : Type 0
EncodingsAreMessages = (p : Preset) (v w : List ℕ) → IsMessage p (encoded p v) × IsMessage p (encoded_two p v w)
