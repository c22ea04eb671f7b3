-- What the ciphertext of a wire carries: a message with these slots, under noise that is bounded.
use Rattle.std.specs.Prelude.{◌≡◌, ◌⊎◌, ℕ, ◌+◌, ◌≤◌, ◌<◌, List, [], ◌∷◌, length, map, slice_get, slice_index, Some, All, ℤ}
use Rattle.std.specs.List.{AllZip}
use Rattle.heco_nums.specs.declared.preset.Preset.{Preset}
use Rattle.heco_noise.specs.Rows as row
use Rattle.heco_circuit.specs.Bounds.{weights_of, wire_bounds}
use Rattle.heco_circuit.specs.Circuits.{IsCircuit}
use Rattle.heco_circuit.specs.Plans.{Plan, wire_parts}
use Rattle.heco_circuit.specs.declared.gate.Gate.{Gate}
use Rattle.heco_circuit.specs.declared.gate.Gate.TheVariants.{Relin, Turn}
use Rattle.heco_nums.specs.Runs.{along}
use Rattle.heco_meaning.specs.Meanings.{filled, with_wire, wires_of}
use Rattle.heco_slots.specs.Rows.{first_row, second_row, row_of, encoded_two}
use Rattle.heco_nums.specs.MaterialBounds.{AreWords, IsSparse}
use Rattle.heco_scheme.specs.Keys.{IsSwitchKey, square, turned_secret}
use Rattle.heco_scheme.specs.Noise.{noise}
use Rattle.heco_slots.specs.Slots.{decoded}
use Rattle.heco_run_laws.specs.Runs.{Ciphertext, SwitchKeys, ciphertext_at, made_by, run_of}
use Rattle.heco_run_laws.specs.Messages.{message_at, input_message, messages_along, messages_of}

-- a ciphertext of so many parts, two or three, of n words each
pub record HasShape (n parts : ℕ) (c : Ciphertext) : Type 0 where
  pub count : length c ≡ parts
  pub two_or_three : (parts ≡ 2) ⊎ (parts ≡ 3)
  pub words : All (AreWords n) c

-- of that shape, with at most so much noise for the message under the secret s
pub record Keeps (p : Preset) (s : List ℤ) (parts bound : ℕ) (message : List ℕ) (c : Ciphertext) : Type 0 where
  pub shape : HasShape p.n parts c
  pub noise : noise p s c message ≤ bound

-- each wire keeps to its bound, and no bound passes
pub record AllKeep (p : Preset) (s : List ℤ) (parts bounds : List ℕ) (messages : List (List ℕ)) (wires : List Ciphertext) : Type 0 where
  pub as_many_bounds : length bounds ≡ length parts
  pub as_many_messages : length messages ≡ length parts
  pub as_many_wires : length wires ≡ length parts
  pub quiet : (w : ℕ) → w < length parts → row.IsQuiet (slice_index bounds w)
  pub each : (w : ℕ) → w < length parts → Keeps p s (slice_index parts w) (slice_index bounds w) (message_at messages w) (ciphertext_at wires w)

-- a ciphertext of two parts whose noise for the message is at most that of a fresh encryption
abbrev pub IsFreshFor : Preset → List ℤ → List ℕ → Ciphertext → Type 0
IsFreshFor p s message c = Keeps p s 2 (row.fresh p.t p.h p.b) message c

-- of that shape, for a message with these slots, with at most so much noise under the secret s
pub record Carries (p : Preset) (s : List ℤ) (parts bound : ℕ) (slots message : List ℕ) (c : Ciphertext) : Type 0 where
  pub shape : HasShape p.n parts c
  pub noise : noise p s c message ≤ bound
  pub means : decoded p message ≡ slots

-- each wire has its shape
pub record AllShaped (n : ℕ) (parts : List ℕ) (wires : List Ciphertext) : Type 0 where
  pub as_many : length wires ≡ length parts
  pub each : (w : ℕ) → w < length parts → HasShape n (slice_index parts w) (ciphertext_at wires w)

-- each wire carries its message, and no bound passes
pub record AllCarry (p : Preset) (s : List ℤ) (parts bounds : List ℕ) (slots messages : List (List ℕ)) (wires : List Ciphertext) : Type 0 where
  pub as_many_bounds : length bounds ≡ length parts
  pub as_many_slots : length slots ≡ length parts
  pub as_many_messages : length messages ≡ length parts
  pub as_many_wires : length wires ≡ length parts
  pub quiet : (w : ℕ) → w < length parts → row.IsQuiet (slice_index bounds w)
  pub each : (w : ℕ) → w < length parts
      → Carries p s (slice_index parts w) (slice_index bounds w) (message_at slots w) (message_at messages w) (ciphertext_at wires w)

-- the switch key that the gate takes is one of the secret, with errors within bounds: from s s to relinearise, from the turned s to turn
abbrev pub HasKey : Preset → List ℤ → SwitchKeys → Gate → Type 0
HasKey p s keys (Relin a) = IsSwitchKey p.n p.b s (square p.n s) keys.relin
HasKey p s keys (Turn r a) = IsSwitchKey p.n p.b s (turned_secret p.n s r) (keys.turn r)
HasKey p s keys g = Unit {0}

abbrev pub HaveKeys : Preset → List ℤ → SwitchKeys → List Gate → Type 0
HaveKeys p s keys [] = Unit {0}
HaveKeys p s keys (g ∷ gates) = HasKey p s keys g × HaveKeys p s keys gates

-- the ciphertext of an input carries the plaintext whose slots are its values and then zeros, with the noise of a fresh encryption
abbrev pub IsFresh : Preset → List ℤ → List ℕ → Ciphertext → Type 0
IsFresh p s values c = Carries p s 2 (row.fresh p.t p.h p.b) (filled p.slots values) (input_message p values) c

-- in the run of a valid circuit by keys of the secret, where the inputs are fresh for any messages, each wire has for its
-- message at most its written bound of noise
abbrev pub WiresKeepTheirNoise : Type 0
WiresKeepTheirNoise =
    (p : Preset) (s : List ℤ) (keys : SwitchKeys) (c : Plan) (messages : List (List ℕ)) (inputs : List Ciphertext) → p.id ≡ c.preset → IsCircuit c
    → IsSparse p.n p.h s → HaveKeys p s keys c.gates
    → length messages ≡ length c.inputs → AllZip (IsFreshFor p s) messages inputs
    → AllKeep p s (wire_parts c) (wire_bounds c.preset (weights_of c.preset c.vectors) c.inputs c.gates) (messages_along p c messages) (run_of p keys c inputs)

-- the first row or the second: a plain vector weighs each of these alike, and no other
abbrev pub IsRowExponent : Preset → ℕ → Type 0
IsRowExponent p e = (e ≡ first_row) ⊎ (e ≡ second_row p)

-- read in either row, the messages of a valid circuit are the wires that it means: no ciphertext is spoken of
abbrev pub MessagesMeanTheirRows : Type 0
MessagesMeanTheirRows =
    (p : Preset) (e : ℕ) (c : Plan) (messages : List (List ℕ)) → IsRowExponent p e → p.id ≡ c.preset → IsCircuit c → length messages ≡ length c.inputs
    → map (row_of p e) (messages_along p c messages) ≡ along (with_wire p.t c.vectors) (map (row_of p e) messages) c.gates

-- the input messages of two rows of values, each filled with zeros
abbrev pub two_row_messages : Preset → List (List ℕ) → List (List ℕ) → List (List ℕ)
two_row_messages p [] ws = []
two_row_messages p (v ∷ vs) [] = []
two_row_messages p (v ∷ vs) (w ∷ ws) = encoded_two p (filled p.slots v) (filled p.slots w) ∷ two_row_messages p vs ws

-- values that fit a row
abbrev pub FitsRow : Preset → List ℕ → Type 0
FitsRow p v = (length v ≤ p.slots) × All (λ x. x < p.t) v

-- each row of the messages is what the circuit means for its own values, whatever those of the other row
abbrev pub RowsAreIndependent : Type 0
RowsAreIndependent =
    (p : Preset) (c : Plan) (vs ws : List (List ℕ)) → p.id ≡ c.preset → IsCircuit c → length vs ≡ length c.inputs → length ws ≡ length c.inputs
    → All (FitsRow p) vs → All (FitsRow p) ws
    → (map (row_of p first_row) (messages_along p c (two_row_messages p vs ws)) ≡ wires_of c vs)
    × (map (row_of p (second_row p)) (messages_along p c (two_row_messages p vs ws)) ≡ wires_of c ws)

-- in the run of a valid circuit by keys of the secret, where the inputs carry these rows of values, each wire carries its
-- message, whose slots are the circuit's meaning, with at most its written bound of noise
abbrev pub WiresCarryTheirMessages : Type 0
WiresCarryTheirMessages =
    (p : Preset) (s : List ℤ) (keys : SwitchKeys) (c : Plan) (rows : List (List ℕ)) (inputs : List Ciphertext) → p.id ≡ c.preset → IsCircuit c
    → IsSparse p.n p.h s → HaveKeys p s keys c.gates
    → length rows ≡ length c.inputs → AllZip (IsFresh p s) rows inputs
    → AllCarry p s (wire_parts c) (wire_bounds c.preset (weights_of c.preset c.vectors) c.inputs c.gates) (wires_of c rows) (messages_of p c rows)
    (run_of p keys c inputs)

-- in the run of a valid circuit by any keys from inputs of two parts, each wire has the parts that the circuit says
abbrev pub WiresHaveTheirParts : Type 0
WiresHaveTheirParts =
    (p : Preset) (keys : SwitchKeys) (c : Plan) (inputs : List Ciphertext) → IsCircuit c → length inputs ≡ length c.inputs → All (HasShape p.n 2) inputs
    → AllShaped p.n (wire_parts c) (run_of p keys c inputs)

-- these are the ciphertexts of the wires: first the inputs, and then what each gate makes of the wires before its own
pub record IsInOrder (p : Preset) (keys : SwitchKeys) (c : Plan) (inputs wires : List Ciphertext) : Type 0 where
  pub count : length wires ≡ length inputs + length c.gates
  pub first : (w : ℕ) → w < length inputs → ciphertext_at wires w ≡ ciphertext_at inputs w
  pub next : (g : ℕ) (gate : Gate) → slice_get c.gates g ≡ Some gate
      → ciphertext_at wires (length inputs + g) ≡ made_by p keys c.vectors (ciphertext_at wires) gate

-- the run of a valid circuit
abbrev pub RunsAreInOrder : Type 0
RunsAreInOrder = (p : Preset) (keys : SwitchKeys) (c : Plan) (inputs : List Ciphertext) → IsCircuit c → length inputs ≡ length c.inputs
    → IsInOrder p keys c inputs (run_of p keys c inputs)
