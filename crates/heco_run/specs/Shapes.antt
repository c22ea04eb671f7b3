-- The parts and places of ciphertexts, and an evaluation key that a circuit can be run with.
use Rattle.std.specs.Prelude.{◌≡◌, ℕ, ◌+◌, List, length, slice_get, slice_index, Option, Some, true}
use Rattle.std.specs.List.{list_any}
use Rattle.heco_circuit.specs.Needs.{needs_relin, turns_by}
use Rattle.heco_circuit.specs.Plans.{Plan, wire_parts}
use Rattle.heco_keys.specs.declared.eval.Eval.{Eval}
use Rattle.heco_scheme.specs.Ciphertexts.{IsCiphertext}
use Rattle.heco_schedules.specs.Rising.{names}
use Rattle.heco_schedules.specs.Standings.{Standing}
use Rattle.heco_schedules.specs.Stores.{entry}
use Rattle.heco_run_laws.specs.Runs.{Ciphertext}

-- so many parts, two or three, of n places
pub record IsShaped (n parts : ℕ) (c : Ciphertext) : Type 0 where
  pub ciphertext : IsCiphertext n c
  pub count : length c ≡ parts

-- each has two parts of n places
abbrev pub AreTwoParts : ℕ → List Ciphertext → Type 0
AreTwoParts n inputs = (wire : ℕ) (c : Ciphertext) → slice_get inputs wire ≡ Some c → IsShaped n 2 c

-- the key is of the circuit's preset, and has a switch key for each gate that takes one
pub record Serves (p : Plan) (e : Eval) : Type 0 where
  pub one_preset : e.preset.id ≡ p.preset
  pub relin : needs_relin p ≡ true → e.needs.relin ≡ true
  pub turns : (r : ℕ) → list_any (turns_by r) p.gates ≡ true → names e.needs.turns r ≡ true

-- what is kept of a wire has its parts
abbrev pub StoreIsShaped : Plan → ℕ → List (Option Ciphertext) → Type 0
StoreIsShaped p n store = (wire : ℕ) (c : Ciphertext) → entry store wire ≡ Some c → IsShaped n (slice_index (wire_parts p) wire) c

-- the buffer of a busy worker has the parts of its gate
abbrev pub RoomIsShaped : Plan → ℕ → Standing → List (Option Ciphertext) → Type 0
RoomIsShaped p n s room = (worker gate : ℕ) (c : Ciphertext) → slice_get s.workers worker ≡ Some (Some gate) → entry room worker ≡ Some c
    → IsShaped n (slice_index (wire_parts p) (length p.inputs + gate)) c
