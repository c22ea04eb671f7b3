-- A store that keeps the ciphertext of each wire.
use Rattle.std.specs.Prelude.{◌≡◌, ◌<◌, ℕ, List, [], length, Option, Some, IsSome, slice_get, unwrap_or}
use Rattle.heco_circuit.specs.Plans.{Plan}
use Rattle.heco_run.specs.Shapes.{StoreIsShaped}
use Rattle.heco_run_laws.specs.Runs.{Ciphertext}
use Rattle.heco_scheme.specs.Ciphertexts.{IsCiphertext}
use Rattle.heco_schedules.specs.Stores.{entry}

-- it has the ciphertexts of so many first wires of a run, with the parts that the circuit says
pub record HasFirst (c : Plan) (n : ℕ) (run : List Ciphertext) (wires : ℕ) (store : List (Option Ciphertext)) : Type 0 where
  pub count : length store ≡ wires
  pub each : (wire : ℕ) → wire < wires → entry store wire ≡ slice_get run wire
  pub shaped : StoreIsShaped c n store

-- at each of its places there is a ciphertext
pub record AreEntries (n : ℕ) (store : List (Option Ciphertext)) : Type 0 where
  pub there : (wire : ℕ) → wire < length store → IsSome (entry store wire)
  pub ciphertexts : (wire : ℕ) (c : Ciphertext) → entry store wire ≡ Some c → IsCiphertext n c

abbrev pub ciphertext_in : List (Option Ciphertext) → ℕ → Ciphertext
ciphertext_in store wire = unwrap_or (entry store wire) []
