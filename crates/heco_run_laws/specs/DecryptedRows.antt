-- What decrypting the wires of a run shows, row by row.
use Rattle.std.specs.Prelude.{◌≡◌, ℕ, ◌<◌, List, length, map, All, ℤ}
use Rattle.std.specs.List.{AllZip}
use Rattle.heco_nums.specs.declared.preset.Preset.{Preset}
use Rattle.heco_circuit.specs.Circuits.{IsCircuit}
use Rattle.heco_circuit.specs.Plans.{Plan, wire_parts}
use Rattle.heco_meaning.specs.Meanings.{filled, wire_at, wires_of}
use Rattle.heco_slots.specs.Rows.{first_row, second_row, row_of}
use Rattle.heco_nums.specs.MaterialBounds.{AreErrors, IsSparse}
use Rattle.heco_scheme.specs.Encryption.{decrypted, encrypted}
use Rattle.heco_scheme.specs.Keys.{IsPublicKey}
use Rattle.heco_run_laws.specs.Runs.{Ciphertext, SwitchKeys, ciphertext_at, run_of}
use Rattle.heco_run_laws.specs.Carried.{FitsRow, IsRowExponent, HaveKeys, IsFreshFor, two_row_messages}

-- an encryption of any message, within bounds, is fresh for it
abbrev pub EncryptionsAreFresh : Type 0
EncryptionsAreFresh =
    (p : Preset) (s : List ℤ) (p0 p1 : List ℕ) (u e1 e2 : List ℤ) (m : List ℕ) → IsSparse p.n p.h s → IsPublicKey p.n p.b s p0 p1 → IsSparse p.n p.h u
    → AreErrors p.n p.b e1
    → AreErrors p.n p.b e2
    → IsFreshFor p s m (encrypted p p0 p1 u e1 e2 m)

-- where the input messages have these rows of values, filled with zeros, in the row e, each wire decrypts to what it means for them, in that row
abbrev pub RowsDecryptToTheMeaning : Type 0
RowsDecryptToTheMeaning =
    (p : Preset) (e : ℕ) (s : List ℤ) (keys : SwitchKeys) (c : Plan) (messages rows : List (List ℕ)) (inputs : List Ciphertext) → IsRowExponent p e
    → p.id ≡ c.preset → IsCircuit c
    → IsSparse p.n p.h s → HaveKeys p s keys c.gates
    → length messages ≡ length c.inputs → AllZip (IsFreshFor p s) messages inputs → map (row_of p e) messages ≡ map (filled p.slots) rows
    → (w : ℕ) → w < length (wire_parts c) → row_of p e (decrypted p s (ciphertext_at (run_of p keys c inputs) w)) ≡ wire_at (wires_of c rows) w

-- so two rows of values that are encrypted together decrypt each to its own meaning
abbrev pub TwoRowsDecryptApart : Type 0
TwoRowsDecryptApart =
    (p : Preset) (s : List ℤ) (keys : SwitchKeys) (c : Plan) (vs ws : List (List ℕ)) (inputs : List Ciphertext) → p.id ≡ c.preset → IsCircuit c
    → IsSparse p.n p.h s → HaveKeys p s keys c.gates
    → length vs ≡ length c.inputs → length ws ≡ length c.inputs → All (FitsRow p) vs → All (FitsRow p) ws
    → AllZip (IsFreshFor p s) (two_row_messages p vs ws) inputs
    → (w : ℕ) → w < length (wire_parts c)
    → (row_of p first_row (decrypted p s (ciphertext_at (run_of p keys c inputs) w)) ≡ wire_at (wires_of c vs) w)
    × (row_of p (second_row p) (decrypted p s (ciphertext_at (run_of p keys c inputs) w)) ≡ wire_at (wires_of c ws) w)
