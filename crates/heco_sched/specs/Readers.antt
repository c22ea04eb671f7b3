-- The gates that read a wire, as a chain from the last one down.
use Rattle.std.specs.Prelude.{◌≡◌, ℕ, zero, suc, ◌+◌, ◌<◌, ◌==◌, List, [], ◌∷◌, length, if◌then◌else◌, slice_get, slice_index}
use Rattle.std.specs.Prelude.{unwrap_or, true, Option, Some, None}
use Rattle.heco_schedules.specs.Rising.{names}
use Rattle.heco_schedules.specs.Standings.{Wiring, Standing}
use Rattle.heco_sched.specs.Tallies.{IsKept}

abbrev pub operands_at : List (List ℕ) → ℕ → List ℕ
operands_at reads gate = unwrap_or (slice_get reads gate) []

-- the number after that of the last of the first n gates that reads the wire, or 0
unfoldable pub last_reader : List (List ℕ) → ℕ → ℕ → ℕ
last_reader reads wire zero = 0
last_reader reads wire (suc n) = if names (operands_at reads n) wire then n + 1 else last_reader reads wire n

-- one number where the wire is the first of these operands, and the other where it is not
abbrev pub by_operand : List ℕ → ℕ → ℕ → ℕ → ℕ
by_operand [] wire first second = 0
by_operand (w ∷ ws) wire first second = if w == wire then first else second

-- the number of a second wire, or 0
abbrev pub second_of : List ℕ → Option ℕ → ℕ
second_of last None = 0
second_of last (Some wire) = slice_index last wire

-- of the first n gates: for each wire the last that reads it, and for each operand of a gate the one before
pub record AreReaders (wires : ℕ) (reads : List (List ℕ)) (n : ℕ) (last firsts seconds : List ℕ) : Type 0 where
  pub count : length last ≡ wires
  pub first_count : length firsts ≡ n
  pub second_count : length seconds ≡ n
  pub final : (wire : ℕ) → wire < wires → slice_index last wire ≡ last_reader reads wire n
  pub earlier : (gate wire : ℕ) → gate < n → names (operands_at reads gate) wire ≡ true
      → by_operand (operands_at reads gate) wire (slice_index firsts gate) (slice_index seconds gate) ≡ last_reader reads wire gate

-- a board's lists fit where its gates stand, and its chains are those of its circuit
pub record IsBoard (c : Wiring) (s : Standing) (gates counts last firsts seconds : List ℕ) (places : ℕ) : Type 0 where
  pub kept : IsKept c s gates counts places
  pub readers : AreReaders (c.inputs + length c.reads) c.reads (length c.reads) last firsts seconds
