-- A set of numbers below a bound.
use Rattle.std.specs.Prelude.{ℕ, List, Bool, slice_get}
use Rattle.heco_schedules.specs.Tables.{passes}

-- the numbers that are marked, by rising number, all below so many places
pub record Marked : Type 0 where
  pub places : ℕ
  pub numbers : List ℕ

-- the flag of that number is set
abbrev pub flag_at : List Bool → ℕ → Bool
flag_at flags number = passes (λ flag. flag) (slice_get flags number)
