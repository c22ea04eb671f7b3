-- The bound of what is too deep in a written home.
use Rattle.std.specs.Prelude.{ℕ, Option, None}
use Rattle.std.specs.Option.{option_map}
use Rattle.heco_written.specs.Bound.{Scheme, bound, first_deep}
use Rattle.heco_written.specs.WrittenForm.{WrittenHome, Known, At}

-- of the first subterm of its vector whose bound passes, operands first; none where no bound passes
abbrev pub deep_bound : Scheme → WrittenHome → Option ℕ
deep_bound p (Known c) = None
deep_bound p (At place) = option_map (bound p) (first_deep p place.vector)
