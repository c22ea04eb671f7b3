-- The parameters of a source.
use Rattle.std.specs.Prelude.{ℕ, Option, Some, None}
use Rattle.heco_syntax.specs.declared.tree.Num.{Num}

-- how many elements a parameter or name of that length in brackets has: a scalar has one
abbrev pub length_of : Option Num → ℕ
length_of None = 1
length_of (Some len) = len.value
