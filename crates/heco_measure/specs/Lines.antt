-- The text of what is measured: a line for each wire.
use Rattle.std.specs.Prelude.{ℕ, List, ◌++◌, codes, decimal}
use Rattle.std.specs.List.{flat_map}
use Rattle.heco_measure.specs.declared.measuring.Measured.{Measured}

-- the wire, its noise and its bound
abbrev pub measured_line : Measured → List ℕ
measured_line m = decimal m.wire ++ codes " " ++ decimal m.noise ++ codes " " ++ decimal m.bound ++ codes "\n"

unfoldable pub measured_text : List Measured → List ℕ
measured_text list = flat_map measured_line list
