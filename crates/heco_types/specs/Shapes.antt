-- The inputs and the outputs of a source.
use Rattle.std.specs.Prelude.{◌<◌, ◌^◌, Bool, not, List, map}
use Rattle.std.specs.List.{All, filter}
use Rattle.heco_nums.specs.declared.shape.Shape.{Shape}
use Rattle.heco_syntax.specs.Ports.{length_of}
use Rattle.heco_syntax.specs.declared.tree.Param.{Param}
use Rattle.heco_types.specs.Table.{differ}

abbrev pub shape_of : Param → Shape
shape_of p = record { name = p.name.text; len = length_of p.len }

-- the shapes of the outputs, or else of the inputs, in order
abbrev pub shapes_of : Bool → List Param → List Shape
shapes_of output ports = map shape_of (filter (λ p. not (differ p.output output)) ports)

-- the lengths fit 32 bits
abbrev pub AllShort : List Param → Type 0
AllShort ports = All (λ p. length_of p.len < 2 ^ 32) ports
