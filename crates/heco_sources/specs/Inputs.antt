-- The values of the inputs of a source, from their text.
use Rattle.std.specs.Prelude.{ℕ, false, true, List}
use Rattle.heco_nums.specs.declared.shape.Shape.{Shape}
use Rattle.heco_nums.specs.declared.shape.Values.{Values}
use Rattle.heco_syntax.specs.declared.tree.Source.{Source}
use Rattle.heco_types.specs.Shapes.{shapes_of}
use Rattle.heco_eval.specs.Typed.{modulus_named}
use Rattle.heco_texts.specs.Answers.{IsRead, IsRefused}
use Rattle.heco_texts.specs.declared.error.InputErr.{InputErr}

-- the plaintext modulus of the preset that the source names
abbrev pub modulus_of : Source → ℕ
modulus_of s = modulus_named s.params.text

-- the names and the lengths of the inputs, in order, and of the outputs
abbrev pub input_shapes : Source → List Shape
input_shapes s = shapes_of false s.ports

abbrev pub output_shapes : Source → List Shape
output_shapes s = shapes_of true s.ports

-- the text gives the inputs these values
abbrev pub IsInput : Source → List ℕ → Values → Type 0
IsInput s text v = IsRead (modulus_of s) (input_shapes s) text v

-- and why it gives them none
abbrev pub IsInputRefusal : Source → List ℕ → InputErr → Type 0
IsInputRefusal s text refusal = IsRefused (modulus_of s) (input_shapes s) text refusal
