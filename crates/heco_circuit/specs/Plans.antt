-- What a circuit says, and when it is valid.
use Rattle.std.specs.Prelude.{ℕ, ◌-◌, ◌^◌, Bool, ◌&&◌, ◌==◌, not, List, [], ◌∷◌, ◌++◌, length, nat_le}
use Rattle.std.specs.List.{list_any, list_all}
use Rattle.std.specs.Str.{bytes_eq}
use Rattle.heco_nums.specs.Presets.{modulus_of, slots_of}
use Rattle.heco_nums.specs.Words.{is_word}
use Rattle.heco_nums.specs.declared.shape.Shape.{Shape}
use Rattle.heco_nums.specs.Runs.{along, all_along}
use Rattle.heco_circuit.specs.declared.gate.Cell.{Cell}
use Rattle.heco_circuit.specs.declared.gate.Cell.TheVariants.{Number, Slot}
use Rattle.heco_circuit.specs.declared.gate.Gate.{Gate}
use Rattle.heco_circuit.specs.declared.gate.Output.{Output}
use Rattle.heco_circuit.specs.Validity.{is_between, has_parts, is_gate, with_gate}

-- a circuit for the preset of this number
pub record Plan : Type 0 where
  pub preset : ℕ
  pub inputs : List Shape
  pub vectors : List (List ℕ)
  pub gates : List Gate
  pub outputs : List Output

-- the name of an output, and how many elements it has
abbrev pub shape_of : Output → Shape
shape_of o = record { name = o.name; len = length o.cells }

abbrev pub names_input : List ℕ → Shape → Bool
names_input name s = bytes_eq s.name name

abbrev pub names_output : List ℕ → Output → Bool
names_output name o = bytes_eq o.name name

-- a word that no earlier input and no earlier output has as its name
abbrev pub is_new : List Shape → List Output → List ℕ → Bool
is_new inputs outputs name = is_word name && not (list_any (names_input name) inputs) && not (list_any (names_output name) outputs)

abbrev pub is_name : List Shape → List Output → List ℕ → Bool
is_name inputs outputs name = is_between 1 (2 ^ 20) (length name) && is_new inputs outputs name

-- behind these inputs, in a preset of so many slots
abbrev pub is_input : ℕ → List Shape → Shape → Bool
is_input slots earlier s = is_name earlier [] s.name && is_between 1 slots s.len

abbrev pub is_cell : ℕ → ℕ → List ℕ → Cell → Bool
is_cell t slots parts (Number n) = is_between 0 (t - 1) n
is_cell t slots parts (Slot wire slot) = has_parts 2 parts wire && is_between 0 (slots - 1) slot

abbrev pub is_output : ℕ → ℕ → List Shape → List ℕ → List Output → Output → Bool
is_output t slots inputs parts earlier o = is_name inputs earlier o.name && (is_between 1 4096 (length o.cells) && list_all (is_cell t slots parts) o.cells)

abbrev pub push : {A : Type 0} → List A → A → List A
push xs x = xs ++ x ∷ []

-- two parts for each input
abbrev pub input_parts : {A : Type 0} → List A → List ℕ
input_parts [] = []
input_parts (s ∷ inputs) = 2 ∷ input_parts inputs

-- the parts of all wires
abbrev pub wire_parts : Plan → List ℕ
wire_parts p = along with_gate (input_parts p.inputs) p.gates

abbrev pub are_inputs : Plan → Bool
are_inputs p = nat_le (length p.inputs) 256 && all_along (is_input (slots_of p.preset)) push [] p.inputs

-- N numbers below t
abbrev pub is_vector : ℕ → ℕ → List ℕ → Bool
is_vector t slots v = length v == slots && list_all (is_between 0 (t - 1)) v

abbrev pub are_vectors : Plan → Bool
are_vectors p = nat_le (length p.vectors) 256 && list_all (is_vector (modulus_of p.preset) (slots_of p.preset)) p.vectors

abbrev pub are_gates : Plan → Bool
are_gates p = nat_le (length p.gates) (2 ^ 25 - 1)
    && all_along (is_gate (modulus_of p.preset) (slots_of p.preset) (length p.vectors)) with_gate (input_parts p.inputs) p.gates

abbrev pub are_outputs : Plan → Bool
are_outputs p = nat_le (length p.outputs) (256 - length p.inputs)
    && all_along (is_output (modulus_of p.preset) (slots_of p.preset) p.inputs (wire_parts p)) push [] p.outputs

-- names, lengths, counts and numbers, and the order, the parts and the ranges of each gate
abbrev pub is_formed : Plan → Bool
is_formed p = is_between 1 5 p.preset && (are_inputs p && (are_vectors p && (are_gates p && are_outputs p)))
