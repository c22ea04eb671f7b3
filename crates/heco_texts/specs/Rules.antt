-- The rules of a text of inputs, by its lines.
use Rattle.std.specs.Prelude.{◌≡◌, ℕ, ◌+◌, ◌<◌, Bool, not, ◌==◌, List, [], ◌∷◌, Option, Some, None, if◌then◌else◌, length, map}
use Rattle.std.specs.Prelude.{take, nat_lt, slice_index_or, is_some, is_none, unwrap_or}
use Rattle.std.specs.List.{list_all, flat_map, position_from}
use Rattle.std.specs.Str.{bytes_eq}
use Rattle.heco_nums.specs.declared.shape.Shape.{Shape}
use Rattle.heco_texts.specs.Kinds.{LineKind, Idle, Assigned, Formless, kind_of}
use Rattle.heco_texts.specs.Numbers.{value_of}
use Rattle.heco_texts.specs.declared.error.InputRule.{InputRule}
use Rattle.heco_texts.specs.declared.error.InputRule.TheVariants.{InputText, InputName, InputCount, InputValue}
use Rattle.heco_texts.specs.declared.given.Given.{Given}

-- ---- what lines give

abbrev pub given_of : LineKind → List Given
given_of Idle = []
given_of Formless = []
given_of (Assigned name numbers) = record { name = name; row = map value_of numbers } ∷ []

-- the names and values that the lines give, in order
abbrev pub given_by : List (List ℕ) → List Given
given_by lines = flat_map (λ line. given_of (kind_of line)) lines

-- the values that were given with that name
abbrev pub row_named : List ℕ → List Given → Option (List ℕ)
row_named name [] = None
row_named name (g ∷ given) = if bytes_eq g.name name then Some g.row else row_named name given

-- how many elements the shape of that name has
abbrev pub len_named : List ℕ → List Shape → Option ℕ
len_named name [] = None
len_named name (s ∷ shapes) = if bytes_eq s.name name then Some s.len else len_named name shapes

-- ---- the rules of a line

-- where an input has the name: whether an earlier line gave it, how many elements it has, and the values of the line
abbrev pub rule_of_values : ℕ → Bool → ℕ → List ℕ → Option InputRule
rule_of_values t earlier len values = if earlier then Some InputName else if not (length values == len) then Some InputCount
    else if list_all (λ v. nat_lt v t) values then None else Some InputValue

abbrev pub rule_of_name : ℕ → Bool → Option ℕ → List ℕ → Option InputRule
rule_of_name t earlier None values = Some InputName
rule_of_name t earlier (Some len) values = rule_of_values t earlier len values

-- the first rule that a line of this kind breaks, behind lines that gave these
abbrev pub rule_of : ℕ → List Shape → List Given → LineKind → Option InputRule
rule_of t shapes given Idle = None
rule_of t shapes given Formless = Some InputText
rule_of t shapes given (Assigned name numbers) = rule_of_name t (is_some (row_named name given)) (len_named name shapes) (map value_of numbers)

-- the first rule that the line of that index breaks
abbrev pub broken_at : ℕ → List Shape → List (List ℕ) → ℕ → Option InputRule
broken_at t shapes lines k = rule_of t shapes (given_by (take k lines)) (kind_of (slice_index_or lines k []))

-- the line of that number, counted from 1, is the first that breaks a rule, and this is the first rule that it breaks
pub record IsFirstBroken (t : ℕ) (shapes : List Shape) (lines : List (List ℕ)) (rule : InputRule) (number : ℕ) : Type 0 where
  pub index : ℕ
  pub counted : number ≡ index + 1
  pub within : index < length lines
  pub broken : broken_at t shapes lines index ≡ Some rule
  pub earlier : (k : ℕ) → k < index → broken_at t shapes lines k ≡ None

abbrev pub NoneBroken : ℕ → List Shape → List (List ℕ) → Type 0
NoneBroken t shapes lines = (k : ℕ) → k < length lines → broken_at t shapes lines k ≡ None

-- ---- the rules of all lines

-- the index of the first shape whose name no line gave
abbrev pub first_missing : List Given → List Shape → Option ℕ
first_missing given shapes = position_from (λ s. is_none (row_named s.name given)) 0 shapes

-- the values that were given for the shape
abbrev pub row_of : List Given → Shape → List ℕ
row_of given s = unwrap_or (row_named s.name given) []

-- for each shape the values of the line that gave its name
abbrev pub rows_of : List Given → List Shape → List (List ℕ)
rows_of given shapes = map (row_of given) shapes
