-- The names that are visible at a place, and what they stand for.
use Rattle.std.specs.Prelude.{ℕ, Bool, true, false, cond, List, [], ◌∷◌, Option, Some, None}
use Rattle.std.specs.Str.{bytes_eq}
use Rattle.heco_types.specs.declared.name.Sort.{Sort}
use Rattle.heco_types.specs.declared.name.Sort.TheVariants as sort
use Rattle.heco_types.specs.declared.name.Entity.{Entity}

pub record Name : Type 0 where
  pub text : List ℕ
  pub entity : Entity

abbrev pub name_of : List ℕ → Entity → Name
name_of text entity = record { text = text; entity = entity }

-- what the text names among these
abbrev pub visible : List Name → List ℕ → Option Entity
visible [] text = None
visible (n ∷ names) text = cond (bytes_eq text n.text) (Some n.entity) (visible names text)

-- parameters and secret names are secret, int names and loop names are public
abbrev pub is_secret : Sort → Bool
is_secret sort.Input = true
is_secret sort.Output = true
is_secret sort.Secret = true
is_secret sort.Int = false
is_secret sort.Counter = false
is_secret sort.Argument = false
is_secret (sort.Definition params depth) = false

abbrev pub is_assignable : Sort → Bool
is_assignable sort.Input = false
is_assignable sort.Output = true
is_assignable sort.Secret = true
is_assignable sort.Int = true
is_assignable sort.Counter = false
is_assignable sort.Argument = false
is_assignable (sort.Definition params depth) = false

-- a definition has neither index nor value of its own
abbrev pub is_definition : Sort → Bool
is_definition (sort.Definition params depth) = true
is_definition sort = false

abbrev pub params_of : Sort → ℕ
params_of (sort.Definition params depth) = params
params_of sort = 0

-- how deep calls go within what is named
abbrev pub depth_of : Sort → ℕ
depth_of (sort.Definition params depth) = depth
depth_of sort = 0
