-- The table of the typing rules: which rule a place of the tree breaks.
use Rattle.std.specs.Prelude.{ℕ, Bool, true, false, not, ◌||◌, ◌&&◌, ◌==◌, nat_le, nat_lt, List, [], ◌∷◌, Option, Some, None}
use Rattle.std.specs.List.{find}
use Rattle.heco_lex.specs.declared.rule.Rule.{Rule}
use Rattle.heco_lex.specs.declared.rule.Rule.TheVariants as rule
use Rattle.heco_types.specs.Names.{is_secret, is_assignable, is_definition, params_of, depth_of}
use Rattle.heco_types.specs.declared.context.Context.{Context}
use Rattle.heco_types.specs.declared.context.Context.TheVariants.{Index, Bound, IntValue}
use Rattle.heco_types.specs.declared.name.Entity.{Entity}

-- what stands at a place of the tree
pub data Role : Type 0 where
  -- the word after "params", and whether it names a preset
  preset_word : Bool → Role
  -- the name of the parameter with this number, from 0
  parameter : ℕ → Role
  -- any other name that is declared
  declares : Role
  -- the target of an assignment, and whether it has an index
  targets : Bool → Role
  -- a name in an expression that stands here, without a call, and whether it has an index
  uses : Context → Bool → Role
  -- a name that is called in an expression that stands here, with so many arguments, and whether in a definition
  calls : Context → ℕ → Bool → Role
  -- a length of this value, its limit, and whether as many values are given
  counts : ℕ → ℕ → Bool → Role

-- so many definitions may call one another
abbrev pub most_calls : ℕ
most_calls = 8

-- one of them has an index, the other has none
abbrev pub differ : Bool → Bool → Bool
differ true b = not b
differ false b = b

-- whether what stands at the place breaks the rule, where its name stands for this
abbrev pub is_broken : Rule → Role → Option Entity → Bool
is_broken rule.UnknownParams (preset_word known) found = not known
is_broken rule.UnknownName (targets indexed) None = true
is_broken rule.UnknownName (uses context indexed) None = true
is_broken rule.UnknownName (calls context count inside) None = true
is_broken rule.Redeclared (parameter number) (Some e) = true
is_broken rule.Redeclared declares (Some e) = true
is_broken rule.NotAssignable (targets indexed) (Some e) = not (is_assignable e.sort)
is_broken rule.Kind (targets indexed) (Some e) = is_definition e.sort || differ e.array indexed
is_broken rule.Kind (uses context indexed) (Some e) = is_definition e.sort || differ e.array indexed
is_broken rule.Kind (calls context count inside) (Some e) = not (is_definition e.sort)
is_broken rule.SecretIndex (uses Index indexed) (Some e) = is_secret e.sort
is_broken rule.SecretBound (uses Bound indexed) (Some e) = is_secret e.sort
is_broken rule.SecretToPublic (uses IntValue indexed) (Some e) = is_secret e.sort
is_broken rule.Length (counts value limit equal) found = value == 0 || nat_lt limit value || not equal
is_broken rule.Length (parameter number) found = nat_le 256 number
is_broken rule.Length (calls context count inside) (Some e) = not (count == params_of e.sort)
is_broken rule.TooNested (calls context count inside) (Some e) = inside && nat_le most_calls (depth_of e.sort)
is_broken rule role found = false

-- the rules in the order in which they are tried at one place
abbrev pub table : List Rule
table =
    rule.UnknownParams ∷ rule.UnknownName ∷ rule.Redeclared ∷ rule.NotAssignable ∷ rule.Kind ∷ rule.SecretIndex ∷ rule.SecretBound
    ∷ rule.SecretToPublic ∷ rule.Length ∷ rule.TooNested ∷ []

-- the row of a rule in the table; other rules of reading and those of execution have none
abbrev pub row : Rule → ℕ
row rule.UnknownParams = 0
row rule.UnknownName = 1
row rule.Redeclared = 2
row rule.NotAssignable = 3
row rule.Kind = 4
row rule.SecretIndex = 5
row rule.SecretBound = 6
row rule.SecretToPublic = 7
row rule.Length = 8
row rule.TooNested = 9
row rule = 10

-- the earliest rule of the table that is broken
abbrev pub earliest : Role → Option Entity → Option Rule
earliest role found = find (λ r. is_broken r role found) table

-- how deep the definition goes that is called there in the value of another
abbrev pub depth_by : Role → Option Entity → ℕ
depth_by (calls context count true) (Some e) = depth_of e.sort
depth_by role found = 0
