-- What a source has that breaks no rule.
use Rattle.std.specs.Prelude.{◌≡◌, ◌≢◌, ℕ, ◌≤◌, ◌<◌, Bool, true, false, List, length, Option, Some, None}
use Rattle.std.specs.List.{All, AllPairs}
use Rattle.heco_nums.specs.Presets.{preset_name}
use Rattle.heco_nums.specs.declared.shape.Shape.{Shape}
use Rattle.heco_syntax.specs.Wellformed.{IsWellformed}
use Rattle.heco_syntax.specs.declared.tree.Param.{Param}
use Rattle.heco_syntax.specs.declared.tree.Source.{Source}
use Rattle.heco_types.specs.FirstBroken.{BreaksNone}
use Rattle.heco_types.specs.Names.{visible, is_secret, is_assignable, is_definition, params_of, depth_of}
use Rattle.heco_types.specs.Parameters.{of_source, param_limit, sites}
use Rattle.heco_types.specs.Presets.{slots_named}
use Rattle.heco_syntax.specs.Ports.{length_of}
use Rattle.heco_types.specs.Sites.{Site, first}
use Rattle.heco_types.specs.Table.{Role, preset_word, parameter, declares, targets, uses, calls, counts, most_calls}
use Rattle.heco_types.specs.declared.context.Context.{Context}
use Rattle.heco_types.specs.declared.context.Context.TheVariants.{Anywhere, Index, Bound, IntValue}
use Rattle.heco_types.specs.declared.name.Entity.{Entity}
use Rattle.heco_types.specs.declared.name.Sort.{Sort}

-- in an index, a bound or the value for an int a name is public
abbrev pub MayStand : Context → Sort → Type 0
MayStand Anywhere sort = Unit {0}
MayStand Index sort = is_secret sort ≡ false
MayStand Bound sort = is_secret sort ≡ false
MayStand IntValue sort = is_secret sort ≡ false

-- the target of an assignment is visible, may be assigned, and has an index exactly where it is an array
pub record IsTarget (indexed : Bool) (found : Option Entity) : Type 0 where
  pub entity : Entity
  pub visible : found ≡ Some entity
  pub assignable : is_assignable entity.sort ≡ true
  pub kind : (is_definition entity.sort ≡ false) × (entity.array ≡ indexed)

-- a used name is visible, has an index exactly where it is an array, and may stand where it stands
pub record IsUse (context : Context) (indexed : Bool) (found : Option Entity) : Type 0 where
  pub entity : Entity
  pub visible : found ≡ Some entity
  pub kind : (is_definition entity.sort ≡ false) × (entity.array ≡ indexed)
  pub stands : MayStand context entity.sort

-- a called name is a definition with as many parameters as there are arguments, and may be called where it is
pub record IsCall (count : ℕ) (inside : Bool) (found : Option Entity) : Type 0 where
  pub entity : Entity
  pub visible : found ≡ Some entity
  pub kind : is_definition entity.sort ≡ true
  pub arity : count ≡ params_of entity.sort
  pub nesting : inside ≡ true → depth_of entity.sort < most_calls

-- what stands at a place keeps the rules
abbrev pub IsFine : Role → Option Entity → Type 0
IsFine (preset_word known) found = known ≡ true
IsFine (parameter number) found = (found ≡ None) × (number < 256)
IsFine declares found = found ≡ None
IsFine (targets indexed) found = IsTarget indexed found
IsFine (uses context indexed) found = IsUse context indexed found
IsFine (calls context count inside) found = IsCall count inside found
IsFine (counts value limit equal) found = (1 ≤ value) × (value ≤ limit) × (equal ≡ true)

abbrev pub IsFineAt : Site → Type 0
IsFineAt s = IsFine s.role (visible s.names s.text)

-- the number of elements of a parameter is from 1 to its limit
abbrev pub HasLength : ℕ → Param → Type 0
HasLength slots p = (1 ≤ length_of p.len) × (length_of p.len ≤ param_limit slots p.output)

-- a number of elements from 1 to this limit
abbrev pub IsWithin : ℕ → Shape → Type 0
IsWithin limit s = (1 ≤ s.len) × (s.len ≤ limit)

-- some preset has this name
pub record NamesPreset (name : List ℕ) : Type 0 where
  pub id : ℕ
  pub low : 1 ≤ id
  pub high : id ≤ 5
  pub is : preset_name id ≡ name

-- at most 256 parameters with distinct names and lengths within their limits
pub record AreParameters (slots : ℕ) (ports : List Param) : Type 0 where
  pub count : length ports ≤ 256
  pub distinct : AllPairs (λ p q. p.name.text ≢ q.name.text) ports
  pub lengths : All (HasLength slots) ports

-- a tree as reading gives it that breaks no rule of typing
pub record IsTyped (x : Source) : Type 0 where
  pub formed : IsWellformed x
  pub none : BreaksNone x
  -- the same by the walk over the tree, part by part
  pub found : of_source first x ≡ None
  -- the same at each place
  pub fine : All IsFineAt (sites x)
  pub preset : NamesPreset x.params.text
  pub parameters : AreParameters (slots_named x.params.text) x.ports
