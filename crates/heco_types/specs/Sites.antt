-- Places of the tree with what stands there and the names that are visible there.
use Rattle.std.specs.Prelude.{◌≡◌, ℕ, max, true, List, [], ◌∷◌, ◌++◌, Option, Some, None}
use Rattle.std.specs.Option.{option_or}
use Rattle.heco_lex.specs.declared.place.Place.{Place}
use Rattle.heco_lex.specs.declared.rule.Rule.{Rule}
use Rattle.heco_types.specs.Names.{Name, visible}
use Rattle.heco_types.specs.Table.{Role, is_broken, earliest, depth_by}
use Rattle.heco_types.specs.declared.refusal.TypeErr.{TypeErr}
use Rattle.heco_types.specs.declared.refusal.TypeErr.TheVariants.{At, Memory}

pub record Site : Type 0 where
  pub at : Place
  pub text : List ℕ
  pub role : Role
  pub names : List Name

abbrev pub site : Place → List ℕ → Role → List Name → Site
site at text role names = record { at = at; text = text; role = role; names = names }

-- the rule is broken there
abbrev pub Breaks : Site → Rule → Type 0
Breaks s rule = is_broken rule s.role (visible s.names s.text) ≡ true

-- a way to tell of sites, one after another
pub record Report (M : Type 0) : Type 0 where
  pub nothing : M
  pub test : Site → M
  pub next : M → M → M

-- all sites in text order
abbrev pub all : Report (List Site)
all = record { nothing = []; test = λ s. s ∷ []; next = λ xs ys. xs ++ ys }

abbrev pub refusal : Place → Option Rule → Option TypeErr
refusal at None = None
refusal at (Some rule) = Some (At rule at)

abbrev pub refusal_at : Site → Option TypeErr
refusal_at s = refusal s.at (earliest s.role (visible s.names s.text))

-- the first refusal alone
abbrev pub first : Report (Option TypeErr)
first = record { nothing = None; test = refusal_at; next = option_or }

-- the greatest depth of a definition that is called in the value of another
abbrev pub deepest : Report ℕ
deepest = record { nothing = 0; test = λ s. depth_by s.role (visible s.names s.text); next = max }

-- the refusal is the one that is found, unless it is want of memory
abbrev pub Finds : TypeErr → Option TypeErr → Type 0
Finds (At rule at) found = found ≡ Some (At rule at)
Finds Memory found = Unit {0}
