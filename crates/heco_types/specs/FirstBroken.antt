-- The first broken rule of a source.
use Rattle.std.specs.Prelude.{◌≡◌, ◌≤◌, ◌⊎◌, List}
use Rattle.std.specs.List.{Contains}
use Rattle.heco_lex.specs.declared.place.Place.{Place}
use Rattle.heco_lex.specs.declared.rule.Rule.{Rule}
use Rattle.heco_syntax.specs.Kept.{Before}
use Rattle.heco_syntax.specs.declared.tree.Source.{Source}
use Rattle.heco_types.specs.Parameters.{sites}
use Rattle.heco_types.specs.Sites.{Site, Breaks}
use Rattle.heco_types.specs.Table.{row}
use Rattle.heco_types.specs.declared.refusal.TypeErr.{TypeErr}
use Rattle.heco_types.specs.declared.refusal.TypeErr.TheVariants.{At, Memory}

-- one of the sites stands at the place and breaks the rule
pub record AnyBreaks (ss : List Site) (rule : Rule) (at : Place) : Type 0 where
  pub site : Site
  pub among : Contains ss site
  pub stands : site.at ≡ at
  pub breaks : Breaks site rule

-- the rule is broken at the place; no broken one has an earlier place, and at this place none has an earlier row
pub record IsFirstOf (ss : List Site) (rule : Rule) (at : Place) : Type 0 where
  pub broken : AnyBreaks ss rule at
  pub least : (r : Rule) (p : Place) → AnyBreaks ss r p → Before at p ⊎ ((p ≡ at) × (row rule ≤ row r))

-- the source breaks the rule at the place
abbrev pub IsBroken : Source → Rule → Place → Type 0
IsBroken x rule at = AnyBreaks (sites x) rule at

-- the source breaks no rule at any place
abbrev pub BreaksNone : Source → Type 0
BreaksNone x = (rule : Rule) (at : Place) → IsBroken x rule at → ⊥

-- the first broken rule of the source, with its place
abbrev pub IsFirstBroken : Source → Rule → Place → Type 0
IsFirstBroken x rule at = IsFirstOf (sites x) rule at

-- a refusal names the first broken rule; want of memory says nothing of the source
abbrev pub IsCause : Source → TypeErr → Type 0
IsCause x (At rule at) = IsFirstBroken x rule at
IsCause x Memory = Unit {0}
