-- Some rule is tried at each name of a source but the function's own.
use Rattle.std.specs.Prelude.{◌≡◌, ℕ, List, ◌++◌, Some}
use Rattle.std.specs.List.{Contains, flat_map}
use Rattle.heco_lex.specs.declared.place.Place.{Place}
use Rattle.heco_syntax.specs.Kept.{Kept, kept_ident, kept_def, kept_param, kept_stmt}
use Rattle.heco_syntax.specs.declared.tree.Source.{Source}
use Rattle.heco_types.specs.Parameters.{sites}
use Rattle.heco_types.specs.Sites.{Site}

-- what the tree keeps of its tokens, but for the function's own name
abbrev pub kept_but_own : Source → List Kept
kept_but_own x = kept_ident x.params ++ (flat_map kept_def x.defs ++ (flat_map kept_param x.ports ++ flat_map kept_stmt x.body))

-- one of the sites stands at the place and has the text
pub record IsTried (ss : List Site) (at : Place) (text : List ℕ) : Type 0 where
  pub site : Site
  pub among : Contains ss site
  pub stands : site.at ≡ at
  pub says : site.text ≡ text

abbrev pub AllTried : List Site → List Kept → Type 0
AllTried ss ks = (k : Kept) (text : List ℕ) → Contains ks k → k.name ≡ Some text → IsTried ss k.at text

-- at each name but the function's own there is a site
abbrev pub EachNameIsTried : Source → Type 0
EachNameIsTried x = AllTried (sites x) (kept_but_own x)
