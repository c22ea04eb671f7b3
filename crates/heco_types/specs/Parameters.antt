-- The sites of parameters and of a whole source.
use Rattle.std.specs.Prelude.{ℕ, suc, Bool, true, false, List, [], ◌∷◌, ◌++◌, map, Option, Some, None, is_some}
use Rattle.heco_syntax.specs.declared.tree.Num.{Num}
use Rattle.heco_syntax.specs.declared.tree.Param.{Param}
use Rattle.heco_syntax.specs.declared.tree.Source.{Source}
use Rattle.heco_types.specs.Definitions.{of_definitions, definition_names}
use Rattle.heco_types.specs.Names.{Name, name_of}
use Rattle.heco_types.specs.Presets.{names_preset, slots_named}
use Rattle.heco_types.specs.Sites.{Report, Site, site, all}
use Rattle.heco_types.specs.Statements.{most, counted, of_block}
use Rattle.heco_types.specs.Table.{preset_word, parameter}
use Rattle.heco_types.specs.declared.name.Sort.{Sort}
use Rattle.heco_types.specs.declared.name.Sort.TheVariants as sort

abbrev pub sort_of : Bool → Sort
sort_of true = sort.Output
sort_of false = sort.Input

-- the name of a parameter, an array where it has a length
abbrev pub param_name : Param → Name
param_name p = name_of p.name.text (record { sort = sort_of p.output; array = is_some p.len })

-- an input has at most as many elements as one row of the preset has slots
abbrev pub param_limit : ℕ → Bool → ℕ
param_limit slots true = most
param_limit slots false = slots

module _ {M : Type 0} (report : Report M) where
  abbrev pub of_length : Option Num → ℕ → List Name → M
  of_length None limit names = report.nothing
  of_length (Some len) limit names = counted report len limit true names

  abbrev pub of_param : ℕ → ℕ → Param → List Name → M
  of_param slots number p names =
      report.next (report.test (site p.name.at p.name.text (parameter number) names)) (of_length p.len (param_limit slots p.output) names)

  -- what is told of the parameters from a number on; each is visible after its name
  abbrev pub of_params : ℕ → ℕ → List Param → List Name → M
  of_params slots number [] names = report.nothing
  of_params slots number (p ∷ ps) names = report.next (of_param slots number p names) (of_params slots (suc number) ps (names ++ param_name p ∷ []))

  -- the function, behind these names
  abbrev pub of_function : Source → List Name → M
  of_function x names = report.next (of_params (slots_named x.params.text) 0 x.ports names) (of_block report x.body (names ++ map param_name x.ports))

  abbrev pub of_source : Source → M
  of_source x =
      report.next (report.test (site x.params.at x.params.text (preset_word (names_preset x.params.text)) []))
      (report.next (of_definitions report x.defs []) (of_function x (definition_names [] x.defs)))

-- the places of a source at which rules are tried, in text order
abbrev pub sites : Source → List Site
sites x = of_source all x
