-- The sites of definitions, and what each definition makes visible.
use Rattle.std.specs.Prelude.{ℕ, suc, true, false, List, [], ◌∷◌, ◌++◌, map, length}
use Rattle.heco_syntax.specs.declared.tree.Def.{Def}
use Rattle.heco_syntax.specs.declared.tree.Ident.{Ident}
use Rattle.heco_types.specs.Expressions.{of_expr}
use Rattle.heco_types.specs.Names.{Name, name_of}
use Rattle.heco_types.specs.Sites.{Report, site, deepest}
use Rattle.heco_types.specs.Statements.{declared}
use Rattle.heco_types.specs.Table.{parameter}
use Rattle.heco_types.specs.declared.context.Context.TheVariants.{Anywhere}
use Rattle.heco_types.specs.declared.name.Sort.TheVariants as sort

abbrev pub argument_name : Ident → Name
argument_name x = name_of x.text (record { sort = sort.Argument; array = false })

-- how deep the definitions go that a definition behind these names calls
abbrev pub called_depth : List Name → Def → ℕ
called_depth names d = of_expr deepest true d.value Anywhere (names ++ map argument_name d.params)

-- a definition behind these names: so many parameters, and one deeper than what it calls
abbrev pub definition_name : List Name → Def → Name
definition_name names d = name_of d.name.text (record { sort = sort.Definition (length d.params) (suc (called_depth names d)); array = false })

-- what is visible behind definitions
abbrev pub definition_names : List Name → List Def → List Name
definition_names names [] = names
definition_names names (d ∷ ds) = definition_names (names ++ definition_name names d ∷ []) ds

module _ {M : Type 0} (report : Report M) where
  -- a parameter with its number
  abbrev pub of_argument : ℕ → Ident → List Name → M
  of_argument number x names = report.test (site x.at x.text (parameter number) names)

  -- the parameters from a number on; each is visible after its name
  abbrev pub of_arguments : ℕ → List Ident → List Name → M
  of_arguments number [] names = report.nothing
  of_arguments number (x ∷ xs) names = report.next (of_argument number x names) (of_arguments (suc number) xs (names ++ argument_name x ∷ []))

  -- "(" params ")" "=" value ";", in which the parameters and what was defined before are visible
  abbrev pub of_value : Def → List Name → M
  of_value d names = report.next (of_arguments 0 d.params names) (of_expr report true d.value Anywhere (names ++ map argument_name d.params))

  -- "def" name "(" params ")" "=" value ";"
  abbrev pub of_definition : Def → List Name → M
  of_definition d names = report.next (declared report d.name names) (of_value d names)

  abbrev pub of_definitions : List Def → List Name → M
  of_definitions [] names = report.nothing
  of_definitions (d ∷ ds) names = report.next (of_definition d names) (of_definitions ds (names ++ definition_name names d ∷ []))
