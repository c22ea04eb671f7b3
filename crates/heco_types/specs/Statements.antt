-- The sites of statements, and the names that statements make visible.
use Rattle.std.specs.Prelude.{ℕ, Bool, true, false, ◌==◌, List, [], ◌∷◌, ◌++◌, map, length, Option, Some, None, is_some, if◌then◌else◌}
use Rattle.heco_syntax.specs.declared.tree.Ident.{Ident}
use Rattle.heco_syntax.specs.declared.tree.Num.{Num}
use Rattle.heco_syntax.specs.declared.tree.Expr.{Expr}
use Rattle.heco_syntax.specs.declared.tree.Stmt.{Stmt, fold-Stmt}
use Rattle.heco_syntax.specs.declared.tree.Stmt.TheOpen.{Stmt-F}
use Rattle.heco_types.specs.Expressions.{of_expr, each}
use Rattle.heco_types.specs.Names.{Name, name_of, visible, is_secret}
use Rattle.heco_types.specs.Sites.{Report, site}
use Rattle.heco_types.specs.Table.{declares, targets, counts}
use Rattle.heco_types.specs.declared.context.Context.{Context}
use Rattle.heco_types.specs.declared.context.Context.TheVariants.{Anywhere, Index, Bound, IntValue}
use Rattle.heco_types.specs.declared.name.Entity.{Entity}
use Rattle.heco_types.specs.declared.name.Sort.{Sort}
use Rattle.heco_types.specs.declared.name.Sort.TheVariants as sort

-- the most elements that an array may have, but for an input
abbrev pub most : ℕ
most = 4096

-- the value for a public name stands in the value for an int
abbrev pub value_context : Option Entity → Context
value_context None = Anywhere
value_context (Some e) = if is_secret e.sort then Anywhere else IntValue

abbrev pub only : Ident → Sort → Bool → List Name
only name sort array = name_of name.text (record { sort = sort; array = array }) ∷ []

module _ {M : Type 0} (report : Report M) where
  -- a name that is declared
  abbrev pub declared : Ident → List Name → M
  declared name names = report.test (site name.at name.text declares names)

  -- the target of an assignment
  abbrev pub target : Bool → Ident → List Name → M
  target indexed name names = report.test (site name.at name.text (targets indexed) names)

  -- a length, its limit, and whether as many values are given
  abbrev pub counted : Num → ℕ → Bool → List Name → M
  counted len limit equal names = report.test (site len.at [] (counts len.value limit equal) names)

  abbrev pub of_maybe : Option Expr → Context → List Name → M
  of_maybe None context names = report.nothing
  of_maybe (Some e) context names = of_expr report false e context names

  -- "int" name "=" value ";"
  abbrev pub of_int_one : Ident → Expr → List Name → M
  of_int_one name value names = report.next (declared name names) (of_expr report false value IntValue names)

  -- "int" name "[" len "]" "=" "{" values "}" ";"
  abbrev pub of_int_many : Ident → Num → List Expr → List Name → M
  of_int_many name len values names =
      report.next (declared name names)
      (report.next (counted len most (len.value == length values) names) (each report false (map (of_expr report false) values) IntValue names))

  -- "secret" name [ "=" value ] ";"
  abbrev pub of_secret_one : Ident → Option Expr → List Name → M
  of_secret_one name value names = report.next (declared name names) (of_maybe value Anywhere names)

  -- "secret" name "[" len "]" ";"
  abbrev pub of_secret_many : Ident → Num → List Name → M
  of_secret_many name len names = report.next (declared name names) (counted len most true names)

  -- name [ "[" index "]" ] "=" value ";"
  abbrev pub of_set : Ident → Option Expr → Expr → List Name → M
  of_set name index value names =
      report.next (target (is_some index) name names)
      (report.next (of_maybe index Index names) (of_expr report false value (value_context (visible names name.text)) names))

  -- "for" name "in" low ".." high and what is told of the body, in which the name is visible
  abbrev pub of_loop : Ident → Expr → Expr → (List Name → M) → List Name → M
  of_loop name low high body names =
      report.next (declared name names)
      (report.next (of_expr report false low Bound names) (report.next (of_expr report false high Bound names) (body (names ++ only name sort.Counter false))))

  -- what is told of a statement, by what is visible before it, and what is visible after it as well
  pub record Judged : Type 0 where
    pub told : List Name → M
    pub adds : List Name

  abbrev pub judged_as : (List Name → M) → List Name → Judged
  judged_as told adds = record { told = told; adds = adds }

  abbrev pub block : List Judged → List Name → M
  block [] names = report.nothing
  block (j ∷ js) names = report.next (j.told names) (block js (names ++ j.adds))

  abbrev pub of_other : Option (List Judged) → List Name → M
  of_other None names = report.nothing
  of_other (Some other) names = block other names

  -- "if" test and what is told of the blocks, each of which has the names before it
  abbrev pub of_choice : Expr → List Judged → Option (List Judged) → List Name → M
  of_choice test body other names = report.next (of_expr report false test Bound names) (report.next (block body names) (of_other other names))

  abbrev pub stmt_layer : Stmt-F Judged → Judged
  stmt_layer (Stmt-F.IntOne at name value) = judged_as (of_int_one name value) (only name sort.Int false)
  stmt_layer (Stmt-F.IntMany at name len values) = judged_as (of_int_many name len values) (only name sort.Int true)
  stmt_layer (Stmt-F.SecretOne at name value) = judged_as (of_secret_one name value) (only name sort.Secret false)
  stmt_layer (Stmt-F.SecretMany at name len) = judged_as (of_secret_many name len) (only name sort.Secret true)
  stmt_layer (Stmt-F.Set name index op at value) = judged_as (of_set name index value) []
  stmt_layer (Stmt-F.Loop at name low high body) = judged_as (of_loop name low high (block body)) []
  stmt_layer (Stmt-F.Choice at test body other) = judged_as (of_choice test body other) []

  abbrev pub judged : Stmt → Judged
  judged s = fold-Stmt Judged stmt_layer s

  -- what is told of statements in order, by what is visible before them
  abbrev pub of_block : List Stmt → List Name → M
  of_block body names = block (map judged body) names

-- what statements make visible
abbrev pub added : {M : Type 0} {report : Report M} → List (Judged report) → List Name
added [] = []
added (j ∷ js) = j.adds ++ added js
