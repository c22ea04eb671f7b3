use Rattle.std.proofs.Common.{◌≡◌, ◌++◌, drop}
use Rattle.std.specs.List.{flat_map}
use Rattle.heco_print.specs.Statements.{spelled_stmt}
use Rattle.heco_print.proofs.statement.+blocks.Given as goal

abbrev pub invariant-spell_statements-loop-x : goal.invariant-spell_statements-loop-x
invariant-spell_statements-loop-x l = l.fn.out ++ flat_map spelled_stmt l.body ≡ l.out ++ flat_map spelled_stmt (drop l.x-index l.body)
