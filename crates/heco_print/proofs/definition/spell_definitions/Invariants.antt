use Rattle.std.proofs.Common.{◌≡◌, ◌++◌, drop}
use Rattle.std.specs.List.{flat_map}
use Rattle.heco_print.specs.Statements.{definition}
use Rattle.heco_print.proofs.definition.spell_definitions.Given as goal

abbrev pub invariant-loop-d : goal.invariant-loop-d
invariant-loop-d l = l.fn.out ++ flat_map definition l.defs ≡ l.out ++ flat_map definition (drop l.d-index l.defs)
