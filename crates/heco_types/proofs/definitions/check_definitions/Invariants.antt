use Rattle.std.proofs.Common.{◌≡◌, drop}
use Rattle.heco_types.specs.Sites.{first}
use Rattle.heco_types.specs.Definitions.{of_definitions, definition_names}
use Rattle.heco_types.proofs.definitions.check_definitions.Given as goal

abbrev pub invariant-loop-d : goal.invariant-loop-d
invariant-loop-d l =
    (of_definitions first l.defs l.initial.scope ≡ of_definitions first (drop l.d-index l.defs) l.scope)
    × (definition_names l.initial.scope l.defs ≡ definition_names l.scope (drop l.d-index l.defs))
