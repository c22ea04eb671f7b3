use Rattle.std.proofs.Common.{◌≡◌, ◌++◌, map, drop}
use Rattle.heco_types.specs.Sites.{first}
use Rattle.heco_types.specs.Definitions.{of_arguments, argument_name}
use Rattle.heco_types.proofs.definitions.check_arguments.Given as goal

abbrev pub invariant-loop-number : goal.invariant-loop-number
invariant-loop-number l =
    (of_arguments first 0 l.params l.initial.scope ≡ of_arguments first l.number (drop l.number l.params) l.scope)
    × (l.initial.scope ++ map argument_name l.params ≡ l.scope ++ map argument_name (drop l.number l.params))
