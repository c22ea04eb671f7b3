use Rattle.std.proofs.Common.{◌≡◌, ◌++◌, map, drop}
use Rattle.heco_types.specs.Sites.{first}
use Rattle.heco_types.specs.Parameters.{of_params, param_name}
use Rattle.heco_types.proofs.parameters.check_params.Given as goal

abbrev pub invariant-loop-number : goal.invariant-loop-number
invariant-loop-number l =
    (of_params first l.slots 0 l.ports l.initial.scope ≡ of_params first l.slots l.number (drop l.number l.ports) l.scope)
    × (l.initial.scope ++ map param_name l.ports ≡ l.scope ++ map param_name (drop l.number l.ports))
