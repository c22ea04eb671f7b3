use Rattle.std.proofs.Common.{◌≡◌, [], drop}
use Rattle.heco_execution.specs.Whole.{outputs}
use Rattle.heco_execution.proofs.whole.outputs.Given as goal

abbrev pub invariant-loop-port : goal.invariant-loop-port
invariant-loop-port g l =
    outputs (g.S.Secrets.ops l.m) l.ports l.names [] l.initial.p
    ≡ outputs (g.S.Secrets.ops l.m) (drop l.port-index l.ports) l.names l.rows l.p
