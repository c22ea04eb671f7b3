use Rattle.std.proofs.Common.{◌≡◌, ◌≤◌, drop}
use Rattle.heco_execution.specs.States.{nothing}
use Rattle.heco_execution.specs.Whole.{opened}
use Rattle.heco_execution.proofs.whole.opened.Given as goal

abbrev pub invariant-loop-port : goal.invariant-loop-port
invariant-loop-port g l =
    (l.next ≤ l.port-index)
    × (opened (g.S.Secrets.ops l.m) l.ports l.rows nothing l.initial.p
    ≡ opened (g.S.Secrets.ops l.m) (drop l.port-index l.ports) (drop l.next l.rows) l.names l.p)
