use Rattle.std.proofs.Common.{◌≡◌, [], drop}
use Rattle.heco_execution.specs.Whole.{as_secrets}
use Rattle.heco_execution.proofs.whole.as_secrets.Given as goal

abbrev pub invariant-loop-v : goal.invariant-loop-v
invariant-loop-v g l =
    as_secrets (g.S.Secrets.ops l.m) l.list [] l.initial.p
    ≡ as_secrets (g.S.Secrets.ops l.m) (drop l.v-index l.list) l.row l.p
