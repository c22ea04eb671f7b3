use Rattle.std.proofs.Common.{arith}
use Rattle.heco_good.proofs.GatheredLaw.{gathered_is_good}
use Rattle.heco_plainvec.proofs.KeptLaw.{keeps_the_rest}
use Rattle.heco_compile.proofs.FileLength.{has_room}
use Rattle.heco_compile.proofs.circuit.circuit_of.Goals as goal

pub gather-requires : goal.gather-requires
gather-requires c = has_room c.in_ok-placed.placed c.in_ok-placed.ensures.good.valid c.in_ok-placed.ensures.few

pub returns-clause-circuit : goal.returns-clause-circuit
returns-clause-circuit c =
    let placed = c.in_ok-placed.placed in
    let good = c.in_ok-placed.ensures.good in
    rw c.in_ok-gather.ensures (gathered_is_good c.args.t.now placed good c.in_ok-placed.ensures.unweighed (has_room placed good.valid c.in_ok-placed.ensures.few))

pub returns-clause-few : goal.returns-clause-few
returns-clause-few c =
    let placed = c.in_ok-placed.placed in
    let kept = keeps_the_rest placed c.in_ok-placed.ensures.good.valid in
    rw c.in_ok-gather.ensures (omega (arith, kept.gates, c.in_ok-placed.ensures.few))
