use Rattle.std.proofs.Common.{◌≡◌, length, map, ◌∙◌, arith}
use Rattle.heco_schedules.specs.Tables.{below}
use Rattle.heco_schedules.specs.Standings.{gate_ready}
use Rattle.heco_sched.specs.Wirings.{operands_of}
use Rattle.heco_sched.proofs.OpeningLaws.{flags_pass}
use Rattle.heco_sched.proofs.opening.ready_ones.Goals as goal

pub of-requires : goal.of-requires
of-requires c =
    let is : c.as_slice.result.now ≡ map (gate_ready c.args.inputs (map operands_of c.args.gates.now) c.args.stages.now) (below (length c.args.gates.now)) = c.as_slice.ensures.value ∙ c.in_ok-flags.ensures in
    let f = flags_pass _ _ _ is in
    omega (arith, f.0)

pub returns-clause-ready : goal.returns-clause-ready
returns-clause-ready c =
    let is : c.as_slice.result.now ≡ map (gate_ready c.args.inputs (map operands_of c.args.gates.now) c.args.stages.now) (below (length c.args.gates.now)) = c.as_slice.ensures.value ∙ c.in_ok-flags.ensures in
    let f = flags_pass _ _ _ is in
    rw f.1 at c.of.ensures.numbers

pub returns-clause-places : goal.returns-clause-places
returns-clause-places c =
    let is : c.as_slice.result.now ≡ map (gate_ready c.args.inputs (map operands_of c.args.gates.now) c.args.stages.now) (below (length c.args.gates.now)) = c.as_slice.ensures.value ∙ c.in_ok-flags.ensures in
    let f = flags_pass _ _ _ is in
    rw f.0 at c.of.ensures.places
