use Rattle.std.proofs.Common.{◌∙◌, ◌+ℤ◌, ◌<ℤ◌, pos, w64, SFits, to_z, rules, arith}
use Rattle.std.proofs.lemmas.Int.{ints, to_z-of_z}
use Rattle.heco_execution.specs.Evaluation.{calls_of}
use Rattle.heco_execution.specs.Execution.{run_all}
use Rattle.heco_execution.proofs.StatementLemmas.{loop_goes_on}
use Rattle.heco_execution.proofs.TurnLemmas.{turns_go_on}
use Rattle.heco_execution.proofs.statement.+run.Goals as goal

pub run_turns-loop-i-preserved : goal.run_turns-loop-i-preserved
run_turns-loop-i-preserved g t c =
    let next : SFits w64 (to_z w64 c.loop-i.i-bits +ℤ pos 1) = search rules in
    let high : SFits w64 c.args.high = c.ranges.high in
    let low : SFits w64 c.args.low = c.ranges.low in
    let test = simp to_z-of_z at c.loop-i-test.true in
    let less : to_z w64 c.loop-i.i-bits <ℤ c.args.high = grind (arith, ints) in
    let before = simp to_z-of_z at c.loop-i.invariant in
    simp to_z-of_z
    (before ∙ turns_go_on c.args.at c.args.text.now (run_all (g.S.Secrets.ops c.args.m.now) (calls_of (g.S.Secrets.ops c.args.m.now) c.args.defs.now) c.args.body.now) (to_z w64 c.loop-i.i-bits) c.args.high _ _ _ _ less c.in_ok-run_turn.ensures.ok)

pub run-returns-in-Loop-clause-ok : goal.run-returns-in-Loop-clause-ok
run-returns-in-Loop-clause-ok g t c =
    rw (loop_goes_on (g.S.Secrets.ops c.args.m.now) (calls_of (g.S.Secrets.ops c.args.m.now) c.args.defs.now) c.args.s.now c.in-Loop.at c.in-Loop.name c.as_slice-in-Loop.result.now
    c.in-Loop.low c.in-Loop.high c.in-Loop.body c.as_slice-in-Loop-2.result.now c.args.names.now c.args.p.now c.in-Loop.is c.as_slice-in-Loop.ensures c.as_slice-in-Loop-2.ensures)
    c.run_loop.ensures.ok

pub run-returns-in-Loop-clause-err : goal.run-returns-in-Loop-clause-err
run-returns-in-Loop-clause-err g t c =
    rw (loop_goes_on (g.S.Secrets.ops c.args.m.now) (calls_of (g.S.Secrets.ops c.args.m.now) c.args.defs.now) c.args.s.now c.in-Loop.at c.in-Loop.name c.as_slice-in-Loop.result.now
    c.in-Loop.low c.in-Loop.high c.in-Loop.body c.as_slice-in-Loop-2.result.now c.args.names.now c.args.p.now c.in-Loop.is c.as_slice-in-Loop.ensures c.as_slice-in-Loop-2.ensures)
    c.run_loop.ensures.err
