use Rattle.std.proofs.Common.{◌≡◌, ◌+◌, ◌*◌, ◌-ℤ◌, drop}
use Rattle.std.specs.Prelude.{max}
use denote.Param.Weighed.{most}
use Rattle.heco_syntax.specs.declared.tree.Stmt.{size-Stmt}
use Rattle.heco_execution.specs.Evaluation.{calls_of}
use Rattle.heco_execution.specs.Execution.{at_least_zero, turns, run_all}
use Rattle.heco_execution.proofs.statement.+run.Given as goal

abbrev pub invariant-run_turns-loop-i : goal.invariant-run_turns-loop-i
invariant-run_turns-loop-i g l =
    turns l.at l.text (run_all (g.S.Secrets.ops l.m) (calls_of (g.S.Secrets.ops l.m) l.defs) l.body) (at_least_zero (l.high -ℤ l.low)) l.low l.initial.names l.initial.p
    ≡ turns l.at l.text (run_all (g.S.Secrets.ops l.m) (calls_of (g.S.Secrets.ops l.m) l.defs) l.body) (at_least_zero (l.high -ℤ l.i)) l.i l.names l.p

abbrev pub decreases-run_turns-loop-i : goal.decreases-run_turns-loop-i
decreases-run_turns-loop-i g l = at_least_zero (l.high -ℤ l.i)

abbrev pub invariant-run_all-loop-s : goal.invariant-run_all-loop-s
invariant-run_all-loop-s g l =
    run_all (g.S.Secrets.ops l.m) (calls_of (g.S.Secrets.ops l.m) l.defs) l.body l.initial.names l.initial.p
    ≡ run_all (g.S.Secrets.ops l.m) (calls_of (g.S.Secrets.ops l.m) l.defs) (drop l.s-index l.body) l.names l.p

-- a statement stands above its blocks, and what runs a block above the block's statements
abbrev pub decreases-run : goal.decreases-run
decreases-run g l = 8 * goal.size-run g l

abbrev pub decreases-run_all : goal.decreases-run_all
decreases-run_all g l = 8 * goal.size-run_all g l + 1

abbrev pub decreases-run_within : goal.decreases-run_within
decreases-run_within g l = 8 * goal.size-run_within g l + 2

abbrev pub decreases-run_turn : goal.decreases-run_turn
decreases-run_turn g l = 8 * goal.size-run_turn g l + 2

abbrev pub decreases-run_turns : goal.decreases-run_turns
decreases-run_turns g l = 8 * goal.size-run_turns g l + 3

abbrev pub decreases-run_loop : goal.decreases-run_loop
decreases-run_loop g l = 8 * most size-Stmt l.body.now + 4

abbrev pub decreases-run_if : goal.decreases-run_if
decreases-run_if g l = 8 * most size-Stmt l.body.now + 4

abbrev pub decreases-run_either : goal.decreases-run_either
decreases-run_either g l = 8 * max (most size-Stmt l.body.now) (most size-Stmt l.other.now) + 4
