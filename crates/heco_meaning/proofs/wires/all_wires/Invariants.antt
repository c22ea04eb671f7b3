use Rattle.std.proofs.Common.{◌≡◌, ◌-◌, length}
use Rattle.heco_nums.specs.Runs.{along}
use Rattle.heco_meaning.specs.Meanings.{with_wire}
use Rattle.heco_meaning.proofs.wires.all_wires.Given as goal

abbrev pub invariant-loop-rest : goal.invariant-loop-rest
invariant-loop-rest l = along (with_wire l.t l.vectors) l.wires l.rest ≡ along (with_wire l.t l.vectors) l.fn.inputs l.gates

abbrev pub decreases-loop-rest : goal.decreases-loop-rest
decreases-loop-rest l = length l.rest
