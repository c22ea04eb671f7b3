use Rattle.std.proofs.Common.{◌≡◌, ◌<◌, ℕ, false, ◌||◌, length, get_or}
use Rattle.heco_run_laws.specs.Results.{is_output_wire}
use Rattle.heco_products.proofs.wires.mark_outputs.Given as goal

abbrev pub invariant-loop-rest : goal.invariant-loop-rest
invariant-loop-rest l = (w : ℕ) → w < length l.wires → (get_or l.wires w false || is_output_wire l.rest w) ≡ (get_or l.initial.wires w false || is_output_wire l.outputs w)

abbrev pub decreases-loop-rest : goal.decreases-loop-rest
decreases-loop-rest l = length l.rest
