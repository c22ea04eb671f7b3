use Rattle.std.proofs.Common.{◌∙◌, ap, length, map}
use Rattle.std.specs.Prelude.{slice_index}
use Rattle.heco_rewrites.specs.Wires.{output_over}
use Rattle.heco_peep.proofs.ByEach.{living_gates, living_outputs}
use Rattle.heco_peep.proofs.once.living.Goals as goal

pub returns-clause-gates : goal.returns-clause-gates
returns-clause-gates c =
    living_gates c.args.c.now c.args.changed.now _ _ _ c.without_dead.result
    (c.as_slice-4.ensures ∙ c.in_ok-outputs.ensures ∙ ap (λ os. map (output_over (slice_index c.as_slice.result.now)) os) (c.as_slice-2.ensures ∙ c.outputs.ensures)
    ∙ ap (λ ns. map (output_over (slice_index ns)) c.args.c.now.outputs) c.as_slice.ensures)
    (c.len.ensures ∙ ap length c.inputs.ensures) c.as_slice-3.ensures c.without_dead.ensures.gates

pub returns-clause-outputs : goal.returns-clause-outputs
returns-clause-outputs c =
    living_outputs c.args.c.now c.args.changed.now _ _ _ c.without_dead.result
    (c.as_slice-4.ensures ∙ c.in_ok-outputs.ensures ∙ ap (λ os. map (output_over (slice_index c.as_slice.result.now)) os) (c.as_slice-2.ensures ∙ c.outputs.ensures)
    ∙ ap (λ ns. map (output_over (slice_index ns)) c.args.c.now.outputs) c.as_slice.ensures)
    (c.len.ensures ∙ ap length c.inputs.ensures) c.as_slice-3.ensures c.without_dead.ensures.outputs
