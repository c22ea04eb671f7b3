use Rattle.std.proofs.Common.{◌∙◌, ap, sym, subst}
use Rattle.std.specs.Prelude.{All}
use Rattle.heco_circuit.specs.Bounds.{IsLight, weights_of}
use Rattle.heco_peep.proofs.ByEach.{ready_first, is_passed}
use Rattle.heco_peep.proofs.running.run_passes.Goals as goal

pub pass_by_each-requires : goal.pass_by_each-requires
pass_by_each-requires g c =
    ready_first c.preset.result.now c.as_slice-2.result.now c.args.c c.preset.ensures.preset c.preset.ensures.valid c.requires
    (c.as_slice-2.ensures ∙ c.in_ok-weights.ensures.value ∙ ap (weights_of c.preset.result.now.id) (c.as_slice.ensures ∙ c.vectors.ensures))
    (subst (All IsLight) (sym c.as_slice-2.ensures) c.in_ok-weights.ensures.light)

pub returns-clause-passed : goal.returns-clause-passed
returns-clause-passed g c = is_passed c.preset.result.now c.args.c _ _ c.pass_by_each.result c.preset.ensures.preset c.pass_by_each.ensures.passed c.pass_by_each.ensures.left
