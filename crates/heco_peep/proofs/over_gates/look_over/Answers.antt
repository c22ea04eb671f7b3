use Rattle.std.proofs.Common.{◌∙◌}
use Rattle.heco_circuit.specs.declared.gate.Gate.TheVariants.{Neg}
use Rattle.heco_peep.proofs.LookOver.{before_look, after_look}
use Rattle.heco_peep.proofs.over_gates.look_over.Goals as goal

pub look_one-requires-clause-few : goal.look_one-requires-clause-few
look_one-requires-clause-few g c = (before_look _ _ _ _ _ _ _ (Neg 0) _ (c.as_slice-inputs.ensures ∙ c.inputs.ensures) c.requires c.loop-rest.invariant c.in-len1-up.len_at_least).few

pub look_one-requires-clause-ready : goal.look_one-requires-clause-ready
look_one-requires-clause-ready g c = (before_look _ _ _ _ _ _ _ (Neg 0) _ (c.as_slice-inputs.ensures ∙ c.inputs.ensures) c.requires c.loop-rest.invariant c.in-len1-up.len_at_least).ready

pub look_one-requires-clause-constant : goal.look_one-requires-clause-constant
look_one-requires-clause-constant g c = (before_look _ _ _ _ _ _ _ (Neg 0) _ (c.as_slice-inputs.ensures ∙ c.inputs.ensures) c.requires c.loop-rest.invariant c.in-len1-up.len_at_least).constant

pub look_one-requires-clause-quiet : goal.look_one-requires-clause-quiet
look_one-requires-clause-quiet g c = (before_look _ _ _ _ _ _ _ (Neg 0) _ (c.as_slice-inputs.ensures ∙ c.inputs.ensures) c.requires c.loop-rest.invariant c.in-len1-up.len_at_least).quiet

pub loop-rest-preserved : goal.loop-rest-preserved
loop-rest-preserved g c =
    after_look _ _ _ _ _ _ _ _ _ _ _ (c.as_slice-inputs.ensures ∙ c.inputs.ensures) c.requires c.loop-rest.invariant c.in-len1-up.len_at_least c.in_ok-look_one.ensures.looked c.in_ok-look_one.ensures.stands
    c.look_one.ensures.same
