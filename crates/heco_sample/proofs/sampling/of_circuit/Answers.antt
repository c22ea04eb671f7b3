use Rattle.std.proofs.Common.{◌∙◌, ap}
use Rattle.heco_nums.specs.declared.preset.Preset.{Preset}
use Rattle.heco_sample.proofs.Values.{t_is}
use Rattle.heco_sample.proofs.sampling.of_circuit.Goals as goal

pub values-requires : goal.values-requires
values-requires g c = ap (λ (p : Preset). p.t) c.preset.ensures.whole ∙ t_is c.args.typed.now c.requires.is c.args.circuit.now c.requires.good
