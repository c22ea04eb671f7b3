use Rattle.heco_nums.proofs.PresetFacts.{facts}
use Rattle.heco_eval.proofs.Moduli.{modulus_is}
use Rattle.heco_eval.proofs.evaluation.modulus.Goals as goal

pub returns : goal.returns
returns c = record { value = modulus_is c.preset.result.now _ c.preset.ensures.name; positive = (facts c.preset.result.now).t_pos }
