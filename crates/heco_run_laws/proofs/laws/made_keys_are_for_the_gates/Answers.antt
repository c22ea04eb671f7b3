use Rattle.heco_run_laws.proofs.GateKeys.{circuit_has_keys}
use Rattle.heco_run_laws.proofs.laws.made_keys_are_for_the_gates.Goals as goal

pub returns : goal.returns
returns c = λ p k words valid material. circuit_has_keys p k words valid material
