use Rattle.heco_circuit.proofs.QuietLaw.{quiet_law}
use Rattle.heco_circuit.proofs.quiet.valid_circuits_are_quiet.Goals as goal

pub returns : goal.returns
returns c = λ p h. quiet_law p h
