use Rattle.std.proofs.Common.{arith}
use Rattle.heco_circuit.specs.Circuits.{most}
use Rattle.heco_circuit.proofs.FileLaws.{every_cause, spelled_answer, broken_answer, noisy_answer}
use Rattle.heco_fields.proofs.Laws.{IsBytes, IsBytes-take}
use Rattle.heco_circuit.proofs.reading.read.Goals as goal

pub returns-clause-cause : goal.returns-clause-cause
returns-clause-cause c =
    let fits : IsBytes c.args.bytes.now = λ i. omega (arith, c.type_inv.bytes i) in
    every_cause c.args.bytes.now c.read_exactly.result fits (IsBytes-take most c.args.bytes.now fits) c.read_exactly.ensures

pub returns-clause-only : goal.returns-clause-only
returns-clause-only c = λ p s. spelled_answer c.args.bytes.now c.read_exactly.result p c.read_exactly.ensures s

pub returns-clause-malformed : goal.returns-clause-malformed
returns-clause-malformed c = λ at b. broken_answer c.args.bytes.now c.read_exactly.result at c.read_exactly.ensures b

pub returns-clause-noisy : goal.returns-clause-noisy
returns-clause-noisy c = λ gate bound n. noisy_answer c.args.bytes.now c.read_exactly.result gate bound c.read_exactly.ensures n
