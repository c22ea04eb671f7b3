use Rattle.std.proofs.Common.{sym, subst, Err}
use Rattle.heco_circuit.specs.CircuitFile.{Spells}
use Rattle.heco_jobs.specs.Stages.{Judges}
use Rattle.heco_reads.specs.CircuitFiles.{IsCircuitRefusal}
use Rattle.heco_reads.proofs.CircuitLaws.{refused_circuit}
use Rattle.heco_reads.proofs.circuit_file.judge_circuit.Goals as goal

pub returns-in-Err : goal.returns-in-Err
returns-in-Err c =
    subst (λ o. Judges Spells (IsCircuitRefusal c.args.which) c.args.text.now (Err o)) (sym c.answer.ensures)
    (refused_circuit c.args.which c.args.text.now c.in-Err.error c.in-Err.ensures.cause c.in-Err.ensures.only)
