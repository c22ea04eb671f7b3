use Rattle.std.proofs.Common.{◌≡◌, take, subst}
use Rattle.std.proofs.lemmas.Result.{err_from_is_err_and}
use Rattle.heco_key_files.specs.KeyFiles.{lists_of}
use Rattle.heco_reads.specs.KeyFiles.{SpellsEvaluation, IsEvaluationRefusal}
use Rattle.heco_jobs.proofs.StageLaws.{read_failed, read_judged}
use Rattle.heco_jobs.specs.Stages.{Judges, seen}
use Rattle.heco_jobs.specs.Words.{texts}
use Rattle.heco_reads.proofs.KeyFileLaws.{evaluation_first}
use Rattle.heco_reads.proofs.key_files.read_evaluation.Goals as goal

pub returns-in_err-text-clause-read : goal.returns-in_err-text-clause-read
returns-in_err-text-clause-read g c =
    let p = err_from_is_err_and c.from_residual.result c.from_residual.ensures.1 in
    rw (p.1, p.2) (read_failed g.S.Store (texts c.args.words.now) c.args.which (SpellsEvaluation c.args.preset.now) (IsEvaluationRefusal c.args.which c.args.preset.now) c.evaluation_limit.result c.args.store.now c.read_bytes.new.store c.in_err-text.field-0.0 c.in_err-text.ensures)

pub returns-clause-read : goal.returns-clause-read
returns-clause-read g c =
    let result = seen lists_of c.judge_evaluation.result in
    let bytes = subst (λ b. Judges (SpellsEvaluation c.args.preset.now) (IsEvaluationRefusal c.args.which c.args.preset.now) b result) c.as_slice.ensures c.judge_evaluation.ensures.judged in
    read_judged g.S.Store (texts c.args.words.now) c.args.which (SpellsEvaluation c.args.preset.now) (IsEvaluationRefusal c.args.which c.args.preset.now) c.evaluation_limit.result c.args.store.now c.read_bytes.new.store c.in_ok-text.text result
    (λ text h. h) c.in_ok-text.ensures bytes (λ text cut j. evaluation_first c.args.which c.args.preset.now text c.in_ok-text.text result (subst (λ l. take l text ≡ c.in_ok-text.text) c.evaluation_limit.ensures cut) j)
