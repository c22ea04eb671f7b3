use Rattle.std.proofs.Common.{subst}
use Rattle.std.proofs.lemmas.Result.{err_from_is_err_and}
use Rattle.heco_sources.specs.Inputs.{IsInput, modulus_of, input_shapes}
use Rattle.heco_reads.specs.SourceFiles.{IsValuesRefusal}
use Rattle.heco_jobs.proofs.StageLaws.{read_failed, read_judged}
use Rattle.heco_jobs.specs.Stages.{Judges}
use Rattle.heco_jobs.specs.Words.{texts}
use Rattle.heco_reads.proofs.InputLaws.{judged_values}
use Rattle.heco_reads.proofs.values_file.read_values_file.Goals as goal

pub returns-in_err-text : goal.returns-in_err-text
returns-in_err-text g c =
    let p = err_from_is_err_and c.from_residual.result c.from_residual.ensures.1 in
    rw (p.1, p.2) (read_failed g.S.Store (texts c.args.words.now) c.args.which (IsInput c.args.typed.now) (IsValuesRefusal c.args.typed.now) 4194305 c.args.store.now c.read_bytes.new.store c.in_err-text.field-0.0 c.in_err-text.ensures)

pub returns : goal.returns
returns g c =
    let result = c.judge_values.result in
    let bytes = subst (λ b. Judges (IsInput c.args.typed.now) (IsValuesRefusal c.args.typed.now) b result) c.as_slice.ensures c.judge_values.ensures in
    read_judged g.S.Store (texts c.args.words.now) c.args.which (IsInput c.args.typed.now) (IsValuesRefusal c.args.typed.now) 4194305 c.args.store.now c.read_bytes.new.store c.in_ok-text.text result
    (λ text h. h) c.in_ok-text.ensures bytes (λ text cut j. judged_values (modulus_of c.args.typed.now) (input_shapes c.args.typed.now) text c.in_ok-text.text result cut j)
