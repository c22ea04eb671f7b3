use Rattle.std.proofs.Common.{◌≡◌, take, subst}
use Rattle.std.proofs.lemmas.Result.{err_from_is_err_and}
use Rattle.heco_material.specs.declared.words.EncWords.{EncWords}
use Rattle.heco_reads.specs.MaterialFiles.{SpellsEncryptions, IsEncryptionsRefusal}
use Rattle.heco_jobs.proofs.StageLaws.{read_failed, read_judged}
use Rattle.heco_jobs.specs.Stages.{Judges, seen}
use Rattle.heco_jobs.specs.Words.{texts}
use Rattle.heco_reads.proofs.MaterialLaws.{encryptions_first}
use Rattle.heco_reads.proofs.encryptions_file.read_encryptions.Goals as goal

pub returns-in_err-text-clause-read : goal.returns-in_err-text-clause-read
returns-in_err-text-clause-read g c =
    let p = err_from_is_err_and c.from_residual.result c.from_residual.ensures.1 in
    rw (p.1, p.2) (read_failed g.S.Store (texts c.args.words.now) c.args.which (SpellsEncryptions c.args.preset.now c.args.count) (IsEncryptionsRefusal c.args.which c.args.preset.now c.args.count) c.limit.result c.args.store.now c.read_bytes.new.store c.in_err-text.field-0.0 c.in_err-text.ensures)

pub returns-clause-read : goal.returns-clause-read
returns-clause-read g c =
    let result = seen {X = EncWords} (λ material. material.rows) c.judge_encryptions.result in
    let bytes = subst (λ b. Judges (SpellsEncryptions c.args.preset.now c.args.count) (IsEncryptionsRefusal c.args.which c.args.preset.now c.args.count) b result) c.as_slice.ensures c.judge_encryptions.ensures.judged in
    read_judged g.S.Store (texts c.args.words.now) c.args.which (SpellsEncryptions c.args.preset.now c.args.count) (IsEncryptionsRefusal c.args.which c.args.preset.now c.args.count) c.limit.result c.args.store.now c.read_bytes.new.store c.in_ok-text.text result
    (λ text h. h) c.in_ok-text.ensures bytes (λ text cut j. encryptions_first c.args.which c.args.preset.now c.args.count text c.in_ok-text.text result (subst (λ l. take l text ≡ c.in_ok-text.text) c.limit.ensures cut) j)
