use Rattle.std.proofs.Common.{sym, subst, Ok, Err}
use Rattle.heco_material.specs.declared.words.EncWords.{EncWords}
use Rattle.heco_reads.specs.MaterialFiles.{SpellsEncryptions, IsEncryptionsRefusal}
use Rattle.heco_jobs.specs.Stages.{Judges}
use Rattle.heco_reads.proofs.MaterialLaws.{judged_encryptions}
use Rattle.heco_reads.proofs.encryptions_file.judge_encryptions.Goals as goal

pub returns-in-Ok-clause-judged : goal.returns-in-Ok-clause-judged
returns-in-Ok-clause-judged c = judged_encryptions {X = EncWords} (λ material. material.rows) c.args.which c.args.preset.now c.args.count c.args.text.now (Ok c.in-Ok.material) c.in-Ok.ensures.spelled c.in-Ok.ensures.only c.in-Ok.ensures.cause

pub returns-in-Err-clause-judged : goal.returns-in-Err-clause-judged
returns-in-Err-clause-judged c =
    subst (λ o. Judges (SpellsEncryptions c.args.preset.now c.args.count) (IsEncryptionsRefusal c.args.which c.args.preset.now c.args.count) c.args.text.now (Err o)) (sym c.answer.ensures)
    (judged_encryptions {X = EncWords} (λ material. material.rows) c.args.which c.args.preset.now c.args.count c.args.text.now (Err c.in-Err.error) c.in-Err.ensures.spelled c.in-Err.ensures.only c.in-Err.ensures.cause)
