use Rattle.std.proofs.Common.{sym, subst, Ok, Err}
use Rattle.heco_keys.specs.declared.secret.Secret.{Secret}
use Rattle.heco_reads.specs.KeyFiles.{SpellsSecret, IsSecretRefusal}
use Rattle.heco_jobs.specs.Stages.{Judges}
use Rattle.heco_reads.proofs.KeyFileLaws.{judged_secret}
use Rattle.heco_reads.proofs.key_files.judge_secret.Goals as goal

pub returns-in-Ok-clause-judged : goal.returns-in-Ok-clause-judged
returns-in-Ok-clause-judged c = judged_secret {X = Secret} (λ key. key.places) c.args.which c.args.preset.now c.args.text.now (Ok c.in-Ok.key) c.in-Ok.ensures.spelled c.in-Ok.ensures.only c.in-Ok.ensures.cause

pub returns-in-Err-clause-judged : goal.returns-in-Err-clause-judged
returns-in-Err-clause-judged c =
    subst (λ o. Judges (SpellsSecret c.args.preset.now) (IsSecretRefusal c.args.which c.args.preset.now) c.args.text.now (Err o)) (sym c.file_answer.ensures)
    (judged_secret {X = Secret} (λ key. key.places) c.args.which c.args.preset.now c.args.text.now (Err c.in-Err.error) c.in-Err.ensures.spelled c.in-Err.ensures.only c.in-Err.ensures.cause)
