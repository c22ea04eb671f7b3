use Rattle.std.proofs.Common.{sym, subst, Ok, Err}
use Rattle.heco_material.specs.KeyLists.{lists_of, key_count}
use Rattle.heco_reads.specs.MaterialFiles.{SpellsKeys, IsKeysRefusal}
use Rattle.heco_jobs.specs.Stages.{Judges}
use Rattle.heco_reads.proofs.MaterialLaws.{judged_keys}
use Rattle.heco_reads.proofs.material_file.judge_material.Goals as goal

pub returns-in-Ok-clause-judged : goal.returns-in-Ok-clause-judged
returns-in-Ok-clause-judged c = judged_keys lists_of c.args.which c.args.preset.now (key_count c.args.needs.now) c.args.text.now (Ok c.in-Ok.words) c.in-Ok.ensures.spelled c.in-Ok.ensures.only c.in-Ok.ensures.cause

pub returns-in-Err-clause-judged : goal.returns-in-Err-clause-judged
returns-in-Err-clause-judged c =
    subst (λ o. Judges (SpellsKeys c.args.preset.now (key_count c.args.needs.now)) (IsKeysRefusal c.args.which c.args.preset.now (key_count c.args.needs.now)) c.args.text.now (Err o)) (sym c.answer.ensures)
    (judged_keys lists_of c.args.which c.args.preset.now (key_count c.args.needs.now) c.args.text.now (Err c.in-Err.error) c.in-Err.ensures.spelled c.in-Err.ensures.only c.in-Err.ensures.cause)
