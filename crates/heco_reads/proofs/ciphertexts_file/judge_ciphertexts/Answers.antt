use Rattle.std.proofs.Common.{ℕ, List, sym, subst, Ok, Err}
use Rattle.std.specs.Prelude.{Vec}
use Rattle.std.specs.declared.alloc.Global.{Global}
use Rattle.heco_reads.specs.CiphertextFiles.{SpellsCiphertexts, IsCiphertextsRefusal}
use Rattle.heco_jobs.specs.Stages.{Judges}
use Rattle.heco_reads.proofs.CiphertextLaws.{judged_ciphertexts}
use Rattle.heco_reads.proofs.ciphertexts_file.judge_ciphertexts.Goals as goal

pub returns-in-Ok-clause-judged : goal.returns-in-Ok-clause-judged
returns-in-Ok-clause-judged c = judged_ciphertexts {X = Vec (List (List ℕ)) Global} (λ cs. cs.items) c.args.which c.args.kind c.args.preset.now c.args.count c.args.text.now (Ok c.in-Ok.ciphertexts) c.in-Ok.ensures.spelled c.in-Ok.ensures.only c.in-Ok.ensures.cause

pub returns-in-Err-clause-judged : goal.returns-in-Err-clause-judged
returns-in-Err-clause-judged c =
    subst (λ o. Judges (SpellsCiphertexts c.args.kind c.args.preset.now c.args.count) (IsCiphertextsRefusal c.args.which c.args.kind c.args.preset.now c.args.count) c.args.text.now (Err o)) (sym c.file_answer.ensures)
    (judged_ciphertexts {X = Vec (List (List ℕ)) Global} (λ cs. cs.items) c.args.which c.args.kind c.args.preset.now c.args.count c.args.text.now (Err c.in-Err.error) c.in-Err.ensures.spelled c.in-Err.ensures.only c.in-Err.ensures.cause)
