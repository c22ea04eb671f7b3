-- The headline follows of a job that is done.
use Rattle.std.proofs.Common.{◌≡◌, ◌∙◌, sym, ap, subst, ℕ, List, [], ◌∷◌}
use Rattle.std.specs.Prelude.{unwrap_or}
use Rattle.heco_headline.specs.Exec.{files_of, text_of}
use Rattle.heco_headline.specs.Headline.{IsPlainText}
use Rattle.heco_jobs.specs.Agents.{Agents}
use Rattle.heco_jobs.specs.Done.{Fulfils, after_writes}
use Rattle.heco_jobs.specs.Outsides.{Files, SameFiles}
use Rattle.heco_jobs.specs.declared.product.Product.{Product}
use Rattle.heco_exec.specs.Chain.{numbered}
use Rattle.heco_exec.specs.ExecTask.{exec_job, accepted_job, inputs_job, keys_job, encryptions_job}
use Rattle.heco_exec.specs.Headline.{AreApart, IsExecuted}
use Rattle.heco_exec.specs.Laws.{DoneIsExecuted}
use Rattle.heco_exec.proofs.WrittenFiles.{AllHeld, all_held, others_stand}

executed : (words : List (List ℕ)) (agents left : Agents) (file file' : Files) (p : Product) → AreApart words (5 ∷ 6 ∷ 7 ∷ 8 ∷ 9 ∷ []) → Fulfils words (exec_job agents) left file p
    → SameFiles (after_writes words p.writes file) file' → IsExecuted words agents.passes left.passes file file' (unwrap_or p.text [])
unfolding Fulfils exec_job accepted_job inputs_job keys_job encryptions_job files_of text_of
executed words agents left file file' p apart (s, (src, (u, (accepted, (v, (inputs, (k, (kmat, (rows, (emat, e)))))))))) same =
    let files = files_of e.circuit k rows v.rows in
    let printed : unwrap_or p.text [] ≡ text_of e.circuit k rows v.rows = ap (λ t. unwrap_or t []) e.yields.text in
    let now : SameFiles (after_writes words (numbered 5 files) file) file' = subst (λ ws. SameFiles (after_writes words ws file) file') e.yields.writes same in
    let held : AllHeld words 5 files (after_writes words (numbered 5 files) file) = all_held words 5 files file apart in
    record {
      source = s;
      values = v;
      keys = k;
      material = rows;
      given = record { src = src; accepted = accepted; inputs = inputs; kmat = kmat; emat = emat };
      circuit = e.circuit;
      of_source = e.of_source;
      cir = now _ ∙ held.0;
      sec = now _ ∙ held.1.0;
      eva = now _ ∙ held.1.1.0;
      cts = now _ ∙ held.1.1.1.0;
      res = now _ ∙ held.1.1.1.1.0;
      others = λ name other. now name ∙ others_stand words 5 files file name other;
      decrypted = printed;
      plain = subst (IsPlainText s v.rows) (sym printed) e.plain;
    }

pub done_is_executed : DoneIsExecuted
done_is_executed words agents left old new apart d = record {
  text = unwrap_or d.product.text [];
  printed = d.printed;
  executed = executed words agents left old.file new.file d.product apart d.fulfilled d.files;
}
