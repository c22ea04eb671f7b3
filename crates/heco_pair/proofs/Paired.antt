-- The headline in two rows follows of a job that is done.
use Rattle.std.proofs.Common.{◌≡◌, ◌∙◌, ap, refl, subst, ℕ, List, [], ◌∷◌, ◌++◌}
use Rattle.std.specs.Prelude.{unwrap_or}
use Rattle.heco_headline.specs.Pair.{pair_files, first_text, second_text}
use Rattle.heco_peep.specs.Rules.{Handed}
use Rattle.heco_jobs.specs.Agents.{Agents}
use Rattle.heco_jobs.specs.Done.{Fulfils, after_writes}
use Rattle.heco_jobs.specs.Outsides.{Files, SameFiles}
use Rattle.heco_jobs.specs.declared.product.Product.{Product}
use Rattle.heco_exec.specs.Chain.{numbered}
use Rattle.heco_exec.specs.Headline.{AreApart}
use Rattle.heco_exec.proofs.WrittenFiles.{AllHeld, all_held, others_stand}
use Rattle.heco_pair.specs.Headline.{IsPaired}
use Rattle.heco_pair.specs.Laws.{DoneIsPaired}
use Rattle.heco_pair.specs.PairTask.{pair_job, accepted_job, first_job, second_job, keys_job, encryptions_job}
use Rattle.heco_pair.specs.Texts.{both_texts}

-- both texts of a product, and what holds of them
record Both (words : List (List ℕ)) (handed left : List Handed) (file file' : Files) (p : Product) : Type 0 where
  first : List ℕ
  second : List ℕ
  text : unwrap_or p.text [] ≡ both_texts first second
  paired : IsPaired words handed left file file' first second

both : (words : List (List ℕ)) (agents left : Agents) (file file' : Files) (p : Product) → AreApart words (6 ∷ 7 ∷ 8 ∷ 9 ∷ 10 ∷ []) → Fulfils words (pair_job agents) left file p
    → SameFiles (after_writes words p.writes file) file' → Both words agents.passes left.passes file file' p
unfolding Fulfils pair_job accepted_job first_job second_job keys_job encryptions_job pair_files first_text second_text
both words agents left file file' p apart (s, (src, (u, (accepted, (v, (inputs, (w, (beside, (k, (kmat, (rows, (emat, e)))))))))))) same =
    let files = pair_files e.circuit k rows v.rows w.rows in
    let now : SameFiles (after_writes words (numbered 6 files) file) file' = subst (λ ws. SameFiles (after_writes words ws file) file') e.yields.writes same in
    let held : AllHeld words 6 files (after_writes words (numbered 6 files) file) = all_held words 6 files file apart in
    record {
      first = first_text e.circuit k rows v.rows w.rows;
      second = second_text e.circuit k rows v.rows w.rows;
      text = ap (λ t. unwrap_or t []) e.yields.text;
      paired = record {
        source = s;
        first = v;
        second = w;
        keys = k;
        material = rows;
        given = record { src = src; accepted = accepted; first_inputs = inputs; second_inputs = beside; kmat = kmat; emat = emat };
        circuit = e.circuit;
        of_source = e.of_source;
        cir = now _ ∙ held.0;
        sec = now _ ∙ held.1.0;
        eva = now _ ∙ held.1.1.0;
        cts = now _ ∙ held.1.1.1.0;
        res = now _ ∙ held.1.1.1.1.0;
        others = λ name other. now name ∙ others_stand words 6 files file name other;
        first_decrypted = refl;
        second_decrypted = refl;
        first_plain = e.first;
        second_plain = e.second;
      };
    }

pub done_is_paired : DoneIsPaired
done_is_paired words agents left old new apart d =
    let b = both words agents left old.file new.file d.product apart d.fulfilled d.files in
    record { first = b.first; second = b.second; printed = d.printed ∙ ap (λ (t : List ℕ). old.taken ++ t) b.text; paired = b.paired }
