-- What `measure` has printed where it is done, and that encrypted files are of the chain.
use Rattle.std.proofs.Common.{◌≡◌, ◌∙◌, ◌++◌, ℕ, List, [], ◌∷◌, map, sym, ap}
use Rattle.std.specs.Prelude.{All, unwrap_or}
use Rattle.std.proofs.lemmas.List.{length-map}
use Rattle.std.proofs.lemmas.List.Elements.{All-nil, All-cons}
use Rattle.heco_jobs.specs.Agents.{Agents}
use Rattle.heco_jobs.specs.Done.{Fulfils}
use Rattle.heco_jobs.specs.Outsides.{Outside}
use Rattle.heco_jobs.specs.declared.product.Product.{Product}
use Rattle.heco_nums.specs.declared.preset.Preset.{Preset}
use Rattle.heco_products.specs.Encrypting.{pair_message}
use Rattle.heco_nums.specs.PresetRows.{preset_of}
use Rattle.heco_run_laws.proofs.Measured.{encodings}
use Rattle.heco_run_laws.proofs.RowsOfMessages.{length-two_rows}
use Rattle.heco_run_laws.specs.Carried.{two_row_messages}
use Rattle.heco_run_laws.specs.Measured.{IsMessage}
use Rattle.heco_run_laws.specs.Messages.{input_message}
use Rattle.heco_tasks.specs.MeasuredFiles.{DoneIsMeasured, EncryptedFilesAreOfTheChain, PrintsMeasured}
use Rattle.heco_tasks.specs.MeasureTask.{measure_job, measured_secret_job, measured_key_job, measured_served_job, noise_job, noise_text}

-- ---- what is printed

printed_of : (words : List (List ℕ)) (agents left : Agents) (old new : Outside) (p : Product) → Fulfils words (measure_job agents) left old.file p → new.taken ≡ old.taken ++ unwrap_or p.text [] → PrintsMeasured words old new
unfolding Fulfils measure_job measured_secret_job measured_key_job measured_served_job noise_job noise_text
printed_of words agents left old new p (c, (cir, (s, (sec, (key, (eva, (u, (needed, (inputs, (cts, (prints, still))))))))))) printed =
    record {
      circuit = c;
      secret = s;
      key = key;
      inputs = inputs;
      given = record { cir = cir; sec = sec; eva = eva; needed = needed; cts = cts };
      printed = printed ∙ ap (λ text. old.taken ++ unwrap_or text []) prints.text;
    }

pub done_is_measured : DoneIsMeasured
done_is_measured words agents left old new d = printed_of words agents left old new d.product d.fulfilled d.printed

-- ---- files of the chain

one_row_messages : (p : Preset) (rows : List (List ℕ)) → All (IsMessage p) (map (input_message p) rows)
one_row_messages p [] = All-nil (IsMessage p)
one_row_messages p (row ∷ rows) = All-cons (IsMessage p) (input_message p row) (map (input_message p) rows) (encodings p _ []).0 (one_row_messages p rows)

two_rows_messages : (p : Preset) (first second : List (List ℕ)) → All (IsMessage p) (two_row_messages p first second)
two_rows_messages p [] second = All-nil (IsMessage p)
two_rows_messages p (v ∷ first) [] = All-nil (IsMessage p)
two_rows_messages p (v ∷ first) (w ∷ second) =
    All-cons (IsMessage p) (pair_message p v w) (two_row_messages p first second) (encodings p _ _).1 (two_rows_messages p first second)

pub encrypted_of_the_chain : EncryptedFilesAreOfTheChain
encrypted_of_the_chain words file c k material first second keys many many_second =
    let p = preset_of c.preset in (
      λ there. record { keys = keys; count = length-map first (input_message p) ∙ many; are_messages = one_row_messages p first; ciphertexts = there },
      λ there. record { keys = keys; count = length-two_rows p first second (many ∙ sym many_second) ∙ many; are_messages = two_rows_messages p first second; ciphertexts = there },
    )
