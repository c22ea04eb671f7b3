-- A file of ciphertexts: it is read as one thing alone, judged as its reader says, and known by its first bytes, one more than it may have.
use Rattle.std.proofs.Common.{◌≡◌, ◌≤◌, ◌+◌, ℕ, List, length, take, Result, Ok, Err, refl, sym, ap, arith, ◌∙◌}
use Rattle.std.specs.Prelude.{IfOk, IfErr}
use Rattle.heco_ciphertext_files.specs.CiphertextFiles.{AreCiphertexts, ciphertexts, file_text, magic_of}
use Rattle.heco_ciphertext_files.specs.Counted.{HasCountedCause}
use Rattle.heco_ciphertext_files.specs.declared.kind.FileKind.{FileKind}
use Rattle.heco_ciphertext_files.specs.declared.kind.FileKind.TheVariants.{Cts, Res}
use Rattle.heco_files.specs.Lengths.{ciphertexts_length}
use Rattle.heco_files.proofs.Cuts.{counted_cause_whole}
use Rattle.heco_files.proofs.Lengths.{ciphertexts_spans}
use Rattle.heco_files.proofs.Once.{ciphertexts_once, ciphertexts_short}
use Rattle.heco_files.proofs.Spans.{Any}
use Rattle.heco_key_files.specs.Judging.{Answers}
use Rattle.heco_lists.specs.declared.error.FileErr.{FileErr}
use Rattle.heco_nums.specs.declared.preset.Preset.{Preset}
use Rattle.heco_jobs.specs.declared.outcome.Outcome.{Outcome}
use Rattle.heco_jobs.specs.Stages.{Judges, seen}
use Rattle.heco_reads.specs.CiphertextFiles.{SpellsCiphertexts, IsCiphertextsRefusal}
use Rattle.heco_reads.proofs.FirstLaws.{judged_first}
use Rattle.heco_reads.proofs.KeyFileLaws.{file_answered, file_refused, judged_file}

magic_four : (kind : FileKind) → length (magic_of kind) ≡ 4
magic_four Cts = refl
magic_four Res = refl

pub ciphertexts_alone : (kind : FileKind) (p : Preset) (count : ℕ) (text : List ℕ) (cs ds : List (List (List ℕ))) → SpellsCiphertexts kind p count text cs → SpellsCiphertexts kind p count text ds → cs ≡ ds
ciphertexts_alone kind p count text cs ds hc hd = ciphertexts_once (magic_of kind) p.n p.id count cs ds hc.within hd.within (sym hc.spelled ∙ hd.spelled)

pub judged_ciphertexts : {X : Type 0} (view : X → List (List (List ℕ))) (k : ℕ) (kind : FileKind) (p : Preset) (count : ℕ) (text : List ℕ) (result : Result X FileErr)
    → IfOk result (λ x. AreCiphertexts p.n count (view x) × (text ≡ file_text (magic_of kind) p.id (view x)))
    → ((cs : List (List (List ℕ))) → AreCiphertexts p.n count cs → text ≡ file_text (magic_of kind) p.id cs → Answers view result (Ok cs)) → IfErr result (HasCountedCause (magic_of kind) p.id count (ciphertexts p.n count) text)
    → Judges (SpellsCiphertexts kind p count) (IsCiphertextsRefusal k kind p count) text (seen view (file_answered k result))
judged_ciphertexts view k kind p count text (Ok x) fits only cause = record { within = fits.0; spelled = fits.1 }
judged_ciphertexts view k kind p count text (Err e) fits only cause =
    judged_file view k (SpellsCiphertexts kind p count) (λ t. HasCountedCause (magic_of kind) p.id count (ciphertexts p.n count) t) text (Err e) tt (λ y h. only y h.within h.spelled) cause

pub ciphertexts_first : (k : ℕ) (kind : FileKind) (p : Preset) (count : ℕ) (text bytes : List ℕ) (result : Result (List (List (List ℕ))) Outcome) → take (ciphertexts_length p.n count + 1) text ≡ bytes
    → Judges (SpellsCiphertexts kind p count) (IsCiphertextsRefusal k kind p count) bytes result → Judges (SpellsCiphertexts kind p count) (IsCiphertextsRefusal k kind p count) text result
ciphertexts_first k kind p count text bytes result cut j =
    let most = ciphertexts_length p.n count in
    let magic = magic_of kind in
    let four = magic_four kind in
    judged_first (SpellsCiphertexts kind p count) (IsCiphertextsRefusal k kind p count) (most + 1) text bytes result cut
    (λ t cs h. let le : length (file_text magic p.id cs) ≤ most = ciphertexts_short magic p.n p.id count cs four h.within in omega (arith, ap length h.spelled, le))
    (file_refused k _ _ (λ e cause. counted_cause_whole magic p.id count (ciphertexts p.n count) most (most + 1) Any text bytes e four (omega arith) (ciphertexts_spans magic p.n count four) (omega arith) cut cause))
    j
