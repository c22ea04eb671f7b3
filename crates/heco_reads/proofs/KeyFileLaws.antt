-- The files of both keys: each is read as one thing alone, judged as its reader says, and known by its first bytes, one more than it may have.
use Rattle.std.proofs.Common.{◌≡◌, ◌≤◌, ◌<◌, ◌+◌, ℕ, List, length, take, Result, Ok, Err, refl, sym, ap, arith, ◌∙◌}
use Rattle.std.specs.Prelude.{IfOk, IfErr, codes, ℤ}
use Rattle.heco_files.specs.Lengths.{secret_length, longest_evaluation}
use Rattle.heco_files.proofs.Cuts.{cause_whole}
use Rattle.heco_files.proofs.Lengths.{secret_spans, evaluation_spans}
use Rattle.heco_files.proofs.Once.{secret_once, secret_short, evaluation_once, evaluation_short}
use Rattle.heco_files.proofs.Spans.{Any}
use Rattle.heco_key_files.specs.Judging.{HasCause, Answers}
use Rattle.heco_key_files.specs.KeyFiles.{EvalLists, AreEvalLists, evaluation, eval_text, secret_text}
use Rattle.heco_lists.specs.declared.error.FileErr.{FileErr}
use Rattle.heco_lists.specs.declared.error.FileErr.TheVariants as file
use Rattle.heco_lists.specs.ListFormat.{sparse}
use Rattle.heco_nums.proofs.PresetFacts.{facts}
use Rattle.heco_nums.specs.declared.preset.Preset.{Preset}
use Rattle.heco_nums.specs.MaterialBounds.{IsSparse}
use Rattle.heco_jobs.specs.declared.outcome.Outcome.{Outcome}
use Rattle.heco_jobs.specs.declared.outcome.Refusal.{Refusal}
use Rattle.heco_jobs.specs.declared.outcome.Refusal.TheVariants.{Malformed, WrongPreset, Count}
use Rattle.heco_jobs.specs.Stages.{Judges, seen}
use Rattle.heco_reads.specs.KeyFiles.{IsFileRefusal, SpellsEvaluation, IsEvaluationRefusal, SpellsSecret, IsSecretRefusal, file_answer}
use Rattle.heco_reads.proofs.FirstLaws.{judged_first}

-- ---- one thing alone

pub evaluation_alone : (p : Preset) (text : List ℕ) (e f : EvalLists) → SpellsEvaluation p text e → SpellsEvaluation p text f → e ≡ f
evaluation_alone p text e f he hf =
    let h = facts p in
    let half = h.slots_half in
    let pos = h.n_pos in
    let small = h.n_small in
    evaluation_once p.n p.slots p.id e f (omega arith) (omega arith) he.within hf.within (sym he.spelled ∙ hf.spelled)

pub secret_alone : (p : Preset) (text : List ℕ) (s r : List ℤ) → SpellsSecret p text s → SpellsSecret p text r → s ≡ r
secret_alone p text s r hs hr = secret_once p.n p.h p.id s r hs.within hr.within (sym hs.spelled ∙ hr.spelled)

-- ---- as the reader says

abbrev pub file_answered : {X : Type 0} → ℕ → Result X FileErr → Result X Outcome
file_answered k (Ok x) = Ok x
file_answered k (Err e) = Err (file_answer k e)

-- of a reader of files of keys or ciphertexts
pub judged_file : {X Thing : Type 0} (view : X → Thing) (k : ℕ) (Fits : List ℕ → Thing → Type 0) (Cause : List ℕ → FileErr → Type 0) (text : List ℕ) (result : Result X FileErr) → IfOk result (λ x. Fits text (view x)) → ((y : Thing) → Fits text y → Answers view result (Ok y))
    → IfErr result (Cause text) → Judges Fits (λ t r. IsFileRefusal k (Cause t) r) text (seen view (file_answered k result))
judged_file view k Fits Cause text (Ok x) fits only cause = fits
judged_file view k Fits Cause text (Err (file.Malformed at)) fits only cause = ((λ y h. let x = only y h in cc), (refl, cause))
judged_file view k Fits Cause text (Err (file.WrongPreset kept found)) fits only cause = ((λ y h. let x = only y h in cc), (refl, cause))
judged_file view k Fits Cause text (Err (file.Count want found)) fits only cause = ((λ y h. let x = only y h in cc), (refl, cause))
judged_file view k Fits Cause text (Err file.Memory) fits only cause = tt

pub judged_evaluation : {X : Type 0} (view : X → EvalLists) (k : ℕ) (p : Preset) (text : List ℕ) (result : Result X FileErr) → IfOk result (λ x. AreEvalLists p.n p.slots (view x) × (text ≡ eval_text p.id (view x)))
    → ((e : EvalLists) → AreEvalLists p.n p.slots e → text ≡ eval_text p.id e → Answers view result (Ok e)) → IfErr result (HasCause (codes "HEVA") p.id (evaluation p.n p.slots) text)
    → Judges (SpellsEvaluation p) (IsEvaluationRefusal k p) text (seen view (file_answered k result))
judged_evaluation view k p text (Ok x) fits only cause = record { within = fits.0; spelled = fits.1 }
judged_evaluation view k p text (Err e) fits only cause = judged_file view k (SpellsEvaluation p) (λ t. HasCause (codes "HEVA") p.id (evaluation p.n p.slots) t) text (Err e) tt (λ y h. only y h.within h.spelled) cause

pub judged_secret : {X : Type 0} (view : X → List ℤ) (k : ℕ) (p : Preset) (text : List ℕ) (result : Result X FileErr) → IfOk result (λ x. IsSparse p.n p.h (view x) × (text ≡ secret_text p.id (view x)))
    → ((s : List ℤ) → IsSparse p.n p.h s → text ≡ secret_text p.id s → Answers view result (Ok s)) → IfErr result (HasCause (codes "HSEC") p.id (sparse p.n p.h) text)
    → Judges (SpellsSecret p) (IsSecretRefusal k p) text (seen view (file_answered k result))
judged_secret view k p text (Ok x) fits only cause = record { within = fits.0; spelled = fits.1 }
judged_secret view k p text (Err e) fits only cause = judged_file view k (SpellsSecret p) (λ t. HasCause (codes "HSEC") p.id (sparse p.n p.h) t) text (Err e) tt (λ y h. only y h.within h.spelled) cause

-- ---- the first bytes

pub file_refused : (k : ℕ) (Cause Other : FileErr → Type 0) → ((e : FileErr) → Cause e → Other e) → (r : Refusal) → IsFileRefusal k Cause r → IsFileRefusal k Other r
file_refused k Cause Other more (Malformed which at) h = (h.0, more (file.Malformed at) h.1)
file_refused k Cause Other more (WrongPreset which kept found) h = (h.0, more (file.WrongPreset kept found) h.1)
file_refused k Cause Other more (Count which want found) h = (h.0, more (file.Count want found) h.1)
file_refused k Cause Other more r h = absurd h

pub evaluation_first : (k : ℕ) (p : Preset) (text bytes : List ℕ) (result : Result EvalLists Outcome) → take (longest_evaluation p.n p.slots + 1) text ≡ bytes
    → Judges (SpellsEvaluation p) (IsEvaluationRefusal k p) bytes result → Judges (SpellsEvaluation p) (IsEvaluationRefusal k p) text result
evaluation_first k p text bytes result cut j =
    let h = facts p in
    let half = h.slots_half in
    let n_pos = h.n_pos in
    let small = h.n_small in
    let pos : 0 < p.slots = omega arith in
    let most = longest_evaluation p.n p.slots in
    judged_first (SpellsEvaluation p) (IsEvaluationRefusal k p) (most + 1) text bytes result cut
    (λ t e s. let le : length (eval_text p.id e) ≤ most = evaluation_short p.n p.slots p.id e pos (omega arith) s.within in omega (arith, ap length s.spelled, le))
    (file_refused k _ _ (λ e cause. cause_whole (codes "HEVA") p.id (evaluation p.n p.slots) most (most + 1) Any text bytes e refl (omega arith) (evaluation_spans p.n p.slots pos) (omega arith) cut cause))
    j

pub secret_first : (k : ℕ) (p : Preset) (text bytes : List ℕ) (result : Result (List ℤ) Outcome) → take (secret_length p.n + 1) text ≡ bytes
    → Judges (SpellsSecret p) (IsSecretRefusal k p) bytes result → Judges (SpellsSecret p) (IsSecretRefusal k p) text result
secret_first k p text bytes result cut j =
    let most = secret_length p.n in
    judged_first (SpellsSecret p) (IsSecretRefusal k p) (most + 1) text bytes result cut
    (λ t s h. let le : length (secret_text p.id s) ≤ most = secret_short p.n p.h p.id s h.within in omega (arith, ap length h.spelled, le))
    (file_refused k _ _ (λ e cause. cause_whole (codes "HSEC") p.id (sparse p.n p.h) most (most + 1) Any text bytes e refl (omega arith) (secret_spans p.n p.h) (omega arith) cut cause))
    j
