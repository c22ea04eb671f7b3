-- Key material and encryption material: each is read as one thing alone, judged as its reader says, and known by its first bytes, one more than it has.
use Rattle.std.proofs.Common.{◌≡◌, ◌≢◌, ◌+◌, ℕ, List, length, take, Result, Ok, Err, refl, sym, ap, subst, inl, inr, arith, ◌∙◌}
use Rattle.std.specs.Prelude.{IfOk, IfErr, min}
use Rattle.std.proofs.lemmas.Bool.{cases_lt}
use Rattle.std.proofs.lemmas.List.{length-take-le}
use Rattle.heco_fields.proofs.FileLaws.{text_judged}
use Rattle.heco_material.proofs.EncLaws.{encryptions_law, encryptions_long}
use Rattle.heco_material.proofs.KeyLaws.{keys_law, keys_long}
use Rattle.heco_material.specs.EncFormat.{encryptions, encryptions_text, encryptions_length}
use Rattle.heco_material.specs.KeyFormat.{keys, keys_text, keys_length}
use Rattle.heco_material.specs.KeyLists.{KeyLists, IsKeyMaterial, IsEncMaterial}
use Rattle.heco_material.specs.MaterialFile.{HasCause, Answers}
use Rattle.heco_material.specs.declared.error.MatErr.{MatErr}
use Rattle.heco_material.specs.declared.error.MatErr.TheVariants as material
use Rattle.heco_material.specs.declared.words.EncRow.{EncRow}
use Rattle.heco_nums.proofs.PresetFacts.{facts}
use Rattle.heco_nums.specs.declared.preset.Preset.{Preset}
use Rattle.heco_jobs.specs.declared.outcome.Outcome.{Outcome}
use Rattle.heco_jobs.specs.declared.outcome.Refusal.{Refusal}
use Rattle.heco_jobs.specs.declared.outcome.Refusal.TheVariants.{Length, Bounds}
use Rattle.heco_jobs.specs.Stages.{Judges, seen}
use Rattle.heco_reads.specs.MaterialFiles.{IsMaterialRefusal, SpellsKeys, IsKeysRefusal, SpellsEncryptions, IsEncryptionsRefusal, material_answer}
use Rattle.heco_reads.proofs.FirstLaws.{judged_first}
use Rattle.heco_reads.proofs.InputLaws.{cut_first, cut_whole}

-- ---- one thing alone

pub keys_alone : (p : Preset) (count : ℕ) (text : List ℕ) (k l : KeyLists) → SpellsKeys p count text k → SpellsKeys p count text l → k ≡ l
keys_alone p count text k l hk hl =
    let b_small = (facts p).b_small in
    let law = keys_law p.n p.h p.b count (omega arith) in
    let first = text_judged (keys p.n p.h p.b count) keys_text (IsKeyMaterial p.n p.h p.b count) law k hk.within in
    let second = text_judged (keys p.n p.h p.b count) keys_text (IsKeyMaterial p.n p.h p.b count) law l hl.within in
    let same : keys_text k ≡ keys_text l = sym hk.spelled ∙ hl.spelled in
    cc

pub encryptions_alone : (p : Preset) (count : ℕ) (text : List ℕ) (rows others : List EncRow) → SpellsEncryptions p count text rows → SpellsEncryptions p count text others → rows ≡ others
encryptions_alone p count text rows others hr ho =
    let b_small = (facts p).b_small in
    let law = encryptions_law p.n p.h p.b count (omega arith) in
    let first = text_judged (encryptions p.n p.h p.b count) encryptions_text (IsEncMaterial p.n p.h p.b count) law rows hr.within in
    let second = text_judged (encryptions p.n p.h p.b count) encryptions_text (IsEncMaterial p.n p.h p.b count) law others ho.within in
    let same : encryptions_text rows ≡ encryptions_text others = sym hr.spelled ∙ ho.spelled in
    cc

-- ---- as the reader says

abbrev pub material_answered : {X : Type 0} → ℕ → Result X MatErr → Result X Outcome
material_answered k (Ok x) = Ok x
material_answered k (Err e) = Err (material_answer k e)

judged_material : {X Y : Type 0} (view : X → Y) (k : ℕ) (Fits : List ℕ → Y → Type 0) (Cause : List ℕ → MatErr → Type 0) (text : List ℕ) (e : MatErr)
    → ((y : Y) → Fits text y → Answers view (Err e) (Ok y)) → Cause text e → Judges Fits (λ t. IsMaterialRefusal k (Cause t)) text (seen view (material_answered {X = X} k (Err e)))
judged_material view k Fits Cause text (material.Length at) only cause = ((λ y h. let x = only y h in cc), (refl, cause))
judged_material view k Fits Cause text (material.Bounds at) only cause = ((λ y h. let x = only y h in cc), (refl, cause))
judged_material view k Fits Cause text material.Memory only cause = tt

pub judged_keys : {X : Type 0} (view : X → KeyLists) (k : ℕ) (p : Preset) (count : ℕ) (text : List ℕ) (result : Result X MatErr)
    → IfOk result (λ x. IsKeyMaterial p.n p.h p.b count (view x) × (text ≡ keys_text (view x)))
    → ((l : KeyLists) → IsKeyMaterial p.n p.h p.b count l → text ≡ keys_text l → Answers view result (Ok l))
    → IfErr result (HasCause (keys p.n p.h p.b count) (keys_length p.n count) text)
    → Judges (SpellsKeys p count) (IsKeysRefusal k p count) text (seen view (material_answered k result))
judged_keys view k p count text (Ok x) spelled only cause = record { within = spelled.0; spelled = spelled.1 }
judged_keys view k p count text (Err e) spelled only cause =
    judged_material view k (SpellsKeys p count) (λ t. HasCause (keys p.n p.h p.b count) (keys_length p.n count) t) text e (λ l h. only l h.within h.spelled) cause

pub judged_encryptions : {X : Type 0} (view : X → List EncRow) (k : ℕ) (p : Preset) (count : ℕ) (text : List ℕ) (result : Result X MatErr)
    → IfOk result (λ x. IsEncMaterial p.n p.h p.b count (view x) × (text ≡ encryptions_text (view x)))
    → ((rows : List EncRow) → IsEncMaterial p.n p.h p.b count rows → text ≡ encryptions_text rows → Answers view result (Ok rows))
    → IfErr result (HasCause (encryptions p.n p.h p.b count) (encryptions_length p.n count) text)
    → Judges (SpellsEncryptions p count) (IsEncryptionsRefusal k p count) text (seen view (material_answered k result))
judged_encryptions view k p count text (Ok x) spelled only cause = record { within = spelled.0; spelled = spelled.1 }
judged_encryptions view k p count text (Err e) spelled only cause =
    judged_material view k (SpellsEncryptions p count) (λ t. HasCause (encryptions p.n p.h p.b count) (encryptions_length p.n count) t) text e (λ rows h. only rows h.within h.spelled) cause

-- ---- the first bytes

long_length : (stated : ℕ) (text bytes : List ℕ) (at : ℕ) → take (stated + 1) text ≡ bytes → (length bytes ≢ stated) × (at ≡ min (length bytes) stated) → (length text ≢ stated) × (at ≡ min (length text) stated)
long_length stated text bytes at cut h = elim (cases_lt (length text) (stated + 1)) [
  | inl short ↦ subst (λ t. (length t ≢ stated) × (at ≡ min (length t) stated)) (cut_whole text bytes (stated + 1) cut short) h
  | inr long ↦ (let l : length bytes ≡ stated + 1 = sym (ap length cut) ∙ length-take-le (stated + 1) text long in ((λ e. omega arith), omega (arith, h.1)))
]

keys_refused : (k : ℕ) (p : Preset) (count : ℕ) (text bytes : List ℕ) → take (keys_length p.n count + 1) text ≡ bytes → (r : Refusal) → IsKeysRefusal k p count bytes r → IsKeysRefusal k p count text r
keys_refused k p count text bytes cut (Length which at) h = (h.0, long_length (keys_length p.n count) text bytes at cut h.1)
keys_refused k p count text bytes cut (Bounds which at) h = subst (λ t. IsKeysRefusal k p count t (Bounds which at)) (cut_first text bytes (keys_length p.n count + 1) cut (omega (arith, h.1.0))) h
keys_refused k p count text bytes cut r h = absurd h

pub keys_first : (k : ℕ) (p : Preset) (count : ℕ) (text bytes : List ℕ) (result : Result KeyLists Outcome) → take (keys_length p.n count + 1) text ≡ bytes
    → Judges (SpellsKeys p count) (IsKeysRefusal k p count) bytes result → Judges (SpellsKeys p count) (IsKeysRefusal k p count) text result
keys_first k p count text bytes result cut j =
    judged_first (SpellsKeys p count) (IsKeysRefusal k p count) (keys_length p.n count + 1) text bytes result cut
    (λ t l h. omega (arith, ap length h.spelled, keys_long p.n p.h p.b count l h.within))
    (keys_refused k p count text bytes cut) j

encryptions_refused : (k : ℕ) (p : Preset) (count : ℕ) (text bytes : List ℕ) → take (encryptions_length p.n count + 1) text ≡ bytes → (r : Refusal) → IsEncryptionsRefusal k p count bytes r → IsEncryptionsRefusal k p count text r
encryptions_refused k p count text bytes cut (Length which at) h = (h.0, long_length (encryptions_length p.n count) text bytes at cut h.1)
encryptions_refused k p count text bytes cut (Bounds which at) h = subst (λ t. IsEncryptionsRefusal k p count t (Bounds which at)) (cut_first text bytes (encryptions_length p.n count + 1) cut (omega (arith, h.1.0))) h
encryptions_refused k p count text bytes cut r h = absurd h

pub encryptions_first : (k : ℕ) (p : Preset) (count : ℕ) (text bytes : List ℕ) (result : Result (List EncRow) Outcome) → take (encryptions_length p.n count + 1) text ≡ bytes
    → Judges (SpellsEncryptions p count) (IsEncryptionsRefusal k p count) bytes result → Judges (SpellsEncryptions p count) (IsEncryptionsRefusal k p count) text result
encryptions_first k p count text bytes result cut j =
    judged_first (SpellsEncryptions p count) (IsEncryptionsRefusal k p count) (encryptions_length p.n count + 1) text bytes result cut
    (λ t rows h. omega (arith, ap length h.spelled, encryptions_long p.n p.h p.b count rows h.within))
    (encryptions_refused k p count text bytes cut) j
