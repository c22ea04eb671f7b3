-- How key material and encryption material are judged: by a preset and a count alone.
use Rattle.std.specs.Prelude.{◌≡◌, ℕ, List}
use Rattle.heco_material.specs.EncFormat.{encryptions, encryptions_text, encryptions_length}
use Rattle.heco_material.specs.KeyFormat.{keys, keys_text, keys_length}
use Rattle.heco_material.specs.KeyLists.{KeyLists, IsKeyMaterial, IsEncMaterial}
use Rattle.heco_material.specs.MaterialFile.{HasCause}
use Rattle.heco_material.specs.declared.error.MatErr.{MatErr}
use Rattle.heco_material.specs.declared.error.MatErr.TheVariants as material
use Rattle.heco_material.specs.declared.words.EncRow.{EncRow}
use Rattle.heco_nums.specs.declared.preset.Preset.{Preset}
use Rattle.heco_jobs.specs.declared.outcome.Outcome.{Outcome}
use Rattle.heco_jobs.specs.declared.outcome.Outcome.TheVariants.{Refused, Memory}
use Rattle.heco_jobs.specs.declared.outcome.Refusal.{Refusal}
use Rattle.heco_jobs.specs.declared.outcome.Refusal.TheVariants.{Length, Bounds}

-- why material in this word is refused: it has another length, or the stated one and a word that is out of bounds, the first of which begins at this offset
abbrev pub IsMaterialRefusal : ℕ → (MatErr → Type 0) → Refusal → Type 0
IsMaterialRefusal k Cause (Length which at) = (which ≡ k) × Cause (material.Length at)
IsMaterialRefusal k Cause (Bounds which at) = (which ≡ k) × Cause (material.Bounds at)
IsMaterialRefusal k Cause refusal = ⊥

abbrev pub material_answer : ℕ → MatErr → Outcome
material_answer k (material.Length at) = Refused (Length k at)
material_answer k (material.Bounds at) = Refused (Bounds k at)
material_answer k material.Memory = Memory

-- ---- key material, for so many switch keys

pub record SpellsKeys (p : Preset) (count : ℕ) (text : List ℕ) (k : KeyLists) : Type 0 where
  pub within : IsKeyMaterial p.n p.h p.b count k
  pub spelled : text ≡ keys_text k

abbrev pub IsKeysRefusal : ℕ → Preset → ℕ → List ℕ → Refusal → Type 0
IsKeysRefusal k p count text refusal = IsMaterialRefusal k (HasCause (keys p.n p.h p.b count) (keys_length p.n count) text) refusal

-- ---- encryption material, for so many inputs

pub record SpellsEncryptions (p : Preset) (count : ℕ) (text : List ℕ) (rows : List EncRow) : Type 0 where
  pub within : IsEncMaterial p.n p.h p.b count rows
  pub spelled : text ≡ encryptions_text rows

abbrev pub IsEncryptionsRefusal : ℕ → Preset → ℕ → List ℕ → Refusal → Type 0
IsEncryptionsRefusal k p count text refusal = IsMaterialRefusal k (HasCause (encryptions p.n p.h p.b count) (encryptions_length p.n count) text) refusal
