-- How the files of both keys are judged: by a preset alone, so that a key need not come from a chain of our own.
use Rattle.std.specs.Prelude.{◌≡◌, ℕ, List, codes, ℤ}
use Rattle.heco_key_files.specs.Judging.{HasCause}
use Rattle.heco_key_files.specs.KeyFiles.{EvalLists, AreEvalLists, evaluation, eval_text, secret_text}
use Rattle.heco_lists.specs.declared.error.FileErr.{FileErr}
use Rattle.heco_lists.specs.declared.error.FileErr.TheVariants as file
use Rattle.heco_lists.specs.ListFormat.{sparse}
use Rattle.heco_nums.specs.declared.preset.Preset.{Preset}
use Rattle.heco_nums.specs.MaterialBounds.{IsSparse}
use Rattle.heco_jobs.specs.declared.outcome.Outcome.{Outcome}
use Rattle.heco_jobs.specs.declared.outcome.Outcome.TheVariants.{Refused, Memory}
use Rattle.heco_jobs.specs.declared.outcome.Refusal.{Refusal}
use Rattle.heco_jobs.specs.declared.outcome.Refusal.TheVariants.{Malformed, WrongPreset, Count}

-- why a file of keys or of ciphertexts in this word is refused
abbrev pub IsFileRefusal : ℕ → (FileErr → Type 0) → Refusal → Type 0
IsFileRefusal k Cause (Malformed which at) = (which ≡ k) × Cause (file.Malformed at)
IsFileRefusal k Cause (WrongPreset which kept found) = (which ≡ k) × Cause (file.WrongPreset kept found)
IsFileRefusal k Cause (Count which want found) = (which ≡ k) × Cause (file.Count want found)
IsFileRefusal k Cause refusal = ⊥

-- what an error of such a file is answered with
abbrev pub file_answer : ℕ → FileErr → Outcome
file_answer k (file.Malformed at) = Refused (Malformed k at)
file_answer k (file.WrongPreset kept found) = Refused (WrongPreset k kept found)
file_answer k (file.Count want found) = Refused (Count k want found)
file_answer k file.Memory = Memory

-- ---- the evaluation key, by itself: it may have more or fewer keys than a circuit needs

pub record SpellsEvaluation (p : Preset) (text : List ℕ) (e : EvalLists) : Type 0 where
  pub within : AreEvalLists p.n p.slots e
  pub spelled : text ≡ eval_text p.id e

abbrev pub IsEvaluationRefusal : ℕ → Preset → List ℕ → Refusal → Type 0
IsEvaluationRefusal k p text refusal = IsFileRefusal k (HasCause (codes "HEVA") p.id (evaluation p.n p.slots) text) refusal

-- ---- the secret key

pub record SpellsSecret (p : Preset) (text : List ℕ) (s : List ℤ) : Type 0 where
  pub within : IsSparse p.n p.h s
  pub spelled : text ≡ secret_text p.id s

abbrev pub IsSecretRefusal : ℕ → Preset → List ℕ → Refusal → Type 0
IsSecretRefusal k p text refusal = IsFileRefusal k (HasCause (codes "HSEC") p.id (sparse p.n p.h) text) refusal
