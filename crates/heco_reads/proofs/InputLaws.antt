-- A text that was read up to one byte more than it may have.
use Rattle.std.proofs.Common.{◌≡◌, ◌∙◌, ◌<◌, ◌+◌, ◌⊎◌, sym, ap, subst, ℕ, List, length, take, Result, Ok, Err, inl, inr, arith}
use Rattle.std.proofs.lemmas.Bool.{cases_lt}
use Rattle.std.proofs.lemmas.List.{length-take, take_all}
use Rattle.heco_nums.specs.declared.shape.Values.{Values}
use Rattle.heco_nums.specs.declared.shape.Shape.{Shape}
use Rattle.heco_texts.specs.Answers.{Gives, IsRead, IsRefused}
use Rattle.heco_texts.specs.declared.error.InputErr.{InputErr}
use Rattle.heco_texts.specs.declared.error.InputErr.TheVariants as input
use Rattle.heco_jobs.specs.declared.outcome.Outcome.{Outcome}
use Rattle.heco_jobs.specs.declared.outcome.Outcome.TheVariants.{Ok as Fine, Refused, ReadFault, WriteFault, Memory}
use Rattle.heco_jobs.specs.declared.outcome.Refusal.TheVariants.{InputLong, InputAt, InputMissing}
use Rattle.heco_jobs.specs.Stages.{Judges}
use Rattle.heco_reads.specs.SourceFiles.{IsTextRefusal, text_answer}

-- the first bytes, fewer than were asked for, are the text itself
pub cut_first : (text bytes : List ℕ) (limit : ℕ) → take limit text ≡ bytes → length bytes < limit → bytes ≡ text
cut_first text bytes limit cut short = sym cut ∙ take_all limit text (omega (arith, length-take limit text, ap length cut))

pub cut_whole : (text bytes : List ℕ) (limit : ℕ) → take limit text ≡ bytes → length text < limit → bytes ≡ text
cut_whole text bytes limit cut short = sym cut ∙ take_all limit text (omega arith)

-- a text has no more bytes than the limit, and what was read is the whole; or both have more
pub whole_or_long : (text bytes : List ℕ) (limit : ℕ) → take (limit + 1) text ≡ bytes → (bytes ≡ text) ⊎ ((limit < length text) × (limit < length bytes))
whole_or_long text bytes limit cut = elim (cases_lt limit (length text)) [
  | inl long ↦ inr (long, omega (arith, length-take (limit + 1) text, ap length cut))
  | inr fits ↦ inl (cut_whole text bytes (limit + 1) cut (omega arith))
]

-- ---- a text of inputs

none : (error : InputErr) (v : Values) → Gives (Err error) (Ok v) → (error ≡ input.Memory → ⊥) → ⊥
none error v (inl e) other = let no : ⊥ = cc in no
none error v (inr e) other = other (let same : error ≡ input.Memory = cc in same)

module _ (t : ℕ) (shapes : List Shape) where
  pub refused_values : (text : List ℕ) (error : InputErr) → IsRefused t shapes text error → ((v : Values) → IsRead t shapes text v → Gives (Err error) (Ok v)) → Judges (IsRead t shapes) (IsTextRefusal t shapes) text (Err (text_answer error))
  refused_values text input.InputLong h only = ((λ v is. none input.InputLong v (only v is) (λ e. let no : ⊥ = cc in no)), h)
  refused_values text (input.At rule line) h only = ((λ v is. none (input.At rule line) v (only v is) (λ e. let no : ⊥ = cc in no)), h)
  refused_values text (input.InputMissing which) h only = ((λ v is. none (input.InputMissing which) v (only v is) (λ e. let no : ⊥ = cc in no)), h)
  refused_values text input.Memory h only = tt

  long_values : (text bytes : List ℕ) (result : Result Values Outcome) → 4194304 < length text → 4194304 < length bytes → Judges (IsRead t shapes) (IsTextRefusal t shapes) bytes result → Judges (IsRead t shapes) (IsTextRefusal t shapes) text result
  long_values text bytes (Ok v) long more j = absurd (let short = j.short in omega arith)
  long_values text bytes (Err (Refused InputLong)) long more j = ((λ v is. let short = is.short in omega arith), long)
  long_values text bytes (Err (Refused (InputAt rule line))) long more j = absurd (let short = j.1.0 in omega arith)
  long_values text bytes (Err (Refused (InputMissing which))) long more j = absurd (let short = j.1.0 in omega arith)
  long_values text bytes (Err (Refused r)) long more j = absurd j.1
  long_values text bytes (Err Memory) long more j = tt
  long_values text bytes (Err Fine) long more j = absurd j
  long_values text bytes (Err (ReadFault k)) long more j = absurd j
  long_values text bytes (Err (WriteFault k)) long more j = absurd j

  pub judged_values : (text bytes : List ℕ) (result : Result Values Outcome) → take 4194305 text ≡ bytes → Judges (IsRead t shapes) (IsTextRefusal t shapes) bytes result → Judges (IsRead t shapes) (IsTextRefusal t shapes) text result
  judged_values text bytes result cut j = elim (whole_or_long text bytes 4194304 cut) [
    | inl same ↦ subst (λ x. Judges (IsRead t shapes) (IsTextRefusal t shapes) x result) same j
    | inr long ↦ long_values text bytes result long.0 long.1 j
  ]
