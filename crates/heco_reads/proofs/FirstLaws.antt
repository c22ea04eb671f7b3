-- What was judged of the first bytes of a file holds of the whole.
use Rattle.std.proofs.Common.{◌≡◌, ◌<◌, ℕ, List, length, take, Result, Ok, Err, sym, subst}
use Rattle.heco_jobs.specs.declared.outcome.Outcome.{Outcome}
use Rattle.heco_jobs.specs.declared.outcome.Outcome.TheVariants.{Ok as Fine, Refused, ReadFault, WriteFault, Memory}
use Rattle.heco_jobs.specs.declared.outcome.Refusal.{Refusal}
use Rattle.heco_jobs.specs.Stages.{Judges}
use Rattle.heco_reads.proofs.InputLaws.{cut_first, cut_whole}

-- where each reading and each refusal does
pub judged_first : {Thing : Type 0} (Fits : List ℕ → Thing → Type 0) (Refuses : List ℕ → Refusal → Type 0) (limit : ℕ) (text bytes : List ℕ) (result : Result Thing Outcome) → take limit text ≡ bytes → ((t : List ℕ) (x : Thing) → Fits t x → length t < limit)
    → ((r : Refusal) → Refuses bytes r → Refuses text r) → Judges Fits Refuses bytes result → Judges Fits Refuses text result
judged_first Fits Refuses limit text bytes (Ok x) cut short refused j = subst (λ t. Fits t x) (cut_first text bytes limit cut (short bytes x j)) j
judged_first Fits Refuses limit text bytes (Err (Refused r)) cut short refused j = ((λ x h. j.0 x (subst (λ t. Fits t x) (sym (cut_whole text bytes limit cut (short text x h))) h)), refused r j.1)
judged_first Fits Refuses limit text bytes (Err Memory) cut short refused j = tt
judged_first Fits Refuses limit text bytes (Err Fine) cut short refused j = absurd j
judged_first Fits Refuses limit text bytes (Err (ReadFault k)) cut short refused j = absurd j
judged_first Fits Refuses limit text bytes (Err (WriteFault k)) cut short refused j = absurd j
