-- A source that was judged by its first bytes, one more than a source may have.
use Rattle.std.proofs.Common.{◌≡◌, ◌<◌, subst, ℕ, List, take, length, ◌+◌, Result, Ok, Err, inl, inr, ◌⊎◌, arith}
use Rattle.heco_parse.specs.Trees.{source_limit}
use Rattle.heco_sources.specs.Sources.{IsSource, IsRefused}
use Rattle.heco_sources.specs.declared.source.SourceErr.{SourceErr}
use Rattle.heco_sources.specs.declared.source.SourceErr.TheVariants as source
use Rattle.heco_syntax.specs.declared.tree.Source.{Source}
use Rattle.heco_jobs.specs.declared.outcome.Outcome.{Outcome}
use Rattle.heco_jobs.specs.declared.outcome.Outcome.TheVariants.{Ok as Fine, Refused, ReadFault, WriteFault, Memory}
use Rattle.heco_jobs.specs.declared.outcome.Refusal.TheVariants.{SourceLong, At}
use Rattle.heco_jobs.specs.Stages.{Judges}
use Rattle.heco_reads.specs.SourceFiles.{IsSourceRefusal, source_answer}
use Rattle.heco_reads.proofs.InputLaws.{whole_or_long}

none : (error : SourceErr) (s : Source) (r : Result Source SourceErr) → r ≡ Err error → (r ≡ Ok s) ⊎ (r ≡ Err source.Memory) → (error ≡ source.Memory → ⊥) → ⊥
none error s r is (inl e) other = let no : ⊥ = cc in no
none error s r is (inr e) other = other (let same : error ≡ source.Memory = cc in same)

-- where this refusal was answered, and a source would have been
pub refused_source : (text : List ℕ) (error : SourceErr) (r : Result Source SourceErr) → r ≡ Err error → IsRefused text error → ((s : Source) → IsSource text s → (r ≡ Ok s) ⊎ (r ≡ Err source.Memory)) → Judges IsSource IsSourceRefusal text (Err (source_answer error))
refused_source text source.SourceLong r is h only = ((λ s fits. none source.SourceLong s r is (only s fits) (λ e. let no : ⊥ = cc in no)), h)
refused_source text (source.At rule at) r is h only = ((λ s fits. none (source.At rule at) s r is (only s fits) (λ e. let no : ⊥ = cc in no)), h)
refused_source text source.Memory r is h only = tt

long_source : (text bytes : List ℕ) (result : Result Source Outcome) → source_limit < length text → source_limit < length bytes → Judges IsSource IsSourceRefusal bytes result → Judges IsSource IsSourceRefusal text result
long_source text bytes (Ok s) long more j = absurd (let short = j.short in omega arith)
long_source text bytes (Err (Refused SourceLong)) long more j = ((λ s is. let short = is.short in omega arith), long)
long_source text bytes (Err (Refused (At rule at))) long more j = absurd (let short = j.1.0 in omega arith)
long_source text bytes (Err (Refused r)) long more j = absurd j.1
long_source text bytes (Err Memory) long more j = tt
long_source text bytes (Err Fine) long more j = absurd j
long_source text bytes (Err (ReadFault k)) long more j = absurd j
long_source text bytes (Err (WriteFault k)) long more j = absurd j

pub judged_source : (text bytes : List ℕ) (result : Result Source Outcome) → take (source_limit + 1) text ≡ bytes → Judges IsSource IsSourceRefusal bytes result → Judges IsSource IsSourceRefusal text result
judged_source text bytes result cut j = elim (whole_or_long text bytes source_limit cut) [
  | inl same ↦ subst (λ t. Judges IsSource IsSourceRefusal t result) same j
  | inr long ↦ long_source text bytes result long.0 long.1 j
]
