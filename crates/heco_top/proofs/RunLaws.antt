-- What follows of a whole command from its two halves: what was gathered, and what was done with it.
use Rattle.std.proofs.Common.{◌≡◌, ◌≤◌, ◌∙◌, ℕ, sym, subst, inl, inr, arith, false}
use Rattle.std.specs.Prelude.{is_some}
use Rattle.heco_jobs.specs.Laws.{IsLeft, IsUntouched}
use Rattle.heco_jobs.specs.Plans.{Plan, IsOne, IsCause, IsGatherCause, IsFinishCause, FitsPlan}
use Rattle.heco_jobs.specs.declared.outcome.Outcome.{Outcome}
use Rattle.heco_jobs.specs.declared.outcome.Outcome.TheVariants.{Ok as Fine, Refused, ReadFault, WriteFault, Memory}
use Rattle.heco_jobs.specs.declared.outcome.Refusal.TheVariants.{Usage}
use Rattle.heco_jobs.specs.declared.product.Product.{Product}

pub gathered_cause : (plan : Plan) (faults faults' failures : ℕ) (o : Outcome) → IsGatherCause plan faults faults' o → IsCause plan faults faults' failures failures o
gathered_cause plan faults faults' failures (ReadFault k) h = h
gathered_cause plan faults faults' failures (WriteFault k) h = absurd h
gathered_cause plan faults faults' failures (Refused Usage) h = absurd h
gathered_cause plan faults faults' failures (Refused r) h = tt
gathered_cause plan faults faults' failures Fine h = absurd h
gathered_cause plan faults faults' failures Memory h = tt

module _ (plan : Plan) (p : Product) (mid faults' failures failures' : ℕ) where
  pub finished_cause : (faults : ℕ) (o : Outcome) → faults ≤ mid → FitsPlan plan p → IsFinishCause p.writes p.text mid faults' failures failures' o → IsCause plan faults faults' failures failures' o
  finished_cause faults (WriteFault k) le fits (inl h) = inl (subst (IsOne k) fits.writes h.0, (let rose = h.1 in omega arith))
  finished_cause faults (WriteFault k) le fits (inr h) = inr (h.0, (sym fits.text ∙ h.1.0, h.1.1))
  finished_cause faults (ReadFault k) le fits h = absurd h
  finished_cause faults (Refused r) le fits h = absurd h
  finished_cause faults Fine le fits h = tt
  finished_cause faults Memory le fits h = tt

  finished_left : {O : Type 0} (o : Outcome) (old new : O) → IsFinishCause p.writes p.text mid faults' failures failures' o → IsLeft o old new
  finished_left Fine old new h = tt
  finished_left Memory old new h = tt
  finished_left (WriteFault k) old new h = tt
  finished_left (ReadFault k) old new h = absurd h
  finished_left (Refused r) old new h = absurd h

  pub finished_untouched : {O : Type 0} (o : Outcome) (old new : O) → FitsPlan plan p → IsFinishCause p.writes p.text mid faults' failures failures' o → (is_some p.text ≡ false → new ≡ old)
      → IsUntouched plan.prints o old new
  finished_untouched o old new fits h silent = (finished_left o old new h, λ none. silent (fits.text ∙ none))
