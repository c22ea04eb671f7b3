-- What is refused.
use Rattle.std.proofs.Common.{refl}
use Rattle.heco_execution.specs.declared.error.EvalErr.{EvalErr}
use Rattle.heco_execution.specs.declared.error.EvalErr.TheVariants.{At, Memory}
use Rattle.heco_execution.specs.Outcomes.{Refuses, Outcome, after}

-- what is refused at first is refused
pub refuses_after : {A B : Type 0} (o : Outcome A) (next : A → Outcome B) (e : EvalErr) → Refuses e o → Refuses e (after o next)
refuses_after o next (At rule at) h = rw h refl
refuses_after o next Memory h = tt
