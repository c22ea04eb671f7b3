-- The execution of a source on numbers modulo t, and on scalar terms.
use Rattle.std.specs.Prelude.{ℕ, List, Ok}
use Rattle.heco_syntax.specs.declared.tree.Source.{Source}
use Rattle.heco_written.specs.ScalarTerm.{ScalarTerm}
use Rattle.heco_execution.specs.Outcomes.{Outcome, after}
use Rattle.heco_execution.specs.Secrets.{Secrets, numbers, terms, storeless}
use Rattle.heco_execution.specs.Whole.{execute}

-- over secrets that need no store, with no step counted yet
abbrev pub outputs_over : {V : Type 0} → Secrets V → Source → List (List V) → Outcome (List (List V))
outputs_over secrets source rows = after (execute (storeless {S = Unit {0}} secrets) source rows (record { steps = 0; store = tt })) (λ r. Ok r.0)

-- the lists of the outputs, from the lists of the inputs
abbrev pub plain_outputs : ℕ → Source → List (List ℕ) → Outcome (List (List ℕ))
plain_outputs t source rows = outputs_over (numbers t) source rows

-- the terms of the outputs' elements, from those of the inputs' elements
abbrev pub term_outputs : ℕ → Source → List (List ScalarTerm) → Outcome (List (List ScalarTerm))
term_outputs t source rows = outputs_over (terms t) source rows
