-- Steps, which are counted and may put more into the store of the secrets: what they do one after another.
use Rattle.std.specs.Prelude.{ℕ, Ok}
use Rattle.heco_lex.specs.declared.place.Place.{Place}
use Rattle.heco_execution.specs.declared.progress.Progress.{Progress}
use Rattle.heco_execution.specs.Outcomes.{Outcome, after, counted}

-- from the steps counted so far and the store: a result with those then, or the broken rule
abbrev pub Step : Type 0 → Type 0 → Type 0
Step S A = Progress S → Outcome (A × Progress S)

-- a result at once
abbrev pub give : {S A : Type 0} → A → Step S A
give a p = Ok (a, p)

-- a step, and with its result the next
abbrev pub then : {S A B : Type 0} → Step S A → (A → Step S B) → Step S B
then step next p = after (step p) (λ r. next r.0 r.1)

-- a rule that is tested
abbrev pub test : {S A : Type 0} → Outcome A → Step S A
test outcome p = after outcome (λ a. Ok (a, p))

-- so many steps are counted, at a place
abbrev pub count : {S : Type 0} → ℕ → Place → Step S (Unit {0})
count more at p = after (counted more at p.steps) (λ n. Ok (tt, record { steps = n; store = p.store }))

-- something is made in the store
abbrev pub make : {S A : Type 0} → (S → A × S) → Step S A
make f p = Ok ((f p.store).0, record { steps = p.steps; store = (f p.store).1 })
