-- What comes of a part of an execution: a result, or the first broken rule with its place.
use Rattle.std.specs.Prelude.{◌≡◌, ℕ, ◌+◌, ◌^◌, nat_le, unsigned_abs, ℤ, Ok, Err, if◌then◌else◌}
use Rattle.std.specs.declared.result.Result.{Result}
use Rattle.heco_lex.specs.declared.place.Place.{Place}
use Rattle.heco_lex.specs.declared.rule.Rule.{Rule}
use Rattle.heco_lex.specs.declared.rule.Rule.TheVariants.{PublicRange, TooLarge}
use Rattle.heco_execution.specs.declared.error.EvalErr.{EvalErr}
use Rattle.heco_execution.specs.declared.error.EvalErr.TheVariants.{At, Memory}

-- a rule that is broken at a place
pub record Broken : Type 0 where
  pub rule : Rule
  pub at : Place

abbrev pub broken : Rule → Place → Broken
broken rule at = record { rule = rule; at = at }

abbrev pub Outcome : Type 0 → Type 0
Outcome A = Result A Broken

-- goes on with the result, unless a rule is broken already
abbrev pub after : {A B : Type 0} → Outcome A → (A → Outcome B) → Outcome B
after (Ok a) next = next a
after (Err e) next = Err e

-- the count of steps with so many more, which is at most 2^18
abbrev pub counted : ℕ → Place → ℕ → Outcome ℕ
counted more at steps = if nat_le (steps + more) (2 ^ 18) then Ok (steps + more) else Err (broken TooLarge at)

-- a public number, which is from -2^31 to 2^31
abbrev pub in_range : Place → ℤ → Outcome ℤ
in_range at z = if nat_le (unsigned_abs z) (2 ^ 31) then Ok z else Err (broken PublicRange at)

-- the refusal is the broken rule that comes out, unless it is want of memory
abbrev pub Refuses : {A : Type 0} → EvalErr → Outcome A → Type 0
Refuses (At rule at) outcome = outcome ≡ Err (broken rule at)
Refuses Memory outcome = Unit {0}
