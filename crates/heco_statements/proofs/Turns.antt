-- One turn of a loop over items is one step of the recursion.
use Rattle.std.proofs.Common.{◌≡◌, ℕ, zero, suc, ◌+◌, ◌-◌, ◌<◌, List, [], ◌∷◌, ◌++◌, arith, ap, ◌∙◌, sym}
use Rattle.std.specs.Prelude.{Some, None, Option, Err}
use Rattle.heco_syntax.specs.declared.lexeme.Lexeme.{Lexeme}
use Rattle.heco_expressions.specs.Reading.{Parser, Outcome, and_then, signed, found, Reads}
use Rattle.heco_expressions.specs.declared.stop.Stop.{Stop}
use Rattle.heco_expressions.specs.declared.stop.Stop.TheVariants as stop
use Rattle.heco_statements.specs.Reading.{series, series_by}

module _ {S A : Type 0} (sign : Lexeme → Option S) (item : S → Parser A) (n i : ℕ) {whole : Outcome (List A)} (before : List A) (ts : List Lexeme) {mid : List Lexeme} {s : S} where
  next : i < n → whole ≡ series sign item (n - i) before ts → signed sign ts ≡ Some (s, mid) → whole ≡ and_then (item s mid) (λ y. series sign item (n - (i + 1)) (before ++ y ∷ []))
  unfolding series
  next lt h e =
      let one : n - i ≡ suc (n - (i + 1)) = omega arith in
      h ∙ ap (λ m. series sign item m before ts) one ∙ ap (series_by sign item (series sign item (n - (i + 1))) before ts) e

  pub turn : {after : List A} {rest : List Lexeme} {x : A} → i < n → whole ≡ series sign item (n - i) before ts → signed sign ts ≡ Some (s, mid) → item s mid ≡ found x rest → after ≡ before ++ x ∷ []
      → whole ≡ series sign item (n - (i + 1)) after rest
  turn {rest = rest} lt h e f g = next lt h e ∙ ap (λ o. and_then o (λ y. series sign item (n - (i + 1)) (before ++ y ∷ []))) f ∙ ap (λ l. series sign item (n - (i + 1)) l rest) (sym g)

  -- an item that stops the loop stops it so
  pub turn_stops : (new : List Lexeme) (x : Stop) → i < n → whole ≡ series sign item (n - i) before ts → signed sign ts ≡ Some (s, mid) → Reads (item s mid) (Err x) new → Reads whole (Err x) new
  turn_stops new stop.Syntax lt h e r = next lt h e ∙ ap (λ o. and_then o (λ y. series sign item (n - (i + 1)) (before ++ y ∷ []))) r
  turn_stops new stop.TooNested lt h e r = next lt h e ∙ ap (λ o. and_then o (λ y. series sign item (n - (i + 1)) (before ++ y ∷ []))) r
  turn_stops new stop.Memory lt h e r = tt

-- without a sign the loop ends
pub turn_ends : {S A : Type 0} (sign : Lexeme → Option S) (item : S → Parser A) (m : ℕ) {whole : Outcome (List A)} (before : List A) (ts : List Lexeme) {new : List Lexeme} → whole ≡ series sign item m before ts → signed sign ts ≡ None → new ≡ ts → whole ≡ found before new
unfolding series
turn_ends sign item zero before ts h e same = h ∙ ap (λ v. found before v) (sym same)
turn_ends sign item (suc m) before ts h e same = h ∙ ap (series_by sign item (series sign item m) before ts) e ∙ ap (λ v. found before v) (sym same)
