use Rattle.std.proofs.Common.{◌≡◌, ℕ, suc, ◌+◌, ◌-◌, ◌<◌, List, [], ◌∷◌, ◌++◌, arith, ap, ◌∙◌, sym}
use Rattle.std.specs.Prelude.{Some, Option}
use Rattle.heco_syntax.specs.declared.lexeme.Lexeme.{Lexeme}
use Rattle.heco_expressions.specs.Reading.{Parser, Outcome, parts_from, parts_by, and_then, signed, found}

-- one turn of the loop is one step of the recursion
pub turn : {S P A : Type 0} (sign : Lexeme → Option S) (make : S → A → P) (item : Parser A) (n k : ℕ) {whole : Outcome (List P)} (before : List P) {after : List P} (ts : List Lexeme) {mid rest : List Lexeme} {s : S} {x : A}
    → k < n → whole ≡ parts_from sign make item (n - k) before ts → signed sign ts ≡ Some (s, mid) → item mid ≡ found x rest
    → after ≡ before ++ make s x ∷ [] → whole ≡ parts_from sign make item (n - (k + 1)) after rest
unfolding parts_from
turn sign make item n k {whole} before {after} ts {mid} {rest} {s} {x} lt h es ef en =
    let one : n - k ≡ suc (n - (k + 1)) = omega arith in
    h ∙ ap (λ m. parts_from sign make item m before ts) one
    ∙ ap (parts_by sign make item (parts_from sign make item (n - (k + 1))) before ts) es
    ∙ ap (λ o. and_then o (λ y. parts_from sign make item (n - (k + 1)) (before ++ make s y ∷ []))) ef
    ∙ ap (λ l. parts_from sign make item (n - (k + 1)) l rest) (sym en)
