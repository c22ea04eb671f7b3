-- Where a text has a byte that begins no token, this is answered.
use Rattle.std.proofs.Common.{◌≡◌, ◌≢◌, ◌∙◌, ◌⊎◌, inl, inr, refl, sym, ap, ℕ, List, Result, Ok, Err}
use Rattle.std.specs.Prelude.{IfOk, IfErr}
use Rattle.heco_lex.specs.Places.{place_in}
use Rattle.heco_lex.specs.Splits.{Splits}
use Rattle.heco_lex.specs.Steps.{IsBadPlace, IsRefusal}
use Rattle.heco_lex.specs.declared.place.Place.{Place}
use Rattle.heco_lex.specs.declared.split.LexErr.{LexErr}
use Rattle.heco_lex.specs.declared.split.LexErr.TheVariants as e
use Rattle.heco_lex.specs.declared.token.Token.{Token}
use Rattle.heco_lex.proofs.Unique.{one_bad}

-- the first such byte has one place
pub one_bad_place : (text : List ℕ) (p q : Place) → IsBadPlace text p → IsBadPlace text q → p ≡ q
one_bad_place text p q a b = a.is ∙ ap (place_in text) (one_bad a.bad b.bad) ∙ sym b.is

pub refuses : (text : List ℕ) (r : Result (List Token) LexErr) → IfOk r (λ ts. Splits 0 text ts) → IfErr r (IsRefusal text) → (err : LexErr) → err ≢ e.Memory → IsRefusal text err
    → (r ≡ Err err) ⊎ (r ≡ Err e.Memory)
refuses text r found refused e.Memory real is = absurd (real refl)
refuses text (Ok ts) found refused (e.BadByte at) real is = absurd (is.no_split ts found)
refuses text (Err (e.BadByte at)) found refused (e.BadByte other) real is = inl (ap (λ p. Err (e.BadByte p)) (one_bad_place text at other refused is))
refuses text (Err e.Memory) found refused (e.BadByte at) real is = inr refl
