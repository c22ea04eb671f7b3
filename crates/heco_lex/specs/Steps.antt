-- One step of the split, from an offset to a later one.
use Rattle.std.specs.Prelude.{◌≡◌, ℕ, ◌<◌, ◌≤◌, List, ◌++◌, drop, length}
use Rattle.heco_lex.specs.Splits.{Splits, BadAt}
use Rattle.heco_lex.specs.Places.{place_in}
use Rattle.heco_lex.specs.declared.place.Place.{Place}
use Rattle.heco_lex.specs.declared.split.LexErr.{LexErr}
use Rattle.heco_lex.specs.declared.split.LexErr.TheVariants as e
use Rattle.heco_lex.specs.declared.token.Token.{Token}

-- the tokens found between the offsets go behind the old ones, and the rest of the text decides the rest
pub record IsStep (text : List ℕ) (at next : ℕ) (old new : List Token) : Type 0 where
  pub rises : at < next
  pub within : next ≤ length text
  pub splits : (ts us : List Token) → Splits next (drop next text) us → ts ≡ new ++ us → (vs : List Token) × (ts ≡ old ++ vs) × Splits at (drop at text) vs
  pub bad : (o : ℕ) → BadAt next (drop next text) o → BadAt at (drop at text) o

abbrev pub StepRefused : List ℕ → ℕ → LexErr → Type 0
StepRefused text at (e.BadByte place) = BadAt at (drop at text) at × (place ≡ place_in text at)
StepRefused text at e.Memory = Unit {0}

-- the place is that of the first byte that begins no token, and then there is no split
pub record IsBadPlace (text : List ℕ) (place : Place) : Type 0 where
  pub offset : ℕ
  pub bad : BadAt 0 text offset
  pub is : place ≡ place_in text offset
  pub no_split : (ts : List Token) → Splits 0 text ts → ⊥

abbrev pub IsRefusal : List ℕ → LexErr → Type 0
IsRefusal text (e.BadByte place) = IsBadPlace text place
IsRefusal text e.Memory = Unit {0}
