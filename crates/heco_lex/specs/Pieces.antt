-- What the code finds at the front of a text.
use Rattle.std.specs.Prelude.{◌≡◌, ℕ, ◌<◌, ◌≤◌, Bool, true, false, List, [], ◌∷◌, Some, None, length, get_or}
use Rattle.std.specs.declared.option.Option.{Option}
use Rattle.heco_lex.specs.Kinds.{is_blank, sign_of_one, sign_of_two}
use Rattle.heco_lex.specs.Splits.{IsLongest, IsBad, begins_comment, line_rest}
use Rattle.heco_lex.specs.declared.token.TokenKind.{TokenKind}
use Rattle.heco_lex.specs.declared.piece.Piece.{Piece}
use Rattle.heco_lex.specs.declared.piece.Piece.TheVariants as p

-- the first n pass the test, and the next, if there is one, does not
pub record IsRun (test : ℕ → Bool) (text : List ℕ) (n : ℕ) : Type 0 where
  pub within : n ≤ length text
  pub all : (i : ℕ) → i < n → test (get_or text i 0) ≡ true
  pub ends : n < length text → test (get_or text n 0) ≡ false

-- a sign at the front, and its length
abbrev pub sign_or : Option TokenKind → ℕ → Option (TokenKind × ℕ) → Option (TokenKind × ℕ)
sign_or (Some kind) n other = Some (kind, n)
sign_or None n other = other

abbrev pub sign_front : List ℕ → Option (TokenKind × ℕ)
sign_front [] = None
sign_front (c ∷ []) = sign_or (sign_of_one c) 1 None
sign_front (c ∷ d ∷ cs) = sign_or (sign_of_two c d) 2 (sign_or (sign_of_one c) 1 None)

abbrev pub BlankFirst : List ℕ → Type 0
BlankFirst [] = ⊥
BlankFirst (c ∷ cs) = is_blank c ≡ true

abbrev pub IsPiece : List ℕ → Piece → Type 0
IsPiece text p.Blank = BlankFirst text
IsPiece text (p.Comment len) = (begins_comment text ≡ true) × (len ≡ line_rest text) × (0 < len) × (len ≤ length text)
IsPiece text (p.Token kind len) = IsLongest text len kind × (0 < len)
IsPiece text p.Bad = IsBad text
