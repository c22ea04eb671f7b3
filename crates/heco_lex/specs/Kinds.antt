-- The table of tokens: the kind of a token from its text.
use Rattle.std.specs.Prelude.{ℕ, Bool, List, [], ◌∷◌, Some, None, if◌then◌else◌, codes, ◌==◌, nat_le, nat_lt, ◌&&◌, ◌||◌, length}
use Rattle.std.specs.declared.option.Option.{Option}
use Rattle.std.specs.List.{list_all}
use Rattle.std.specs.Str.{bytes_eq}
use Rattle.heco_nums.specs.Words.{is_letter, is_word_byte}
use Rattle.heco_lex.specs.declared.token.TokenKind.{TokenKind}
use Rattle.heco_lex.specs.declared.token.TokenKind.TheVariants as k

abbrev pub is_blank : ℕ → Bool
is_blank c = c == 32 || c == 9 || c == 13 || c == 10

abbrev pub is_digit : ℕ → Bool
is_digit c = nat_le 48 c && nat_le c 57

abbrev pub word_kind : List ℕ → TokenKind
word_kind w = if bytes_eq w (codes "params") then k.Params else if bytes_eq w (codes "fn") then k.Fn
    else if bytes_eq w (codes "in") then k.In else if bytes_eq w (codes "out") then k.Out
    else if bytes_eq w (codes "int") then k.Int else if bytes_eq w (codes "secret") then k.Secret
    else if bytes_eq w (codes "for") then k.For else if bytes_eq w (codes "def") then k.Def
    else if bytes_eq w (codes "if") then k.If else if bytes_eq w (codes "else") then k.Else else k.Word

abbrev pub sign_of_one : ℕ → Option TokenKind
sign_of_one c = if c == 40 then Some k.Open else if c == 41 then Some k.Close else if c == 123 then Some k.OpenBrace
    else if c == 125 then Some k.CloseBrace else if c == 91 then Some k.OpenBracket else if c == 93 then Some k.CloseBracket
    else if c == 44 then Some k.Comma else if c == 59 then Some k.Semi else if c == 61 then Some k.Assign
    else if c == 43 then Some k.Plus else if c == 45 then Some k.Minus else if c == 42 then Some k.Star else None

abbrev pub sign_of_two : ℕ → ℕ → Option TokenKind
sign_of_two c d = if c == 46 && d == 46 then Some k.Range else if c == 43 && d == 61 then Some k.AddAssign
    else if c == 45 && d == 61 then Some k.SubAssign else if c == 42 && d == 61 then Some k.MulAssign else None

abbrev pub sign_kind : List ℕ → Option TokenKind
sign_kind [] = None
sign_kind (c ∷ []) = sign_of_one c
sign_kind (c ∷ d ∷ []) = sign_of_two c d
sign_kind (c ∷ d ∷ e ∷ w) = None

-- the kind of the token that has all of this text
abbrev pub kind_of : List ℕ → Option TokenKind
kind_of [] = None
kind_of (c ∷ w) = if is_letter c then (if list_all is_word_byte w then Some (word_kind (c ∷ w)) else None)
    else if is_digit c then (if list_all is_digit w && nat_lt (length w) 10 then Some k.Number else None)
    else sign_kind (c ∷ w)
