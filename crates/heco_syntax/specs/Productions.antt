-- The words of the productions: relations between a list of tokens, all of it, and what it spells.
use Rattle.std.specs.Prelude.{◌≡◌, ◌⊎◌, List, [], ◌∷◌, ◌++◌, Option, Some}
use Rattle.heco_lex.specs.declared.token.TokenKind.{TokenKind}
use Rattle.heco_syntax.specs.declared.lexeme.Lexeme.{Lexeme}

abbrev pub Spells : Type 0 → Type 1
Spells A = List Lexeme → A → Type 0

-- one token of the kind, and what is kept of it
pub record IsOne {A : Type 0} (kept : Lexeme → A) (kind : TokenKind) (ts : List Lexeme) (x : A) : Type 0 where
  pub t : Lexeme
  pub all : ts ≡ t ∷ []
  pub is : t.kind ≡ kind
  pub keeps : x ≡ kept t

-- one token that the function knows
pub record IsKnown {A : Type 0} (known : Lexeme → Option A) (ts : List Lexeme) (x : A) : Type 0 where
  pub t : Lexeme
  pub all : ts ≡ t ∷ []
  pub is : known t ≡ Some x

-- no token, and this value
pub record IsNothing {A : Type 0} (x : A) (ts : List Lexeme) (y : A) : Type 0 where
  pub all : ts ≡ []
  pub is : y ≡ x

-- tokens of the one, and behind them tokens of the other
pub record Then {A B : Type 0} (One : List Lexeme → A → Type 0) (Other : A → List Lexeme → B → Type 0) (ts : List Lexeme) (y : B) : Type 0 where
  pub front : List Lexeme
  pub x : A
  pub back : List Lexeme
  pub all : ts ≡ front ++ back
  pub first : One front x
  pub second : Other x back y

infixl 10 ◌>>=◌
abbrev pub ◌>>=◌ : {A B : Type 0} → Spells A → (A → Spells B) → Spells B
One >>= Other = Then One Other

infixl 9 ◌or◌
abbrev pub ◌or◌ : {A : Type 0} → Spells A → Spells A → Spells A
(One or Other) ts x = One ts x ⊎ Other ts x

-- any number of them, one behind another
pub data Many {A : Type 0} (Each : List Lexeme → A → Type 0) : List Lexeme → List A → Type 0 where
  none : Many Each [] []
  more : {ts us : List Lexeme} {x : A} {xs : List A} → Each ts x → Many Each us xs → Many Each (ts ++ us) (x ∷ xs)
