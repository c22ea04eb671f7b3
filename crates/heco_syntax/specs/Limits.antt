-- Trees of the grammar, tokens that begin a source, and the first token that cannot stand where it stands.
use Rattle.std.specs.Prelude.{ℕ, List, [], ◌∷◌, ◌++◌}
use Rattle.heco_lex.specs.declared.token.TokenKind.TheVariants as k
use Rattle.heco_syntax.specs.Productions.{Spells, IsOne}
use Rattle.heco_syntax.specs.Sources.{IsSource, block_or, source_with}
use Rattle.heco_syntax.specs.declared.lexeme.Lexeme.{Lexeme}
use Rattle.heco_syntax.specs.declared.tree.Source.{Source}
use Rattle.heco_syntax.specs.declared.tree.Stmt.{Stmt}

-- how many expression levels and how many blocks may be open at once
abbrev pub levels : ℕ
levels = 64

abbrev pub depth : ℕ
depth = 8

-- the tokens begin what the relation knows
pub record Begins {A : Type 0} (Is : List Lexeme → A → Type 0) (ts : List Lexeme) : Type 0 where
  pub others : List Lexeme
  pub x : A
  pub is : Is (ts ++ others) x

-- a ";" in place of a block that would be one too many
abbrev pub cut : Spells (List Stmt)
cut = IsOne (λ t. []) k.Semi

abbrev pub IsCut : ℕ → ℕ → Spells Source
IsCut n d = source_with n (block_or n cut d)

-- the tokens open no level and no block too many: they begin a source within the limits, but for blocks that they have not yet opened
abbrev pub Shallow : List Lexeme → Type 0
Shallow ts = Begins (IsCut levels depth) ts

-- the tokens begin a source, however deep
pub record Viable (ts : List Lexeme) : Type 0 where
  pub n : ℕ
  pub d : ℕ
  pub begins : Begins (IsSource n d) ts

-- with the first token of the rest they begin no source; without a rest they are none
abbrev pub AreDead : List Lexeme → List Lexeme → Type 0
AreDead before [] = (n d : ℕ) (x : Source) → IsSource n d before x → ⊥
AreDead before (t ∷ rest) = Viable (before ++ t ∷ []) → ⊥

-- the tokens before begin a source and open nothing too deep, and with the next they begin none
pub record StopsAt (before rest : List Lexeme) : Type 0 where
  pub viable : Viable before
  pub shallow : Shallow before
  pub dead : AreDead before rest

-- the token opens a level or a block too many, the first that does
pub record DivesAt (before : List Lexeme) (t : Lexeme) : Type 0 where
  pub viable : Viable (before ++ t ∷ [])
  pub shallow : Shallow before
  pub deep : Shallow (before ++ t ∷ []) → ⊥
