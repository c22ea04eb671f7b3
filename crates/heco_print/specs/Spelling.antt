-- The tokens of an expression, with parentheses only where the tree needs them.
use Rattle.std.specs.Prelude.{ℕ, List, [], ◌∷◌, ◌++◌, if◌then◌else◌, nat_lt}
use Rattle.std.specs.List.{flat_map}
use Rattle.heco_lex.specs.declared.place.Place.{Place}
use Rattle.heco_lex.specs.declared.token.TokenKind.{TokenKind}
use Rattle.heco_lex.specs.declared.token.TokenKind.TheVariants as k
use Rattle.heco_syntax.specs.declared.lexeme.Lexeme.{Lexeme}
use Rattle.heco_syntax.specs.declared.tree.Ident.{Ident}
use Rattle.heco_syntax.specs.declared.tree.Num.{Num}
use Rattle.heco_syntax.specs.declared.tree.Expr.{Expr, fold-Expr}
use Rattle.heco_syntax.specs.declared.tree.SumPart.{SumPart, fold-SumPart}
use Rattle.heco_syntax.specs.declared.tree.ProdPart.{ProdPart, fold-ProdPart}
use Rattle.heco_syntax.specs.declared.tree.Expr.TheOpen.{Expr-F, SumPart-F, ProdPart-F}

-- how loosely an expression binds: 0 a factor, 1 a product, 2 a sum; and its tokens
pub record Spelled : Type 0 where
  pub rank : ℕ
  pub tokens : List Lexeme

abbrev pub mark_at : TokenKind → Place → Lexeme
mark_at is place = record { kind = is; text = []; value = 0; at = place }

-- a token that the tree keeps no place of
abbrev pub mark : TokenKind → Lexeme
mark is = mark_at is (record { line = 1; col = 1 })

abbrev pub word_of : Ident → Lexeme
word_of id = record { kind = k.Word; text = id.text; value = 0; at = id.at }

abbrev pub digits_of : Num → Lexeme
digits_of n = record { kind = k.Number; text = []; value = n.value; at = n.at }

-- commas between
abbrev pub separated : {A : Type 0} → (A → List Lexeme) → List A → List Lexeme
separated f [] = []
separated f (x ∷ xs) = f x ++ flat_map (λ y. mark k.Comma ∷ f y) xs

abbrev pub parens : List Lexeme → List Lexeme
parens ts = mark k.Open ∷ (ts ++ mark k.Close ∷ [])

-- in parentheses where it binds more loosely than the rank
abbrev pub wrapped : ℕ → Spelled → List Lexeme
wrapped rank s = if nat_lt rank s.rank then parens s.tokens else s.tokens

abbrev pub spell_step : Expr-F Spelled (List Lexeme) (List Lexeme) → Spelled
spell_step (Expr-F.Lit n) = record { rank = 0; tokens = digits_of n ∷ [] }
spell_step (Expr-F.One id) = record { rank = 0; tokens = word_of id ∷ [] }
spell_step (Expr-F.Item id index) = record { rank = 0; tokens = word_of id ∷ mark k.OpenBracket ∷ (index.tokens ++ mark k.CloseBracket ∷ []) }
spell_step (Expr-F.Neg at of) = record { rank = 0; tokens = mark_at k.Minus at ∷ wrapped 0 of }
spell_step (Expr-F.Sum first rest) = record { rank = 2; tokens = wrapped 1 first ++ flat_map (λ ts. ts) rest }
spell_step (Expr-F.Prod first rest) = record { rank = 1; tokens = wrapped 0 first ++ flat_map (λ ts. ts) rest }
spell_step (Expr-F.Call id args) = record { rank = 0; tokens = word_of id ∷ parens (separated (λ a. a.tokens) args) }

abbrev pub sum_part_step : SumPart-F Spelled (List Lexeme) (List Lexeme) → List Lexeme
sum_part_step p = mark_at (if p.minus then k.Minus else k.Plus) p.at ∷ wrapped 1 p.of

abbrev pub product_part_step : ProdPart-F Spelled (List Lexeme) (List Lexeme) → List Lexeme
product_part_step p = mark_at k.Star p.at ∷ wrapped 0 p.of

abbrev pub spelled : Expr → Spelled
spelled x = fold-Expr Spelled (List Lexeme) (List Lexeme) spell_step product_part_step sum_part_step x

abbrev pub spelled_sum_part : SumPart → List Lexeme
spelled_sum_part p = fold-SumPart Spelled (List Lexeme) (List Lexeme) spell_step product_part_step sum_part_step p

abbrev pub spelled_product_part : ProdPart → List Lexeme
spelled_product_part p = fold-ProdPart Spelled (List Lexeme) (List Lexeme) spell_step product_part_step sum_part_step p

abbrev pub expression : Expr → List Lexeme
expression x = (spelled x).tokens
