-- The tokens of each form of an expression.
use Rattle.std.proofs.Common.{◌≡◌, ◌∙◌, sym, ap, refl, List, [], ◌∷◌, ◌++◌, Bool, map, append_assoc, arith}
use Rattle.std.proofs.lemmas.List.Folds.{flat_map-map}
use Rattle.std.specs.List.{flat_map}
use Rattle.std.specs.Prelude.{if◌then◌else◌, Result, Ok, Err, OnOk, max, ◌≤◌}
use denote.Param.Weighed.{most}
use Rattle.heco_lex.specs.declared.place.Place.{Place}
use Rattle.heco_lex.specs.declared.token.TokenKind.TheVariants as k
use Rattle.heco_syntax.specs.declared.lexeme.Lexeme.{Lexeme}
use Rattle.heco_syntax.specs.declared.tree.Ident.{Ident}
use Rattle.heco_syntax.specs.declared.tree.Num.{Num}
use Rattle.heco_syntax.specs.declared.tree.Expr.{Expr, size-Expr, fold-roll-Expr}
use Rattle.heco_syntax.specs.declared.tree.Expr.TheVariants as e
use Rattle.heco_syntax.specs.declared.tree.SumPart.{SumPart, fold-roll-SumPart}
use Rattle.heco_syntax.specs.declared.tree.ProdPart.{ProdPart, fold-roll-ProdPart}
use Rattle.heco_syntax.specs.declared.tree.Expr.TheOpen.{Expr-F}
use Rattle.heco_syntax.specs.Parts.{sum_part, product_part}
use Rattle.heco_print.specs.Spelling.{Spelled, spelled, expression, separated, parens, spelled_sum_part, spelled_product_part, wrapped, mark, mark_at, word_of, digits_of, spell_step, sum_part_step, product_part_step}

pub spelled_lit : (n : Num) → spelled (e.Lit n) ≡ record { rank = 0; tokens = digits_of n ∷ [] }
spelled_lit n = ap spelled (sym (e.rolls-Lit n)) ∙ fold-roll-Expr Spelled (List Lexeme) (List Lexeme) spell_step product_part_step sum_part_step (Expr-F.Lit n)

pub spelled_one : (id : Ident) → spelled (e.One id) ≡ record { rank = 0; tokens = word_of id ∷ [] }
spelled_one id = ap spelled (sym (e.rolls-One id)) ∙ fold-roll-Expr Spelled (List Lexeme) (List Lexeme) spell_step product_part_step sum_part_step (Expr-F.One id)

pub spelled_item : (id : Ident) (x : Expr) → spelled (e.Item id x) ≡ record { rank = 0; tokens = word_of id ∷ mark k.OpenBracket ∷ ((spelled x).tokens ++ mark k.CloseBracket ∷ []) }
spelled_item id x = ap spelled (sym (e.rolls-Item id x)) ∙ fold-roll-Expr Spelled (List Lexeme) (List Lexeme) spell_step product_part_step sum_part_step (Expr-F.Item id x)

separated-map : (xs : List Expr) → separated (λ (a : Spelled). a.tokens) (map spelled xs) ≡ separated expression xs
separated-map [] = refl
separated-map (x ∷ xs) = ap (λ v. expression x ++ v) (flat_map-map (λ (a : Spelled). mark k.Comma ∷ a.tokens) spelled xs)

pub spelled_call : (id : Ident) (args : List Expr) → spelled (e.Call id args) ≡ record { rank = 0; tokens = word_of id ∷ parens (separated expression args) }
spelled_call id args = ap spelled (sym (e.rolls-Call id args)) ∙ fold-roll-Expr Spelled (List Lexeme) (List Lexeme) spell_step product_part_step sum_part_step (Expr-F.Call id args)
    ∙ ap (λ (v : List Lexeme). record { rank = 0; tokens = word_of id ∷ parens v }) (separated-map args)

pub spelled_neg : (at : Place) (x : Expr) → spelled (e.Neg at x) ≡ record { rank = 0; tokens = mark_at k.Minus at ∷ wrapped 0 (spelled x) }
spelled_neg at x = ap spelled (sym (e.rolls-Neg at x)) ∙ fold-roll-Expr Spelled (List Lexeme) (List Lexeme) spell_step product_part_step sum_part_step (Expr-F.Neg at x)

pub spelled_sum : (first : Expr) (ps : List SumPart) → spelled (e.Sum first ps) ≡ record { rank = 2; tokens = wrapped 1 (spelled first) ++ flat_map spelled_sum_part ps }
spelled_sum first ps = ap spelled (sym (e.rolls-Sum first ps)) ∙ fold-roll-Expr Spelled (List Lexeme) (List Lexeme) spell_step product_part_step sum_part_step (Expr-F.Sum first ps)
    ∙ ap (λ (v : List Lexeme). record { rank = 2; tokens = wrapped 1 (spelled first) ++ v }) (flat_map-map (λ ts. ts) spelled_sum_part ps)

pub spelled_prod : (first : Expr) (ps : List ProdPart) → spelled (e.Prod first ps) ≡ record { rank = 1; tokens = wrapped 0 (spelled first) ++ flat_map spelled_product_part ps }
spelled_prod first ps = ap spelled (sym (e.rolls-Prod first ps)) ∙ fold-roll-Expr Spelled (List Lexeme) (List Lexeme) spell_step product_part_step sum_part_step (Expr-F.Prod first ps)
    ∙ ap (λ (v : List Lexeme). record { rank = 1; tokens = wrapped 0 (spelled first) ++ v }) (flat_map-map (λ ts. ts) spelled_product_part ps)

pub spelled_sums : (s : Bool × Place) (x : Expr) → spelled_sum_part (sum_part s x) ≡ mark_at (if s.0 then k.Minus else k.Plus) s.1 ∷ wrapped 1 (spelled x)
spelled_sums s x = fold-roll-SumPart Spelled (List Lexeme) (List Lexeme) spell_step product_part_step sum_part_step (record { minus = s.0; at = s.1; of = x })

pub spelled_prods : (at : Place) (x : Expr) → spelled_product_part (product_part at x) ≡ mark_at k.Star at ∷ wrapped 0 (spelled x)
spelled_prods at x = fold-roll-ProdPart Spelled (List Lexeme) (List Lexeme) spell_step product_part_step sum_part_step (record { at = at; of = x })

pub sum_tokens : (out mid all : List Lexeme) (first : Expr) (ps : List SumPart) → mid ≡ out ++ wrapped 1 (spelled first) → all ≡ mid ++ flat_map spelled_sum_part ps → all ≡ out ++ (spelled (e.Sum first ps)).tokens
sum_tokens out mid all first ps h g = g ∙ ap (λ v. v ++ flat_map spelled_sum_part ps) h ∙ append_assoc out (wrapped 1 (spelled first)) (flat_map spelled_sum_part ps)
    ∙ ap (λ (s : Spelled). out ++ s.tokens) (sym (spelled_sum first ps))

pub product_tokens : (out mid all : List Lexeme) (first : Expr) (ps : List ProdPart) → mid ≡ out ++ wrapped 0 (spelled first) → all ≡ mid ++ flat_map spelled_product_part ps → all ≡ out ++ (spelled (e.Prod first ps)).tokens
product_tokens out mid all first ps h g = g ∙ ap (λ v. v ++ flat_map spelled_product_part ps) h ∙ append_assoc out (wrapped 0 (spelled first)) (flat_map spelled_product_part ps)
    ∙ ap (λ (s : Spelled). out ++ s.tokens) (sym (spelled_prod first ps))

pub call_tokens : (out mid all : List Lexeme) (id : Ident) (args : List Expr) → mid ≡ out ++ word_of id ∷ [] → all ≡ mid ++ parens (separated expression args) → all ≡ out ++ (spelled (e.Call id args)).tokens
call_tokens out mid all id args h g = g ∙ ap (λ v. v ++ parens (separated expression args)) h ∙ append_assoc out (word_of id ∷ []) (parens (separated expression args))
    ∙ ap (λ (s : Spelled). out ++ s.tokens) (sym (spelled_call id args))

pub on_ok : {A E P Q : Type 0} (r : Result A E) → (P → Q) → OnOk r P → OnOk r Q
on_ok (Ok x) f h = f h
on_ok (Err e) f h = tt

-- fewer expressions are no deeper
pub rest_no_deeper : (xs : List Expr) (x : Expr) (rest : List Expr) → xs ≡ x ∷ rest → most size-Expr rest ≤ most size-Expr xs
rest_no_deeper xs x rest is = let all : most size-Expr xs ≡ max (size-Expr x) (most size-Expr rest) = ap (most size-Expr) is in omega arith
