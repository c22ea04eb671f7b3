-- The productions of expressions: these tokens, all of them, spell this tree with at most n levels open.
use Rattle.std.specs.Prelude.{◌≡◌, ℕ, suc, List, [], ◌∷◌, ◌++◌, Bool, Some}
use Rattle.heco_lex.specs.declared.place.Place.{Place}
use Rattle.heco_lex.specs.declared.token.TokenKind.TheVariants as k
use Rattle.heco_syntax.specs.declared.lexeme.Lexeme.{Lexeme}
use Rattle.heco_syntax.specs.declared.tree.Expr.{Expr}
use Rattle.heco_syntax.specs.declared.tree.Expr.TheVariants as e
use Rattle.heco_syntax.specs.declared.tree.SumPart.{SumPart}
use Rattle.heco_syntax.specs.declared.tree.ProdPart.{ProdPart}
use Rattle.heco_syntax.specs.Parts.{ident_of, num_of, sum_sign, product_sign, comma, sum_part, product_part, sum_of, product_of}

mutual
  -- factor := "-" factor | Number | Word | Word "[" expr "]" | "(" expr ")" | Word "(" [ expr { "," expr } ] ")"
  pub data IsFactor : ℕ → List Lexeme → Expr → Type 0 where
    literal : {n : ℕ} {t : Lexeme} {x : Expr} → t.kind ≡ k.Number → x ≡ e.Lit (num_of t) → IsFactor n (t ∷ []) x
    name : {n : ℕ} {t : Lexeme} {x : Expr} → t.kind ≡ k.Word → x ≡ e.One (ident_of t) → IsFactor n (t ∷ []) x
    item : {n : ℕ} {w o : Lexeme} (c : Lexeme) {ts : List Lexeme} {x i : Expr} → w.kind ≡ k.Word → o.kind ≡ k.OpenBracket → IsSum n ts i
        → c.kind ≡ k.CloseBracket → x ≡ e.Item (ident_of w) i
        → IsFactor (suc n) (w ∷ o ∷ (ts ++ c ∷ [])) x
    negative : {n : ℕ} {t : Lexeme} {ts : List Lexeme} {x y : Expr} → t.kind ≡ k.Minus → IsFactor n ts y → x ≡ e.Neg t.at y → IsFactor (suc n) (t ∷ ts) x
    group : {n : ℕ} {o : Lexeme} (c : Lexeme) {ts : List Lexeme} {x : Expr} → o.kind ≡ k.Open → IsSum n ts x → c.kind ≡ k.Close
        → IsFactor (suc n) (o ∷ (ts ++ c ∷ [])) x
    call : {n : ℕ} {w o : Lexeme} (c : Lexeme) {ts : List Lexeme} {x : Expr} {args : List Expr} → w.kind ≡ k.Word → o.kind ≡ k.Open
        → AreArguments n ts args → c.kind ≡ k.Close → x ≡ e.Call (ident_of w) args
        → IsFactor (suc n) (w ∷ o ∷ (ts ++ c ∷ [])) x

  -- [ expr { "," expr } ]
  pub data AreArguments : ℕ → List Lexeme → List Expr → Type 0 where
    no_argument : {n : ℕ} → AreArguments n [] []
    arguments : {n : ℕ} {ts us : List Lexeme} {x : Expr} {xs : List Expr} → IsSum n ts x → AreFurther n us xs → AreArguments n (ts ++ us) (x ∷ xs)

  pub data AreFurther : ℕ → List Lexeme → List Expr → Type 0 where
    no_further : {n : ℕ} → AreFurther n [] []
    further : {n : ℕ} {t : Lexeme} {at : Place} {ts us : List Lexeme} {x : Expr} {xs : List Expr} → comma t ≡ Some at → IsSum n ts x
        → AreFurther n us xs → AreFurther n (t ∷ (ts ++ us)) (x ∷ xs)

  -- term := factor { "*" factor }
  pub data IsProduct : ℕ → List Lexeme → Expr → Type 0 where
    product : {n : ℕ} {ts us : List Lexeme} {x first : Expr} {ps : List ProdPart} → IsFactor n ts first → AreFactors n us ps → x ≡ product_of first ps
        → IsProduct n (ts ++ us) x

  pub data AreFactors : ℕ → List Lexeme → List ProdPart → Type 0 where
    no_factor : {n : ℕ} → AreFactors n [] []
    factors : {n : ℕ} {t : Lexeme} {at : Place} {ts us : List Lexeme} {x : Expr} {ps : List ProdPart} → product_sign t ≡ Some at → IsFactor n ts x
        → AreFactors n us ps
        → AreFactors n (t ∷ (ts ++ us)) (product_part at x ∷ ps)

  -- expr := term { ( "+" | "-" ) term }
  pub data IsSum : ℕ → List Lexeme → Expr → Type 0 where
    sum : {n : ℕ} {ts us : List Lexeme} {x first : Expr} {ps : List SumPart} → IsProduct n ts first → AreProducts n us ps → x ≡ sum_of first ps
        → IsSum n (ts ++ us) x

  pub data AreProducts : ℕ → List Lexeme → List SumPart → Type 0 where
    no_product : {n : ℕ} → AreProducts n [] []
    products : {n : ℕ} {t : Lexeme} {sign : Bool × Place} {ts us : List Lexeme} {x : Expr} {ps : List SumPart} → sum_sign t ≡ Some sign
        → IsProduct n ts x → AreProducts n us ps
        → AreProducts n (t ∷ (ts ++ us)) (sum_part sign x ∷ ps)
