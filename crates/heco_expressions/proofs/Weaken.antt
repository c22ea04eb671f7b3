-- What is spelled with at most n levels is spelled with at most n + 1.
use Rattle.std.proofs.Common.{ℕ, suc, List}
use Rattle.heco_syntax.specs.declared.lexeme.Lexeme.{Lexeme}
use Rattle.heco_syntax.specs.declared.tree.Expr.{Expr}
use Rattle.heco_syntax.specs.declared.tree.SumPart.{SumPart}
use Rattle.heco_syntax.specs.declared.tree.ProdPart.{ProdPart}
use Rattle.heco_syntax.specs.Grammar.{IsFactor, AreArguments, AreFurther, IsProduct, AreFactors, IsSum, AreProducts, literal, name, item, negative, group, call, no_argument, arguments, no_further, further, product, no_factor, factors, sum, no_product, products}

mutual
  pub weaken_factor : {n : ℕ} {ts : List Lexeme} {x : Expr} → IsFactor n ts x → IsFactor (suc n) ts x
  weaken_factor (literal h e) = literal h e
  weaken_factor (name h e) = name h e
  weaken_factor (item c h o i g e) = item c h o (weaken_sum i) g e
  weaken_factor (negative h i e) = negative h (weaken_factor i) e
  weaken_factor (group c o i g) = group c o (weaken_sum i) g
  weaken_factor (call c h o a g e) = call c h o (weaken_arguments a) g e

  pub weaken_arguments : {n : ℕ} {ts : List Lexeme} {xs : List Expr} → AreArguments n ts xs → AreArguments (suc n) ts xs
  weaken_arguments no_argument = no_argument
  weaken_arguments (arguments i a) = arguments (weaken_sum i) (weaken_further a)

  pub weaken_further : {n : ℕ} {ts : List Lexeme} {xs : List Expr} → AreFurther n ts xs → AreFurther (suc n) ts xs
  weaken_further no_further = no_further
  weaken_further (further s i a) = further s (weaken_sum i) (weaken_further a)

  pub weaken_product : {n : ℕ} {ts : List Lexeme} {x : Expr} → IsProduct n ts x → IsProduct (suc n) ts x
  weaken_product (product i a e) = product (weaken_factor i) (weaken_factors a) e

  pub weaken_factors : {n : ℕ} {ts : List Lexeme} {ps : List ProdPart} → AreFactors n ts ps → AreFactors (suc n) ts ps
  weaken_factors no_factor = no_factor
  weaken_factors (factors s i a) = factors s (weaken_factor i) (weaken_factors a)

  pub weaken_sum : {n : ℕ} {ts : List Lexeme} {x : Expr} → IsSum n ts x → IsSum (suc n) ts x
  weaken_sum (sum i a e) = sum (weaken_product i) (weaken_products a) e

  pub weaken_products : {n : ℕ} {ts : List Lexeme} {ps : List SumPart} → AreProducts n ts ps → AreProducts (suc n) ts ps
  weaken_products no_product = no_product
  weaken_products (products s i a) = products s (weaken_product i) (weaken_products a)
