use Rattle.std.proofs.Common.{◌≡◌, ℕ, zero, suc, List, refl, ap}
use Rattle.heco_syntax.specs.declared.lexeme.Lexeme.{Lexeme}
use Rattle.heco_expressions.specs.declared.cursor.Start.{Start}
use Rattle.heco_expressions.specs.declared.cursor.Start.TheVariants as starts
use Rattle.heco_expressions.specs.Reading.{factor, factor_by, factor_flat, factor_deep, start}

same : (n : ℕ) (s : Start) (ts : List Lexeme) → start ts ≡ s → factor n ts ≡ factor_by n s ts
unfolding factor
same zero starts.Number ts h = ap (λ s. factor_flat s ts) h
same zero starts.Word ts h = ap (λ s. factor_flat s ts) h
same zero starts.Minus ts h = ap (λ s. factor_flat s ts) h
same zero starts.Open ts h = ap (λ s. factor_flat s ts) h
same zero starts.Other ts h = ap (λ s. factor_flat s ts) h
same (suc n) starts.Number ts h = ap (λ s. factor_deep (factor n) s ts) h
same (suc n) starts.Word ts h = ap (λ s. factor_deep (factor n) s ts) h
same (suc n) starts.Minus ts h = ap (λ s. factor_deep (factor n) s ts) h
same (suc n) starts.Open ts h = ap (λ s. factor_deep (factor n) s ts) h
same (suc n) starts.Other ts h = ap (λ s. factor_deep (factor n) s ts) h

-- a factor goes by what it begins with
pub factor_starts : (n : ℕ) (ts : List Lexeme) → factor n ts ≡ factor_by n (start ts) ts
factor_starts n ts = same n (start ts) ts refl
