-- The operations on terms keep their values.
use Rattle.std.proofs.Common.{◌≡◌, ◌∙◌, refl, sym, ap, ℕ, zero, suc, ◌+◌, ◌-◌, ◌*◌, ◌%◌, ℤ, pos, negsuc, [], slice_index, slice_index_or, arith}
use Rattle.std.proofs.Math.Nat.{mod-mod, add-mod, mod-add-mod, one-mul, mul_comm, zero-mul}
use Rattle.std.proofs.lemmas.Nat.{mul-mod, mul-mod_first}
use Rattle.heco_written.specs.World.{World}
use Rattle.heco_written.specs.ScalarTerm.{ScalarTerm, Number, Element, Sum, Product, Negation, sum_of, product_of, negation_of, scalar_value}
use Rattle.heco_execution.specs.Secrets.{residue, numbers, terms, storeless}
use Rattle.heco_execution.proofs.Evaluations.{AreFollowed}

module _ (w : World) where
  value-reduced : (x : ScalarTerm) → scalar_value w x % w.modulus ≡ scalar_value w x
  value-reduced (Number c) = mod-mod c w.modulus
  value-reduced (Element a i) = mod-mod (slice_index (slice_index_or w.inputs a []) i) w.modulus
  value-reduced (Sum x y) = mod-mod (scalar_value w x + scalar_value w y) w.modulus
  value-reduced (Product x y) = mod-mod (scalar_value w x * scalar_value w y) w.modulus
  value-reduced (Negation x) = mod-mod (w.modulus - scalar_value w x) w.modulus

  residue-reduced : (z : ℤ) → residue w.modulus z % w.modulus ≡ residue w.modulus z
  residue-reduced (pos n) = mod-mod n w.modulus
  residue-reduced (negsuc n) = mod-mod (w.modulus - suc n % w.modulus) w.modulus

  zero_first : (v : ℕ) → v % w.modulus ≡ v → v ≡ (0 % w.modulus + v) % w.modulus
  zero_first v e = sym e ∙ sym (mod-add-mod 0 w.modulus v ∙ ap (λ n. n % w.modulus) (omega arith))

  value-sum : (x y : ScalarTerm) → scalar_value w (sum_of w.modulus x y) ≡ (scalar_value w x + scalar_value w y) % w.modulus
  value-sum (Number m) (Number n) = mod-mod (m + n) w.modulus ∙ add-mod m n w.modulus
  value-sum (Number zero) y = zero_first (scalar_value w y) (value-reduced y)
  value-sum x (Number zero) = zero_first (scalar_value w x) (value-reduced x) ∙ ap (λ n. n % w.modulus) (omega arith)
  value-sum x y = refl

  one_first : (v : ℕ) → v % w.modulus ≡ v → v ≡ 1 % w.modulus * v % w.modulus
  one_first v e = sym e ∙ sym (mul-mod_first 1 v w.modulus ∙ ap (λ n. n % w.modulus) (one-mul v))

  none_first : (v : ℕ) → 0 % w.modulus ≡ 0 % w.modulus * v % w.modulus
  none_first v = sym (mul-mod_first 0 v w.modulus ∙ ap (λ n. n % w.modulus) (zero-mul v))

  value-product : (x y : ScalarTerm) → scalar_value w (product_of w.modulus x y) ≡ scalar_value w x * scalar_value w y % w.modulus
  value-product (Number m) (Number n) = mod-mod (m * n) w.modulus ∙ mul-mod m n w.modulus
  value-product (Number zero) y = none_first (scalar_value w y)
  value-product x (Number zero) = none_first (scalar_value w x) ∙ ap (λ n. n % w.modulus) (mul_comm (0 % w.modulus) (scalar_value w x))
  value-product (Number (suc zero)) y = one_first (scalar_value w y) (value-reduced y)
  value-product x (Number (suc zero)) = one_first (scalar_value w x) (value-reduced x) ∙ ap (λ n. n % w.modulus) (mul_comm (1 % w.modulus) (scalar_value w x))
  value-product x y = refl

  value-negation : (x : ScalarTerm) → scalar_value w (negation_of w.modulus x) ≡ (w.modulus - scalar_value w x % w.modulus) % w.modulus
  value-negation (Number m) = mod-mod (w.modulus - m % w.modulus) w.modulus ∙ ap (λ n. (w.modulus - n) % w.modulus) (sym (mod-mod m w.modulus))
  value-negation x = ap (λ n. (w.modulus - n) % w.modulus) (sym (value-reduced x))

  -- the number is the term's value
  abbrev pub HasValue : Unit {0} → ScalarTerm → ℕ → Type 0
  HasValue s x n = scalar_value w x ≡ n

  abbrev pub Stays : Unit {0} → Unit {0} → Type 0
  Stays s t = Unit {0}

  pub terms_followed : AreFollowed (storeless {S = Unit {0}} (terms w.modulus)) (numbers w.modulus) Stays HasValue
  terms_followed = record {
    growth = record { stays = λ s. tt; further = λ s t u g h. tt; kept = λ s t v x g h. h };
    of_number = λ s z. (tt, residue-reduced z);
    add = λ s x y u v h k. (tt, value-sum x y ∙ ap (λ n. (n + scalar_value w y) % w.modulus) h ∙ ap (λ n. (u + n) % w.modulus) k);
    multiply = λ s x y u v h k. (tt, value-product x y ∙ ap (λ n. n * scalar_value w y % w.modulus) h ∙ ap (λ n. u * n % w.modulus) k);
    negate = λ s x u h. (tt, value-negation x ∙ ap (λ n. (w.modulus - n % w.modulus) % w.modulus) h);
  }
