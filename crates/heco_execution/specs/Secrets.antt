-- What a secret element may be: the operations that an execution does on secrets, without a look inside.
use Rattle.std.specs.Prelude.{ℕ, suc, ◌+◌, ◌-◌, ◌*◌, ◌%◌, ℤ, pos, negsuc}
use Rattle.heco_written.specs.ScalarTerm.{ScalarTerm, Number, sum_of, product_of, negation_of}

-- secrets that need nothing else
pub record Secrets (V : Type 0) : Type 0 where
  pub of_number : ℤ → V
  pub add : V → V → V
  pub multiply : V → V → V
  pub negate : V → V

-- secrets that stand in a store, as nodes among nodes: each operation may put more into it
pub record Stored (S V : Type 0) : Type 0 where
  pub of_number : ℤ → S → V × S
  pub add : V → V → S → V × S
  pub multiply : V → V → S → V × S
  pub negate : V → S → V × S

-- secrets that need nothing else, beside a store that is left alone
abbrev pub storeless : {S V : Type 0} → Secrets V → Stored S V
storeless secrets = record {
  of_number = λ z s. (secrets.of_number z, s);
  add = λ x y s. (secrets.add x y, s);
  multiply = λ x y s. (secrets.multiply x y, s);
  negate = λ x s. (secrets.negate x, s);
}

-- a whole number modulo t
abbrev pub residue : ℕ → ℤ → ℕ
residue t (pos n) = n % t
residue t (negsuc n) = (t - suc n % t) % t

-- numbers modulo t
abbrev pub numbers : ℕ → Secrets ℕ
numbers t = record {
  of_number = residue t;
  add = λ x y. (x + y) % t;
  multiply = λ x y. x * y % t;
  negate = λ x. (t - x % t) % t;
}

-- scalar terms modulo t
abbrev pub terms : ℕ → Secrets ScalarTerm
terms t = record {
  of_number = λ z. Number (residue t z);
  add = sum_of t;
  multiply = product_of t;
  negate = negation_of t;
}
