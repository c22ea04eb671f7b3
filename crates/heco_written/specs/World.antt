-- What the values of terms depend on.
use Rattle.std.specs.Prelude.{ℕ, List}

-- what a term's value depends on: the plaintext modulus, the number of slots, and the inputs
pub record World : Type 0 where
  pub modulus : ℕ
  pub slots : ℕ
  pub inputs : List (List ℕ)
