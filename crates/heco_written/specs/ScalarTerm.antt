-- What a secret number is, written in the inputs' elements, and the value of that.
use Rattle.std.specs.Prelude.{◌≡◌, ℕ, zero, suc, ◌+◌, ◌-◌, ◌*◌, ◌%◌, ◌<◌, slice_index, slice_index_or, [], Bool, true, false, Option, Some, None}
use Rattle.heco_written.specs.World.{World}

pub data ScalarTerm : Type 0 where
  Number : ℕ → ScalarTerm
  Element : ℕ → ℕ → ScalarTerm
  Sum : ScalarTerm → ScalarTerm → ScalarTerm
  Product : ScalarTerm → ScalarTerm → ScalarTerm
  Negation : ScalarTerm → ScalarTerm

-- the value under given inputs
abbrev pub scalar_value : World → ScalarTerm → ℕ
scalar_value w (Number c) = c % w.modulus
scalar_value w (Element a i) = slice_index (slice_index_or w.inputs a []) i % w.modulus
scalar_value w (Sum x y) = (scalar_value w x + scalar_value w y) % w.modulus
scalar_value w (Product x y) = (scalar_value w x * scalar_value w y) % w.modulus
scalar_value w (Negation x) = (w.modulus - scalar_value w x) % w.modulus

-- which part of an operation is its result: a number, the first operand, the second, or the operation on both
pub data Choice : Type 0 where
  Whole : ℕ → Choice
  First : Choice
  Second : Choice
  Both : Choice

-- two numbers are added, and a zero gives the other side
abbrev pub sum_choice : ℕ → Option ℕ → Option ℕ → Choice
sum_choice modulus (Some c) (Some d) = Whole ((c + d) % modulus)
sum_choice modulus (Some zero) None = Second
sum_choice modulus None (Some zero) = First
sum_choice modulus x y = Both

-- two numbers are multiplied, a zero gives zero, and a one the other side
abbrev pub product_choice : ℕ → Option ℕ → Option ℕ → Choice
product_choice modulus (Some c) (Some d) = Whole ((c * d) % modulus)
product_choice modulus (Some zero) None = Whole 0
product_choice modulus None (Some zero) = Whole 0
product_choice modulus (Some (suc zero)) None = Second
product_choice modulus None (Some (suc zero)) = First
product_choice modulus x y = Both

-- the number that a term is
abbrev pub number_of : ScalarTerm → Option ℕ
number_of (Number c) = Some c
number_of x = None

abbrev pub chosen : Choice → ScalarTerm → ScalarTerm → ScalarTerm → ScalarTerm
chosen (Whole c) x y both = Number c
chosen First x y both = x
chosen Second x y both = y
chosen Both x y both = both

abbrev pub sum_of : ℕ → ScalarTerm → ScalarTerm → ScalarTerm
sum_of modulus x y = chosen (sum_choice modulus (number_of x) (number_of y)) x y (Sum x y)

abbrev pub product_of : ℕ → ScalarTerm → ScalarTerm → ScalarTerm
product_of modulus x y = chosen (product_choice modulus (number_of x) (number_of y)) x y (Product x y)

-- a number is negated
abbrev pub negation_of : ℕ → ScalarTerm → ScalarTerm
negation_of modulus (Number c) = Number ((modulus - c % modulus) % modulus)
negation_of modulus x = Negation x

-- terms that sums, products and negations make from numbers below the modulus and elements within the slots
pub data IsMade (modulus slots : ℕ) : ScalarTerm → Type 0 where
  number : (c : ℕ) → c < modulus → IsMade modulus slots (Number c)
  element : (a i : ℕ) → i < slots → IsMade modulus slots (Element a i)
  sum : (x y z : ScalarTerm) → IsMade modulus slots x → IsMade modulus slots y → z ≡ sum_of modulus x y → IsMade modulus slots z
  product : (x y z : ScalarTerm) → IsMade modulus slots x → IsMade modulus slots y → z ≡ product_of modulus x y → IsMade modulus slots z
  negation : (x z : ScalarTerm) → IsMade modulus slots x → z ≡ negation_of modulus x → IsMade modulus slots z

abbrev pub is_number : ScalarTerm → Bool
is_number (Number c) = true
is_number x = false
