-- What made terms look like: sums, products and negations are not of numbers alone.
use Rattle.std.specs.Prelude.{◌≡◌, ℕ, zero, ◌<◌, Bool, true, false, ◌&&◌, ◌||◌}
use Rattle.heco_written.specs.ScalarTerm.{ScalarTerm, Number, Element, Sum, Product, Negation, is_number}

abbrev pub is_zero : ScalarTerm → Bool
is_zero (Number zero) = true
is_zero x = false

-- numbers are below the modulus, elements within the slots, no operation is of numbers alone, and no factor is 0
abbrev pub IsProper : ℕ → ℕ → ScalarTerm → Type 0
IsProper modulus slots (Number c) = c < modulus
IsProper modulus slots (Element a i) = i < slots
IsProper modulus slots (Sum x y) = IsProper modulus slots x × IsProper modulus slots y × ((is_number x && is_number y) ≡ false)
IsProper modulus slots (Product x y) = IsProper modulus slots x × IsProper modulus slots y × ((is_number x && is_number y) ≡ false)
    × ((is_zero x || is_zero y) ≡ false)
IsProper modulus slots (Negation x) = IsProper modulus slots x × (is_number x ≡ false)
