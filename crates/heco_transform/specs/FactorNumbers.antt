-- A number with the quotient that its products are reduced by.
use Rattle.std.specs.Prelude.{ℕ, ◌≡◌, ◌*◌, ◌/◌, ◌^◌, ◌<◌}
use mathlib.Core.Path.{ap, sym}
use Rattle.heco_transform.specs.Modulus.{modulus}
use Rattle.heco_transform.specs.declared.factor.Factor.TheInside.{Inside}

abbrev pub number : Inside → ℕ
number r = r.value

-- the number with its quotient
abbrev pub with_ratio : ℕ → ℕ → Inside
with_ratio v q = record { value = v; ratio = q }

abbrev pub inside : ℕ → Inside
inside v = with_ratio v (v * 2 ^ 64 / modulus)

abbrev pub IsExact : Inside → Type 0
IsExact r = (r.ratio ≡ r.value * 2 ^ 64 / modulus) × (r.value < modulus)

abbrev pub inside_number : (r : Inside) → IsExact r → inside (number r) ≡ r
inside_number r h = ap (with_ratio r.value) (sym (h.0))
