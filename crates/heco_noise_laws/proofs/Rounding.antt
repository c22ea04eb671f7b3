-- The rounding of t x / q by a high and a low part.
use Prim.Native.Nat.{ℕ, ◌<◌, ◌+◌, ◌*◌, ◌/◌, ◌^◌, ◌≤◌}
use borrow.Author.Differences.{ints, up, down, same_in}
use lib.IntN.{ℤ, pos, ◌+ℤ◌, ◌*ℤ◌, negsuc, ◌-ℤ◌, nat_abs}
use mathlib.Core.Path.{◌≡◌, sym, ap, ◌∙◌}
use mir.Syntax.{w64, w128}
use mir.Val.{SFits}
use native.Mathlib.Nat.{mul-le-mul_left, le_of_mul-le-mul_left, mul-le-mul_right}
use native.Mathlib.Omega.{arith}
use Rattle.std.proofs.lemmas.Int.{unsigned_abs-mul, fits_signed_from_abs}
use Rattle.std.proofs.lemmas.Nat.{mul-le}
use Rattle.std.specs.Int.{int_div_euclid, int_rem_euclid}
use Rattle.heco_ring.proofs.Integers.{lines, z_mul_add, z_mul_left}
use Rattle.heco_ring.proofs.Remainders.{rem-lt, rem_split, rem_cong, rem_is, quo_is}
use Rattle.heco_ring.proofs.Sizes.{abs_add}
use Rattle.heco_ring.specs.Remainders.{rem, quo}
use Rattle.heco_noise_laws.specs.Noise.{rounded}

pub z_cancel : (q : ℕ) (a b : ℤ) → 0 < q → pos q *ℤ a ≡ pos q *ℤ b → a ≡ b
z_cancel q a b h e =
    let f : q * (up a + down b) ≡ q * (up b + down a) = omega (arith, ints) in
    let l : up a + down b ≤ up b + down a = le_of_mul-le-mul_left (omega arith) h in
    let r : up b + down a ≤ up a + down b = le_of_mul-le-mul_left (omega arith) h in
    same_in a b (omega arith)

pub quo_add : (q : ℕ) (a b : ℤ) → 0 < q → quo q (pos q *ℤ a +ℤ b) ≡ a +ℤ quo q b
quo_add q a b h =
    let r : rem q (pos q *ℤ a +ℤ b) ≡ rem q b = rem_cong q (pos q *ℤ a +ℤ b) b h (record { by = a; is = omega (arith, lines) }) in
    z_cancel q (quo q (pos q *ℤ a +ℤ b)) (a +ℤ quo q b) h (rw (z_mul_add (pos q) a (quo q b)) (omega (arith, lines, rem_split q (pos q *ℤ a +ℤ b) h, rem_split q b h, r)))

pub quo_size : (x : ℤ) → nat_abs x ≤ 2 ^ 125 → nat_abs (quo (2 ^ 58) x) ≤ 2 ^ 67
unfolding quo
quo_size (pos a) h = omega arith
quo_size (negsuc a) h = omega arith

-- t x + q/2 by its high and its low part
pub by_parts : (q t : ℕ) (x : ℤ) → 0 < q → pos t *ℤ quo q x +ℤ quo q (pos t *ℤ pos (rem q x) +ℤ pos (q / 2)) ≡ rounded q t x
unfolding rounded
by_parts q t x h =
    sym (quo_add q (pos t *ℤ quo q x) (pos t *ℤ pos (rem q x) +ℤ pos (q / 2)) h)
    ∙ ap (quo q) (let e : pos t *ℤ x ≡ pos t *ℤ (pos q *ℤ quo q x) +ℤ pos t *ℤ pos (rem q x) = ap (λ (z : ℤ). pos t *ℤ z) (rem_split q x h) ∙ z_mul_add (pos t) (pos q *ℤ quo q x) (pos (rem q x)) in
    rw (z_mul_left (pos q) (pos t) (quo q x)) (omega (arith, lines, e)))

pub product_fits : (t : ℕ) (x : ℤ) → t ≤ 65537 → nat_abs x ≤ 2 ^ 125 → nat_abs (pos t *ℤ quo (2 ^ 58) x) ≤ 2 ^ 84
product_fits t x h g = rw (unsigned_abs-mul (pos t) (quo (2 ^ 58) x)) (omega (arith, mul-le-mul_left t (quo_size x g), mul-le-mul_right (2 ^ 67) h))

pub product_in : (t : ℕ) (x a b : ℤ) → t ≤ 65537 → nat_abs x ≤ 2 ^ 125 → a ≡ pos t → b ≡ int_div_euclid x (pos (2 ^ 58)) → SFits w128 (a *ℤ b)
product_in t x a b h g e f = rw (e, f ∙ quo_is (2 ^ 58) x) (fits_signed_from_abs w128 (pos t *ℤ quo (2 ^ 58) x) (le_lt (nat_abs (pos t *ℤ quo (2 ^ 58) x)) (product_fits t x h g)))
  where
    le_lt : (n : ℕ) → n ≤ 2 ^ 84 → n < 2 ^ 127
    le_lt n h = omega arith

-- the part from the low bits
pub low_size : (t : ℕ) (x p : ℤ) → t ≤ 65537 → p ≡ quo (2 ^ 58) (pos t *ℤ pos (rem (2 ^ 58) x) +ℤ pos (2 ^ 57)) → nat_abs p ≤ 2 ^ 18
unfolding quo
low_size t x p h e = rw e (bound (rem (2 ^ 58) x) (rem-lt (2 ^ 58) x (omega arith)))
  where
    bound : (r : ℕ) → r < 2 ^ 58 → (t * r + 2 ^ 57) / 2 ^ 58 ≤ 2 ^ 18
    bound r l = omega (arith, mul-le-mul_right r h)

low_bound : (t r : ℕ) → t ≤ 65537 → r < 2 ^ 58 → (t * r < 2 ^ 127) × (t * r + 2 ^ 57 < 2 ^ 127)
low_bound t r h l = let m : t * r ≤ 65537 * r = mul-le-mul_right r h in (omega (arith, m), omega (arith, m))

pub low_in : (t : ℕ) (x a l : ℤ) → t ≤ 65537 → a ≡ pos t → l ≡ int_rem_euclid x (pos (2 ^ 58)) → SFits w128 (a *ℤ l)
low_in t x a l h e f = rw (e, f ∙ rem_is (2 ^ 58) x) (fits_signed_from_abs w128 (pos (t * rem (2 ^ 58) x)) ((low_bound t (rem (2 ^ 58) x) h (rem-lt (2 ^ 58) x (omega arith))).0))

pub low_sum_in : (t : ℕ) (x a l : ℤ) → t ≤ 65537 → a ≡ pos t → l ≡ int_rem_euclid x (pos (2 ^ 58)) → SFits w128 (a *ℤ l +ℤ pos (2 ^ 57))
low_sum_in t x a l h e f = rw (e, f ∙ rem_is (2 ^ 58) x) (fits_signed_from_abs w128 (pos (t * rem (2 ^ 58) x + 2 ^ 57)) ((low_bound t (rem (2 ^ 58) x) h (rem-lt (2 ^ 58) x (omega arith))).1))

pub whole_in : (t : ℕ) (x a h l p : ℤ) → t ≤ 65537 → nat_abs x ≤ 2 ^ 125 → a ≡ pos t → h ≡ int_div_euclid x (pos (2 ^ 58)) → l ≡ int_rem_euclid x (pos (2 ^ 58)) → p ≡ int_div_euclid (a *ℤ l +ℤ pos (2 ^ 57)) (pos (2 ^ 58)) → SFits w128 (a *ℤ h +ℤ p)
whole_in t x a h l p s g e f d k =
    let hs : nat_abs (a *ℤ h) ≤ 2 ^ 84 = rw (e, f ∙ quo_is (2 ^ 58) x) (product_fits t x s g) in
    let ps : nat_abs p ≤ 2 ^ 18 = low_size t x p s (k ∙ quo_is (2 ^ 58) (a *ℤ l +ℤ pos (2 ^ 57)) ∙ rw (e, d ∙ rem_is (2 ^ 58) x)) in
    fits_signed_from_abs w128 (a *ℤ h +ℤ p) (sum_lt (nat_abs (a *ℤ h +ℤ p)) (nat_abs (a *ℤ h)) (nat_abs p) (abs_add (a *ℤ h) p) hs ps)
  where
    sum_lt : (n u v : ℕ) → n ≤ u + v → u ≤ 2 ^ 84 → v ≤ 2 ^ 18 → n < 2 ^ 127
    sum_lt n u v h g k = omega arith

pub whole_is : (t : ℕ) (x a h l p : ℤ) → a ≡ pos t → h ≡ int_div_euclid x (pos (2 ^ 58)) → l ≡ int_rem_euclid x (pos (2 ^ 58)) → p ≡ int_div_euclid (a *ℤ l +ℤ pos (2 ^ 57)) (pos (2 ^ 58)) → a *ℤ h +ℤ p ≡ rounded (2 ^ 58) t x
whole_is t x a h l p e f d k = rw (k ∙ quo_is (2 ^ 58) (a *ℤ l +ℤ pos (2 ^ 57)), d ∙ rem_is (2 ^ 58) x, f ∙ quo_is (2 ^ 58) x, e) (by_parts (2 ^ 58) t x (omega arith))

-- a product of two numbers of 58 bits
pub product_size : (x y : ℤ) → nat_abs x ≤ 2 ^ 57 → nat_abs y ≤ 2 ^ 57 → nat_abs (x *ℤ y) ≤ 2 ^ 114
product_size x y h g = rw (unsigned_abs-mul x y) (mul-le (nat_abs x) (nat_abs y) (2 ^ 57) (2 ^ 57) h g)

pub plus_fits : (o z : ℤ) → nat_abs o ≤ 2 ^ 126 → nat_abs z ≤ 2 ^ 114 → SFits w128 (o +ℤ z)
plus_fits o z h g = omega (arith, ints)

pub minus_fits : (o z : ℤ) → nat_abs o ≤ 2 ^ 126 → nat_abs z ≤ 2 ^ 114 → SFits w128 (o -ℤ z)
minus_fits o z h g = omega (arith, ints)

pub product_128 : (z : ℤ) → nat_abs z ≤ 2 ^ 114 → SFits w128 z
product_128 z g = omega (arith, ints)

pub small_128 : (z : ℤ) → nat_abs z ≤ 2 ^ 126 → SFits w128 z
small_128 z g = omega (arith, ints)

pub small_64 : (z : ℤ) → nat_abs z ≤ 2 ^ 57 → SFits w64 z
small_64 z g = omega (arith, ints)
