-- Remainders, and numbers that differ by a multiple.
use Prim.Native.Nat.{ℕ, zero, suc, ◌<◌, ◌+◌, ◌*◌, ◌/◌, ◌%◌, ◌-◌}
use borrow.Author.Differences.{ints, up, down}
use lib.IntN.{ℤ, pos, ◌+ℤ◌, ◌*ℤ◌, neg_ℤ, negsuc, ◌-ℤ◌}
use mathlib.Core.List.{List}
use mathlib.Core.Path.{◌≡◌, refl, sym, ap, ◌∙◌, subst}
use native.Mathlib.Nat.{mod-lt, mul-add-mod_self_left, mod-eq_of_lt}
use native.Mathlib.Omega.{arith}
use Rattle.std.specs.Int.{int_rem_euclid, int_div_euclid}
use Rattle.heco_ring.proofs.Integers.{lines, z_mul_add, z_mul_neg, z_mul_one, z_mul_zero, z_mul_minus, monomials}
use Rattle.heco_ring.specs.Remainders.{rem, quo, Cong}
use Rattle.heco_ring.specs.Ring.{sum_z, at, sign, times_at}

pub rem-lt : (q : ℕ) (z : ℤ) → 0 < q → rem q z < q
unfolding rem
rem-lt q (pos a) h = mod-lt a h
rem-lt q (negsuc a) h = omega arith

pub rem_split : (q : ℕ) (z : ℤ) → 0 < q → z ≡ pos q *ℤ quo q z +ℤ pos (rem q z)
unfolding rem quo
rem_split q (pos a) h = omega (arith, ints)
rem_split q (negsuc a) h = let l : a % q < q = mod-lt a h in omega (arith, ints)

pub rem_one : (q : ℕ) (c d : ℤ) (r s : ℕ) → r < q → s < q → pos q *ℤ c +ℤ pos r ≡ pos q *ℤ d +ℤ pos s → r ≡ s
rem_one q c d r s h g e =
    let f : q * (up c + down d) + r ≡ q * (up d + down c) + s = omega (arith, ints) in
    sym (mul-add-mod_self_left q (up c + down d) r ∙ mod-eq_of_lt h) ∙ ap (λ (x : ℕ). x % q) f ∙ mul-add-mod_self_left q (up d + down c) s ∙ mod-eq_of_lt g

-- numbers that differ by a multiple of q have one remainder
pub rem_cong : (q : ℕ) (a b : ℤ) → 0 < q → Cong q a b → rem q a ≡ rem q b
rem_cong q a b h c = rem_one q (quo q a) (quo q b +ℤ c.by) (rem q a) (rem q b) (rem-lt q a h) (rem-lt q b h)
    (sym (rem_split q a h) ∙ c.is ∙ ap (λ (x : ℤ). x +ℤ pos q *ℤ c.by) (rem_split q b h) ∙ simp monomials (omega (arith, lines)))

pub cong_rem : (q : ℕ) (a b : ℤ) → 0 < q → rem q a ≡ rem q b → Cong q a b
cong_rem q a b h e = record { by = quo q a -ℤ quo q b; is = rw (z_mul_add (pos q) (quo q a) (neg_ℤ (quo q b)), z_mul_neg (pos q) (quo q b)) (omega (arith, lines, rem_split q a h, rem_split q b h, e)) }

pub cong_add : (q : ℕ) (a b c d : ℤ) → Cong q a b → Cong q c d → Cong q (a +ℤ c) (b +ℤ d)
cong_add q a b c d h g = record { by = h.by +ℤ g.by; is = rw (z_mul_add (pos q) h.by g.by) (omega (arith, lines, h.is, g.is)) }

pub cong_mul : (q : ℕ) (a b c d : ℤ) → Cong q a b → Cong q c d → Cong q (a *ℤ c) (b *ℤ d)
cong_mul q a b c d h g = record { by = b *ℤ g.by +ℤ d *ℤ h.by +ℤ pos q *ℤ h.by *ℤ g.by; is = rw (h.is, g.is) (simp monomials (omega (arith, lines))) }

pub cong_refl : (q : ℕ) (a : ℤ) → Cong q a a
cong_refl q a = record { by = pos 0; is = rw (z_mul_zero (pos q)) (omega (arith, lines)) }

pub cong_self : (q : ℕ) (a : ℤ) → 0 < q → Cong q (pos (rem q a)) a
cong_self q a h = record { by = neg_ℤ (quo q a); is = rw (z_mul_neg (pos q) (quo q a)) (omega (arith, lines, rem_split q a h)) }

pub cong_sum : (q n : ℕ) (f g : ℕ → ℤ) → ((i : ℕ) → i < n → Cong q (f i) (g i)) → Cong q (sum_z n f) (sum_z n g)
unfolding sum_z
cong_sum q zero f g h = cong_refl q (pos 0)
cong_sum q (suc n) f g h = cong_add q (sum_z n f) (sum_z n g) (f n) (g n) (cong_sum q n f g (λ i l. h i (omega arith))) (h n (omega arith))

pub cong_times : (q n : ℕ) (a b c d : List ℤ) (k : ℕ) → ((i : ℕ) → i < n → Cong q (at a i) (at b i)) → ((i : ℕ) → i < n → Cong q (at c i) (at d i)) → Cong q (times_at n a c k) (times_at n b d k)
unfolding times_at
cong_times q n a b c d k h g = cong_sum q n (λ i. sum_z n (λ j. at a i *ℤ at c j *ℤ sign n (i + j) k)) (λ i. sum_z n (λ j. at b i *ℤ at d j *ℤ sign n (i + j) k)) (λ i l.
    cong_sum q n (λ j. at a i *ℤ at c j *ℤ sign n (i + j) k) (λ j. at b i *ℤ at d j *ℤ sign n (i + j) k) (λ j jl.
    cong_mul q (at a i *ℤ at c j) (at b i *ℤ at d j) (sign n (i + j) k) (sign n (i + j) k) (cong_mul q (at a i) (at b i) (at c j) (at d j) (h i l) (g j jl)) (cong_refl q (sign n (i + j) k))))

pub cong_neg : (t : ℕ) (a b : ℤ) → Cong t a b → Cong t (neg_ℤ a) (neg_ℤ b)
cong_neg t a b h = record { by = neg_ℤ h.by; is = rw (z_mul_neg (pos t) h.by) (omega (arith, lines, h.is)) }

pub cong_trans : (t : ℕ) (a b c : ℤ) → Cong t a b → Cong t b c → Cong t a c
cong_trans t a b c h g = record { by = h.by +ℤ g.by; is = h.is ∙ rw (g.is) (simp monomials (omega (arith, lines))) }

pub cong_sym : (t : ℕ) (a b : ℤ) → Cong t a b → Cong t b a
cong_sym t a b h = record { by = neg_ℤ h.by; is = rw (z_mul_neg (pos t) h.by) (omega (arith, lines, h.is)) }

pub cong_eq : (t : ℕ) (a b : ℤ) → a ≡ b → Cong t a b
cong_eq t a b e = subst (λ (x : ℤ). Cong t a x) e (cong_refl t a)

minus_by : (T Q A : ℤ) → A ≡ T *ℤ Q +ℤ T +ℤ negsuc 0 → A ≡ negsuc 0 +ℤ T *ℤ (Q +ℤ pos 1)
minus_by T Q A e = rw (z_mul_add T Q (pos 1), z_mul_one T) (omega (arith, lines, e))

up_down : (z : ℤ) → z ≡ (z +ℤ pos 1) +ℤ negsuc 0
up_down z = omega (arith, lines)

pub minus_one : (t a : ℕ) → 0 < t → a % t ≡ t - 1 → Cong t (pos a) (negsuc 0)
minus_one t a h e = record { by = pos (a / t) +ℤ pos 1; is = minus_by (pos t) (pos (a / t)) (pos a) (at_quotient t a (a / t) h (omega arith)) }
  where
    at_quotient : (t a q : ℕ) → 0 < t → t * q + (t - 1) ≡ a → pos a ≡ pos t *ℤ pos q +ℤ pos t +ℤ negsuc 0
    at_quotient t a q h e = let d : t * q + t ≡ a + 1 = omega arith in rw d (up_down (pos a))

pub rem_nat : (M a : ℕ) → rem M (pos a) ≡ a % M
unfolding rem
rem_nat M a = refl

-- the remainder of a sum and of a product, from those of its parts
pub rem-add : (t : ℕ) (x y : ℤ) → 0 < t → rem t (x +ℤ y) ≡ (rem t x + rem t y) % t
rem-add t x y h =
    rem_cong t (x +ℤ y) (pos (rem t x) +ℤ pos (rem t y)) h (cong_add t x (pos (rem t x)) y (pos (rem t y)) (cong_sym t (pos (rem t x)) x (cong_self t x h)) (cong_sym t (pos (rem t y)) y (cong_self t y h)))
    ∙ rem_nat t (rem t x + rem t y)

pub rem-mul : (t : ℕ) (x y : ℤ) → 0 < t → rem t (x *ℤ y) ≡ (rem t x * rem t y) % t
rem-mul t x y h =
    rem_cong t (x *ℤ y) (pos (rem t x) *ℤ pos (rem t y)) h (cong_mul t x (pos (rem t x)) y (pos (rem t y)) (cong_sym t (pos (rem t x)) x (cong_self t x h)) (cong_sym t (pos (rem t y)) y (cong_self t y h)))
    ∙ rem_nat t (rem t x * rem t y)

pub rem-mul_second : (t : ℕ) (x y : ℤ) → 0 < t → rem t (x *ℤ y) ≡ rem t (x *ℤ pos (rem t y))
rem-mul_second t x y h = rem_cong t (x *ℤ y) (x *ℤ pos (rem t y)) h (cong_mul t x x y (pos (rem t y)) (cong_refl t x) (cong_sym t (pos (rem t y)) y (cong_self t y h)))

-- the remainder and the quotient of the program's numbers
pub rem_is : (q : ℕ) (z : ℤ) → int_rem_euclid z (pos q) ≡ pos (rem q z)
unfolding rem
rem_is q (pos a) = refl
rem_is q (negsuc a) = ap pos (omega arith)

pub quo_is : (q : ℕ) (z : ℤ) → int_div_euclid z (pos q) ≡ quo q z
unfolding quo
quo_is q (pos a) = refl
quo_is q (negsuc a) = refl

pub rem-neg : (t : ℕ) (x : ℤ) → 0 < t → rem t (neg_ℤ x) ≡ (t - rem t x) % t
rem-neg t x h =
    let r : ℕ = rem t x in
    let c : Cong t (neg_ℤ (pos r)) (pos (t - r)) = record { by = negsuc 0; is = rw (z_mul_minus (pos t)) (down t r (rem-lt t x h)) } in
    rem_cong t (neg_ℤ x) (pos (t - r)) h (cong_trans t (neg_ℤ x) (neg_ℤ (pos r)) (pos (t - r)) (cong_neg t x (pos r) (cong_sym t (pos r) x (cong_self t x h))) c) ∙ rem_nat t (t - r)
  where
    down : (t r : ℕ) → r < t → neg_ℤ (pos r) ≡ pos (t - r) +ℤ neg_ℤ (pos t)
    down t r h = omega (arith, lines)
