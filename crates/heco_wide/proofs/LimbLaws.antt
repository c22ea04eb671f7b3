-- Products of polynomials by those of their limbs.
use Prim.Native.Nat.{ℕ, zero, suc, ◌+◌, ◌-◌, ◌*◌, ◌^◌, ◌<◌, ◌≤◌}
use lib.IntN.{ℤ, pos, ◌+ℤ◌, ◌*ℤ◌, nat_abs}
use mathlib.Core.List.{List}
use mathlib.Core.Path.{◌≡◌, refl, sym, ap, ◌∙◌}
use native.Mathlib.Omega.{arith}
use Rattle.std.proofs.lemmas.Int.{unsigned_abs-mul}
use Rattle.heco_ring.proofs.Integers.{lines, monomials}
use Rattle.heco_ring.proofs.Linear.{at-plus, at-times}
use Rattle.heco_ring.proofs.Pairing.{at-table}
use Rattle.heco_ring.proofs.RingLaws.{times_comm}
use Rattle.heco_ring.proofs.Sizes.{abs_add, times_size, weight-le}
use Rattle.heco_ring.specs.Ring.{at, plus, table, times, times_at}
use Rattle.heco_ring.specs.Sizes.{weight}
use Rattle.heco_transform.proofs.HalfLaws.{times_parts}
use Rattle.heco_wide.specs.Limbs.{Limbs, IsLimb, AreLimbsOf, limb_part}

-- ---- sizes
product_small : (n k : ℕ) (a b : List ℤ) → n ≤ 1024 → IsLimb n a → IsLimb n b → k < n → nat_abs (at (times n a b) k) ≤ 2 ^ 48
product_small n k a b h p q l =
    let w : weight n a ≤ n * 2 ^ 19 = weight-le n (2 ^ 19) a (p.each) in
    let t : nat_abs (times_at n a b k) ≤ weight n a * 2 ^ 19 = times_size n a b (2 ^ 19) k (q.each) l in
    rw (at-times n a b k l) (omega (arith, w, t))

two_small : (n k A B : ℕ) (a b : List ℤ) → k < n → nat_abs (at a k) ≤ A → nat_abs (at b k) ≤ B → nat_abs (at (plus n a b) k) ≤ A + B
two_small n k A B a b l p q = rw (at-plus n a b k l) (omega (arith, abs_add (at a k) (at b k), p, q))

-- limbs are small
pub record AreSmall (n : ℕ) (a : Limbs) : Type 0 where
  pub low : IsLimb n a.low
  pub middle : IsLimb n a.middle
  pub high : IsLimb n a.high

pub part_small : (n k j : ℕ) (a b : Limbs) → n ≤ 1024 → AreSmall n a → AreSmall n b → k < n → nat_abs (at (limb_part n j a b) k) ≤ 3 * 2 ^ 48
unfolding limb_part
part_small n k zero a b h p q l = omega (arith, product_small n k a.low b.low h p.low q.low l)
part_small n k (suc zero) a b h p q l = omega (arith, two_small n k (2 ^ 48) (2 ^ 48) (times n a.low b.middle) (times n a.middle b.low) l (product_small n k a.low b.middle h p.low q.middle l) (product_small n k a.middle b.low h p.middle q.low l))
part_small n k (suc (suc zero)) a b h p q l = omega (
  arith,
  two_small n k (2 ^ 48 + 2 ^ 48) (2 ^ 48) (plus n (times n a.low b.high) (times n a.high b.low)) (times n a.middle b.middle) l
      (two_small n k (2 ^ 48) (2 ^ 48) (times n a.low b.high) (times n a.high b.low) l (product_small n k a.low b.high h p.low q.high l) (product_small n k a.high b.low h p.high q.low l))
      (product_small n k a.middle b.middle h p.middle q.middle l),
)
part_small n k (suc (suc (suc zero))) a b h p q l = omega (arith, two_small n k (2 ^ 48) (2 ^ 48) (times n a.middle b.high) (times n a.high b.middle) l (product_small n k a.middle b.high h p.middle q.high l) (product_small n k a.high b.middle h p.high q.middle l))
part_small n k (suc (suc (suc (suc j)))) a b h p q l = omega (arith, product_small n k a.high b.high h p.high q.high l)

-- ---- five parts, the highest first
-- the i highest of the parts 4, 3, 2, 1 and 0, joined in base 2^19
pub joined : (ℕ → ℤ) → ℕ → ℤ
joined s zero = pos 0
joined s (suc i) = joined s i *ℤ pos (2 ^ 19) +ℤ s (4 - i)

step_small : (x y : ℤ) (B : ℕ) → nat_abs x ≤ B → nat_abs y ≤ 6 * 2 ^ 48 → nat_abs (x *ℤ pos (2 ^ 19) +ℤ y) ≤ B * 2 ^ 19 + 6 * 2 ^ 48
step_small x y B h g = omega (arith, abs_add (x *ℤ pos (2 ^ 19)) y, unsigned_abs-mul x (pos (2 ^ 19)), h, g)

-- a bound of i joined parts
bound : ℕ → ℕ
bound zero = 0
bound (suc i) = bound i * 2 ^ 19 + 6 * 2 ^ 48

joined_bound : (s : ℕ → ℤ) (i : ℕ) → ((j : ℕ) → nat_abs (s j) ≤ 6 * 2 ^ 48) → nat_abs (joined s i) ≤ bound i
unfolding joined bound
joined_bound s zero h = omega arith
joined_bound s (suc i) h = step_small (joined s i) (s (4 - i)) (bound i) (joined_bound s i h) (h (4 - i))

bound_small : (i : ℕ) → i < 5 → bound i ≤ 7 * 2 ^ 105
unfolding bound
bound_small zero h = omega arith
bound_small (suc zero) h = omega arith
bound_small (suc (suc zero)) h = omega arith
bound_small (suc (suc (suc zero))) h = omega arith
bound_small (suc (suc (suc (suc zero)))) h = omega arith
bound_small (suc (suc (suc (suc (suc i))))) h = absurd (omega arith)

pub joined_small : (s : ℕ → ℤ) (i : ℕ) → i < 5 → ((j : ℕ) → nat_abs (s j) ≤ 6 * 2 ^ 48) → nat_abs (joined s i) ≤ 7 * 2 ^ 105
joined_small s i l h = omega (arith, joined_bound s i h, bound_small i l)

pub joined_none : (s : ℕ → ℤ) (x : ℤ) → x ≡ pos 0 → x ≡ joined s 0
unfolding joined
joined_none s x e = e

pub joined_next : (s : ℕ → ℤ) (i : ℕ) (x y v : ℤ) → x ≡ joined s i → y ≡ s (4 - i) → v ≡ x *ℤ pos (2 ^ 19) +ℤ y → v ≡ joined s (i + 1)
unfolding joined
joined_next s i x y v ex ey e = let m : i + 1 ≡ suc i = omega arith in rw m (e ∙ rw (ex, ey) refl)

-- five parts in base c
places : ℤ → ℤ → ℤ → ℤ → ℤ → ℤ → ℤ
places c v w x y z = (((v *ℤ c +ℤ w) *ℤ c +ℤ x) *ℤ c +ℤ y) *ℤ c +ℤ z

five : (s : ℕ → ℤ) → joined s 5 ≡ places (pos (2 ^ 19)) (s 4) (s 3) (s 2) (s 1) (s 0)
unfolding joined places
five s = ap (λ (v : ℤ). (((v *ℤ pos (2 ^ 19) +ℤ s 3) *ℤ pos (2 ^ 19) +ℤ s 2) *ℤ pos (2 ^ 19) +ℤ s 1) *ℤ pos (2 ^ 19) +ℤ s 0) (from_nothing (s 4))
  where
    from_nothing : (z : ℤ) → pos 0 *ℤ pos (2 ^ 19) +ℤ z ≡ z
    from_nothing z = omega (arith, lines)

places_plus : (c v w x y z v' w' x' y' z' : ℤ) → places c (v +ℤ v') (w +ℤ w') (x +ℤ x') (y +ℤ y') (z +ℤ z') ≡ places c v w x y z +ℤ places c v' w' x' y' z'
unfolding places
places_plus c v w x y z v' w' x' y' z' = simp monomials (omega (arith, lines))

pub joined_plus : (s t : ℕ → ℤ) → joined (λ j. s j +ℤ t j) 5 ≡ joined s 5 +ℤ joined t 5
joined_plus s t = rw (five (λ j. s j +ℤ t j), five s, five t) (places_plus (pos (2 ^ 19)) (s 4) (s 3) (s 2) (s 1) (s 0) (t 4) (t 3) (t 2) (t 1) (t 0))

-- ---- a product by its parts
upper : ℕ → Limbs → List ℤ
upper n b = table n (λ j. at b.middle j +ℤ pos (2 ^ 19) *ℤ at b.high j)

at-upper : (n j : ℕ) (b : Limbs) → j < n → at (upper n b) j ≡ at b.middle j +ℤ pos (2 ^ 19) *ℤ at b.high j
unfolding upper
at-upper n j b l = at-table n (λ j. at b.middle j +ℤ pos (2 ^ 19) *ℤ at b.high j) j l

limbs_right : (n k : ℕ) (d B : List ℤ) (b : Limbs) → AreLimbsOf n B b → k < n →
    at (times n d B) k ≡ at (times n d b.low) k +ℤ pos (2 ^ 19) *ℤ (at (times n d b.middle) k +ℤ pos (2 ^ 19) *ℤ at (times n d b.high) k)
limbs_right n k d B b e h =
    times_parts n k (pos (2 ^ 19)) d B b.low (upper n b) h (λ j l. e.each j l ∙ ap (λ (y : ℤ). at b.low j +ℤ pos (2 ^ 19) *ℤ y) (sym (at-upper n j b l)))
    ∙ ap (λ (y : ℤ). at (times n d b.low) k +ℤ pos (2 ^ 19) *ℤ y) (times_parts n k (pos (2 ^ 19)) d (upper n b) b.middle b.high h (λ j l. at-upper n j b l))

limbs_left : (n k : ℕ) (d A : List ℤ) (a : Limbs) → AreLimbsOf n A a → k < n →
    at (times n A d) k ≡ at (times n a.low d) k +ℤ pos (2 ^ 19) *ℤ (at (times n a.middle d) k +ℤ pos (2 ^ 19) *ℤ at (times n a.high d) k)
limbs_left n k d A a e h = rw (times_comm n A d, times_comm n a.low d, times_comm n a.middle d, times_comm n a.high d) (limbs_right n k d A a e h)

-- ---- the parts by name
pub part_is_0 : (n : ℕ) (a b : Limbs) → limb_part n 0 a b ≡ times n a.low b.low
unfolding limb_part
part_is_0 n a b = refl

pub part_is_1 : (n : ℕ) (a b : Limbs) → limb_part n 1 a b ≡ plus n (times n a.low b.middle) (times n a.middle b.low)
unfolding limb_part
part_is_1 n a b = refl

pub part_is_2 : (n : ℕ) (a b : Limbs) → limb_part n 2 a b ≡ plus n (plus n (times n a.low b.high) (times n a.high b.low)) (times n a.middle b.middle)
unfolding limb_part
part_is_2 n a b = refl

pub part_is_3 : (n : ℕ) (a b : Limbs) → limb_part n 3 a b ≡ plus n (times n a.middle b.high) (times n a.high b.middle)
unfolding limb_part
part_is_3 n a b = refl

pub part_is_4 : (n j : ℕ) (a b : Limbs) → 4 ≤ j → limb_part n j a b ≡ times n a.high b.high
unfolding limb_part
part_is_4 n zero a b h = absurd (omega arith)
part_is_4 n (suc zero) a b h = absurd (omega arith)
part_is_4 n (suc (suc zero)) a b h = absurd (omega arith)
part_is_4 n (suc (suc (suc zero))) a b h = absurd (omega arith)
part_is_4 n (suc (suc (suc (suc j)))) a b h = refl

-- the coefficients of the parts
part_0 : (n k : ℕ) (a b : Limbs) → at (limb_part n 0 a b) k ≡ at (times n a.low b.low) k
part_0 n k a b = rw part_is_0 refl

part_1 : (n k : ℕ) (a b : Limbs) → k < n → at (limb_part n 1 a b) k ≡ at (times n a.low b.middle) k +ℤ at (times n a.middle b.low) k
part_1 n k a b h = rw part_is_1 (at-plus n (times n a.low b.middle) (times n a.middle b.low) k h)

part_2 : (n k : ℕ) (a b : Limbs) → k < n → at (limb_part n 2 a b) k ≡ at (times n a.low b.high) k +ℤ at (times n a.high b.low) k +ℤ at (times n a.middle b.middle) k
part_2 n k a b h = rw part_is_2 (at-plus n (plus n (times n a.low b.high) (times n a.high b.low)) (times n a.middle b.middle) k h ∙ ap (λ (y : ℤ). y +ℤ at (times n a.middle b.middle) k) (at-plus n (times n a.low b.high) (times n a.high b.low) k h))

part_3 : (n k : ℕ) (a b : Limbs) → k < n → at (limb_part n 3 a b) k ≡ at (times n a.middle b.high) k +ℤ at (times n a.high b.middle) k
part_3 n k a b h = rw part_is_3 (at-plus n (times n a.middle b.high) (times n a.high b.middle) k h)

part_4 : (n k : ℕ) (a b : Limbs) → at (limb_part n 4 a b) k ≡ at (times n a.high b.high) k
part_4 n k a b = let four : 4 ≤ 4 = omega arith in rw part_is_4 refl

nine : (c a b d e f g h i j : ℤ) → (a +ℤ c *ℤ (b +ℤ c *ℤ d)) +ℤ c *ℤ ((e +ℤ c *ℤ (f +ℤ c *ℤ g)) +ℤ c *ℤ (h +ℤ c *ℤ (i +ℤ c *ℤ j))) ≡ places c j (i +ℤ g) (h +ℤ d +ℤ f) (e +ℤ b) a
unfolding places
nine c a b d e f g h i j = simp monomials (omega (arith, lines))

pub product_joined : (n k : ℕ) (A B : List ℤ) (a b : Limbs) → AreLimbsOf n A a → AreLimbsOf n B b → k < n → joined (λ j. at (limb_part n j a b) k) 5 ≡ times_at n A B k
product_joined n k A B a b p q h =
    let c : ℤ = pos (2 ^ 19) in
    let T : List ℤ → List ℤ → ℤ = λ x y. at (times n x y) k in
    let e : at (times n A B) k ≡ places c (T a.high b.high) (T a.middle b.high +ℤ T a.high b.middle) (T a.low b.high +ℤ T a.high b.low +ℤ T a.middle b.middle) (T a.low b.middle +ℤ T a.middle b.low) (T a.low b.low) =
    limbs_right n k A B b q h
    ∙ rw (limbs_left n k b.low A a p h, limbs_left n k b.middle A a p h, limbs_left n k b.high A a p h)
    (nine c (T a.low b.low) (T a.middle b.low) (T a.high b.low) (T a.low b.middle) (T a.middle b.middle) (T a.high b.middle) (T a.low b.high) (T a.middle b.high) (T a.high b.high)) in
    let f : joined (λ j. at (limb_part n j a b) k) 5 ≡ at (times n A B) k =
    five (λ j. at (limb_part n j a b) k) ∙ rw (part_0 n k a b, part_1 n k a b h, part_2 n k a b h, part_3 n k a b h, part_4 n k a b) (sym e) in
    f ∙ at-times n A B k h

-- a sum that began with 0
pub at-first : (n k : ℕ) (a : List ℤ) → k < n → at (plus n (table n (λ k. pos 0)) a) k ≡ at a k
at-first n k a h = at-plus n (table n (λ k. pos 0)) a k h ∙ rw (at-table n (λ k. pos 0) k h) (zero_left (at a k))
  where
    zero_left : (z : ℤ) → pos 0 +ℤ z ≡ z
    zero_left z = omega (arith, lines)
