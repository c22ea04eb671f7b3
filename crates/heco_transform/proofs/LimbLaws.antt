-- Products of polynomials of words by their limbs.
use Prim.Native.Nat.{ℕ, ◌+◌, ◌-◌, ◌*◌, ◌/◌, ◌%◌, ◌^◌, ◌<◌, ◌≤◌}
use lib.Bits.{bit_and}
use lib.IntN.{ℤ, pos, ◌+ℤ◌, ◌*ℤ◌, nat_abs}
use lib.ListN.{length, get_or, set}
use mathlib.Core.List.{List}
use mathlib.Core.Logic.{◌≢◌}
use mathlib.Core.Path.{◌≡◌, refl, sym, ap, ◌∙◌}
use native.Mathlib.Omega.{arith}
use Rattle.std.proofs.Common.{below_more}
use Rattle.std.proofs.lemmas.List.{get_or-set_same, get_or-set_other}
use Rattle.heco_ring.proofs.Integers.{lines, z_mul_assoc, monomials}
use Rattle.heco_ring.proofs.Linear.{at-plus, at-times}
use Rattle.heco_ring.proofs.Pairing.{at-table}
use Rattle.heco_ring.proofs.Remainders.{cong_add, cong_mul, cong_refl, cong_trans, cong_sym, rem_cong, rem_nat}
use Rattle.heco_ring.proofs.Reduced.{filled}
use Rattle.heco_ring.proofs.RingLaws.{times_comm}
use Rattle.heco_ring.proofs.Sizes.{abs_add, times_size, weight-le}
use Rattle.heco_ring.proofs.Wrapping.{at-wholes, mask_58}
use Rattle.heco_ring.specs.Remainders.{Cong, rem, reduced}
use Rattle.heco_ring.specs.Ring.{at, wholes, plus, table, times_at, times}
use Rattle.heco_ring.specs.Sizes.{weight}
use Rattle.heco_transform.specs.Images.{bit_fields}
use Rattle.heco_transform.specs.Limbs.{IsLimb, AreLimbs, HasLimbs}
use Rattle.heco_transform.specs.declared.product.Limbs.{Limbs}
use Rattle.heco_transform.proofs.HalfLaws.{times_parts}
use Rattle.heco_transform.proofs.Parts.{parts_at, parts_below}
use Rattle.heco_transform.proofs.Words.{wrapped_cong}

-- ---- sizes
limb_size : (n k : ℕ) (a b : List ℤ) → n ≤ 1024 → IsLimb n a → IsLimb n b → k < n → nat_abs (at (times n a b) k) ≤ 2 ^ 50
limb_size n k a b h p q l =
    let w : weight n a ≤ n * 2 ^ 20 = weight-le n (2 ^ 20) a (p.each) in
    let t : nat_abs (times_at n a b k) ≤ weight n a * 2 ^ 20 = times_size n a b (2 ^ 20) k (q.each) l in
    rw (at-times n a b k l) (omega (arith, w, t))

pub one_size : (n k : ℕ) (a b : List ℤ) → n ≤ 1024 → IsLimb n a → IsLimb n b → k < n → nat_abs (at (plus n (table n (λ k. pos 0)) (times n a b)) k) ≤ 2 ^ 50
one_size n k a b h p q l = rw (at-plus n (table n (λ k. pos 0)) (times n a b) k l, at-table n (λ k. pos 0) k l)
    (let s : nat_abs (pos 0) ≡ 0 = refl in omega (arith, s, abs_add (pos 0) (at (times n a b) k), limb_size n k a b h p q l))

pub more_size : (n k c : ℕ) (s a b : List ℤ) → n ≤ 1024 → IsLimb n a → IsLimb n b → k < n → nat_abs (at s k) ≤ c → nat_abs (at (plus n s (times n a b)) k) ≤ c + 2 ^ 50
more_size n k c s a b h p q l g = rw (at-plus n s (times n a b) k l) (omega (arith, abs_add (at s k) (at (times n a b) k), limb_size n k a b h p q l, g))

pub parts_limb : (s n : ℕ) (a : List ℕ) → length a ≡ n → IsLimb n (wholes (bit_fields s 20 a))
parts_limb s n a e = record { each = λ k l. rw (at-wholes (bit_fields s 20 a) k) (let h : k < length a = omega arith in omega (arith, parts_below s 20 k a h)) }

pub limbs_of : (depth : ℕ) (a : List ℕ) (l : Limbs) → AreLimbs depth a l → HasLimbs depth (wholes (bit_fields 0 20 a)) (wholes (bit_fields 20 20 a)) (wholes (bit_fields 40 20 a)) l
limbs_of depth a l h = record {
  low = h.low;
  middle = h.middle;
  high = h.high;
  low_small = parts_limb 0 (2 ^ depth) a h.long;
  middle_small = parts_limb 20 (2 ^ depth) a h.long;
  high_small = parts_limb 40 (2 ^ depth) a h.long;
}

-- ---- words of 58 bits
wrapped : (x y z : ℕ) → ((x + y * 2 ^ 20 % 2 ^ 64) % 2 ^ 64 + z * 2 ^ 40 % 2 ^ 64) % 2 ^ 64 ≡ (x + 2 ^ 20 * y + 2 ^ 40 * z) % 2 ^ 64
wrapped x y z = omega arith

pub whole_is : (x y z : ℕ) → bit_and (((x + y * 2 ^ 20 % 2 ^ 64) % 2 ^ 64 + z * 2 ^ 40 % 2 ^ 64) % 2 ^ 64) (2 ^ 58 - 1) ≡ rem (2 ^ 58) (pos x +ℤ pos (2 ^ 20) *ℤ pos y +ℤ pos (2 ^ 40) *ℤ pos z)
whole_is x y z = mask_58 (((x + y * 2 ^ 20 % 2 ^ 64) % 2 ^ 64 + z * 2 ^ 40 % 2 ^ 64) % 2 ^ 64) (pos x +ℤ pos (2 ^ 20) *ℤ pos y +ℤ pos (2 ^ 40) *ℤ pos z) (wrapped x y z ∙ sym (rem_nat (2 ^ 64) (x + 2 ^ 20 * y + 2 ^ 40 * z)))

pub record Limbed (i n : ℕ) (y z old new : List ℕ) : Type 0 where
  pub done : (k : ℕ) → k < i → get_or new k 0 ≡ rem (2 ^ 58) (pos (get_or old k 0) +ℤ pos (2 ^ 20) *ℤ pos (get_or y k 0) +ℤ pos (2 ^ 40) *ℤ pos (get_or z k 0))
  pub rest : (k : ℕ) → i ≤ k → k < n → get_or new k 0 ≡ get_or old k 0

pub limbed_more : (i n v : ℕ) (y z old new : List ℕ) → i < n → length new ≡ n → Limbed i n y z old new → v ≡ rem (2 ^ 58) (pos (get_or new i 0) +ℤ pos (2 ^ 20) *ℤ pos (get_or y i 0) +ℤ pos (2 ^ 40) *ℤ pos (get_or z i 0)) → Limbed (i + 1) n y z old (set new i v)
limbed_more i n v y z old new h e s d =
    let inside : i < length new = omega arith in
    let g : get_or new i 0 ≡ get_or old i 0 = s.rest i (omega arith) h in
    record {
      done = below_more _ _ (λ k l. let ne : k ≢ i = omega arith in rw get_or-set_other (s.done k l)) (rw get_or-set_same (rw g at d));
      rest = λ k q l. let ne : k ≢ i = omega arith in rw get_or-set_other (s.rest k (omega arith) l);
    }

-- ---- a product, from those of the limbs
word_limbs : (x : ℕ) → x < 2 ^ 58 → x ≡ x / 2 ^ 0 % 2 ^ 20 + 2 ^ 20 * (x / 2 ^ 20 % 2 ^ 20 + 2 ^ 20 * (x / 2 ^ 40 % 2 ^ 20))
word_limbs x h = omega arith

-- the two upper limbs together
upper : ℕ → List ℕ → List ℤ
upper n K = table n (λ j. at (wholes (bit_fields 20 20 K)) j +ℤ pos (2 ^ 20) *ℤ at (wholes (bit_fields 40 20 K)) j)

at-upper : (n j : ℕ) (K : List ℕ) → j < n → at (upper n K) j ≡ at (wholes (bit_fields 20 20 K)) j +ℤ pos (2 ^ 20) *ℤ at (wholes (bit_fields 40 20 K)) j
unfolding upper
at-upper n j K l = at-table n (λ j. at (wholes (bit_fields 20 20 K)) j +ℤ pos (2 ^ 20) *ℤ at (wholes (bit_fields 40 20 K)) j) j l

wholes_limbs : (n j : ℕ) (K : List ℕ) → length K ≡ n → j < n → get_or K j 0 < 2 ^ 58 → at (wholes K) j ≡ at (wholes (bit_fields 0 20 K)) j +ℤ pos (2 ^ 20) *ℤ at (upper n K) j
wholes_limbs n j K e h b =
    let inside : j < length K = omega arith in
    rw (at-upper n j K h, at-wholes K j, at-wholes (bit_fields 0 20 K) j, at-wholes (bit_fields 20 20 K) j, at-wholes (bit_fields 40 20 K) j, parts_at 0 20 j K inside, parts_at 20 20 j K inside, parts_at 40 20 j K inside) (ap pos (word_limbs (get_or K j 0) b))

-- one side by its limbs
limbs_right : (n k : ℕ) (d : List ℤ) (K : List ℕ) → length K ≡ n → ((j : ℕ) → j < n → get_or K j 0 < 2 ^ 58) → k < n →
    at (times n d (wholes K)) k ≡ at (times n d (wholes (bit_fields 0 20 K))) k +ℤ pos (2 ^ 20) *ℤ (at (times n d (wholes (bit_fields 20 20 K))) k +ℤ pos (2 ^ 20) *ℤ at (times n d (wholes (bit_fields 40 20 K))) k)
limbs_right n k d K e b h =
    times_parts n k (pos (2 ^ 20)) d (wholes K) (wholes (bit_fields 0 20 K)) (upper n K) h (λ j l. wholes_limbs n j K e l (b j l))
    ∙ ap (λ (y : ℤ). at (times n d (wholes (bit_fields 0 20 K))) k +ℤ pos (2 ^ 20) *ℤ y) (times_parts n k (pos (2 ^ 20)) d (upper n K) (wholes (bit_fields 20 20 K)) (wholes (bit_fields 40 20 K)) h (λ j l. at-upper n j K l))

limbs_left : (n k : ℕ) (d : List ℤ) (K : List ℕ) → length K ≡ n → ((j : ℕ) → j < n → get_or K j 0 < 2 ^ 58) → k < n →
    at (times n (wholes K) d) k ≡ at (times n (wholes (bit_fields 0 20 K)) d) k +ℤ pos (2 ^ 20) *ℤ (at (times n (wholes (bit_fields 20 20 K)) d) k +ℤ pos (2 ^ 20) *ℤ at (times n (wholes (bit_fields 40 20 K)) d) k)
limbs_left n k d K e b h = rw (times_comm n (wholes K) d, times_comm n (wholes (bit_fields 0 20 K)) d, times_comm n (wholes (bit_fields 20 20 K)) d, times_comm n (wholes (bit_fields 40 20 K)) d) (limbs_right n k d K e b h)

nine : (c a b d e f g h i j : ℤ) → (a +ℤ c *ℤ (b +ℤ c *ℤ d)) +ℤ c *ℤ ((e +ℤ c *ℤ (f +ℤ c *ℤ g)) +ℤ c *ℤ (h +ℤ c *ℤ (i +ℤ c *ℤ j))) ≡ (a +ℤ c *ℤ (e +ℤ b) +ℤ (c *ℤ c) *ℤ ((h +ℤ f) +ℤ d)) +ℤ (c *ℤ c *ℤ c) *ℤ (g +ℤ i +ℤ c *ℤ j)
nine c a b d e f g h i j = simp monomials (omega (arith, lines))

zero_left : (z : ℤ) → pos 0 +ℤ z ≡ z
zero_left z = omega (arith, lines)

-- the part past 2^60 does not count
past : (v w : ℤ) → Cong (2 ^ 58) v (v +ℤ pos (2 ^ 20) *ℤ pos (2 ^ 20) *ℤ pos (2 ^ 20) *ℤ w)
past v w = cong_sym (2 ^ 58) (v +ℤ pos (2 ^ 60) *ℤ w) v (record { by = pos 4 *ℤ w; is = ap (λ (y : ℤ). v +ℤ y) (z_mul_assoc (pos (2 ^ 58)) (pos 4) w) })

combine : (x y z a b d e f h w : ℤ) → Cong (2 ^ 58) x a → Cong (2 ^ 58) y (e +ℤ b) → Cong (2 ^ 58) z ((h +ℤ f) +ℤ d) →
    Cong (2 ^ 58) (x +ℤ pos (2 ^ 20) *ℤ y +ℤ pos (2 ^ 40) *ℤ z) ((a +ℤ pos (2 ^ 20) *ℤ (e +ℤ b) +ℤ (pos (2 ^ 20) *ℤ pos (2 ^ 20)) *ℤ ((h +ℤ f) +ℤ d)) +ℤ (pos (2 ^ 20) *ℤ pos (2 ^ 20) *ℤ pos (2 ^ 20)) *ℤ w)
combine x y z a b d e f h w cx cy cz =
    let v : ℤ = a +ℤ pos (2 ^ 20) *ℤ (e +ℤ b) +ℤ pos (2 ^ 40) *ℤ ((h +ℤ f) +ℤ d) in
    cong_trans (2 ^ 58) (x +ℤ pos (2 ^ 20) *ℤ y +ℤ pos (2 ^ 40) *ℤ z) v (v +ℤ pos (2 ^ 20) *ℤ pos (2 ^ 20) *ℤ pos (2 ^ 20) *ℤ w)
    (cong_add (2 ^ 58) (x +ℤ pos (2 ^ 20) *ℤ y) (a +ℤ pos (2 ^ 20) *ℤ (e +ℤ b)) (pos (2 ^ 40) *ℤ z) (pos (2 ^ 40) *ℤ ((h +ℤ f) +ℤ d))
    (cong_add (2 ^ 58) x a (pos (2 ^ 20) *ℤ y) (pos (2 ^ 20) *ℤ (e +ℤ b)) cx (cong_mul (2 ^ 58) (pos (2 ^ 20)) (pos (2 ^ 20)) y (e +ℤ b) (cong_refl (2 ^ 58) (pos (2 ^ 20))) cy))
    (cong_mul (2 ^ 58) (pos (2 ^ 40)) (pos (2 ^ 40)) z ((h +ℤ f) +ℤ d) (cong_refl (2 ^ 58) (pos (2 ^ 40))) cz))
    (past v w)

-- a coefficient of a product, by those of the limbs
product_limbs : (n k : ℕ) (A B : List ℕ) → length A ≡ n → length B ≡ n → ((j : ℕ) → j < n → get_or A j 0 < 2 ^ 58) → ((j : ℕ) → j < n → get_or B j 0 < 2 ^ 58) → k < n → (x y z : ℤ) →
    Cong (2 ^ 58) x (at (times n (wholes (bit_fields 0 20 A)) (wholes (bit_fields 0 20 B))) k) →
    Cong (2 ^ 58) y (at (times n (wholes (bit_fields 0 20 A)) (wholes (bit_fields 20 20 B))) k +ℤ at (times n (wholes (bit_fields 20 20 A)) (wholes (bit_fields 0 20 B))) k) →
    Cong (2 ^ 58) z ((at (times n (wholes (bit_fields 0 20 A)) (wholes (bit_fields 40 20 B))) k +ℤ at (times n (wholes (bit_fields 20 20 A)) (wholes (bit_fields 20 20 B))) k) +ℤ at (times n (wholes (bit_fields 40 20 A)) (wholes (bit_fields 0 20 B))) k) →
    Cong (2 ^ 58) (x +ℤ pos (2 ^ 20) *ℤ y +ℤ pos (2 ^ 40) *ℤ z) (at (times n (wholes A) (wholes B)) k)
product_limbs n k A B ea eb ba bb h x y z cx cy cz =
    let T : ℕ → ℕ → ℤ = λ i j. at (times n (wholes (bit_fields i 20 A)) (wholes (bit_fields j 20 B))) k in
    let c : ℤ = pos (2 ^ 20) in
    let e : at (times n (wholes A) (wholes B)) k ≡ (T 0 0 +ℤ c *ℤ (T 0 20 +ℤ T 20 0) +ℤ (c *ℤ c) *ℤ ((T 0 40 +ℤ T 20 20) +ℤ T 40 0)) +ℤ (c *ℤ c *ℤ c) *ℤ (T 40 20 +ℤ T 20 40 +ℤ c *ℤ T 40 40) =
    limbs_right n k (wholes A) B eb bb h
    ∙ rw (limbs_left n k (wholes (bit_fields 0 20 B)) A ea ba h, limbs_left n k (wholes (bit_fields 20 20 B)) A ea ba h, limbs_left n k (wholes (bit_fields 40 20 B)) A ea ba h)
    (nine c (T 0 0) (T 20 0) (T 40 0) (T 0 20) (T 20 20) (T 40 20) (T 0 40) (T 20 40) (T 40 40)) in
    rw e (combine x y z (T 0 0) (T 20 0) (T 40 0) (T 0 20) (T 20 20) (T 0 40) (T 40 20 +ℤ T 20 40 +ℤ c *ℤ T 40 40) cx cy cz)

at-first : (n k : ℕ) (a : List ℤ) → k < n → at (plus n (table n (λ k. pos 0)) a) k ≡ at a k
at-first n k a h = at-plus n (table n (λ k. pos 0)) a k h ∙ rw (at-table n (λ k. pos 0) k h) (zero_left (at a k))

pub product_all : (n : ℕ) (A B out y z new : List ℕ) → length new ≡ n → length A ≡ n → length B ≡ n → ((j : ℕ) → j < n → get_or A j 0 < 2 ^ 58) → ((j : ℕ) → j < n → get_or B j 0 < 2 ^ 58) →
    out ≡ reduced (2 ^ 64) n (plus n (table n (λ k. pos 0)) (times n (wholes (bit_fields 0 20 A)) (wholes (bit_fields 0 20 B)))) →
    y ≡ reduced (2 ^ 64) n (plus n (plus n (table n (λ k. pos 0)) (times n (wholes (bit_fields 0 20 A)) (wholes (bit_fields 20 20 B)))) (times n (wholes (bit_fields 20 20 A)) (wholes (bit_fields 0 20 B)))) →
    z ≡ reduced (2 ^ 64) n (plus n (plus n (plus n (table n (λ k. pos 0)) (times n (wholes (bit_fields 0 20 A)) (wholes (bit_fields 40 20 B)))) (times n (wholes (bit_fields 20 20 A)) (wholes (bit_fields 20 20 B)))) (times n (wholes (bit_fields 40 20 A)) (wholes (bit_fields 0 20 B)))) →
    ((k : ℕ) → k < n → get_or new k 0 ≡ rem (2 ^ 58) (pos (get_or out k 0) +ℤ pos (2 ^ 20) *ℤ pos (get_or y k 0) +ℤ pos (2 ^ 40) *ℤ pos (get_or z k 0))) → new ≡ reduced (2 ^ 58) n (times n (wholes A) (wholes B))
product_all n A B out y z new e ea eb ba bb eo ey ez f = filled (2 ^ 58) n (times n (wholes A) (wholes B)) new e (λ k l.
    let t1 = times n (wholes (bit_fields 0 20 A)) (wholes (bit_fields 20 20 B)) in
    let t2 = times n (wholes (bit_fields 20 20 A)) (wholes (bit_fields 0 20 B)) in
    let u1 = times n (wholes (bit_fields 0 20 A)) (wholes (bit_fields 40 20 B)) in
    let u2 = times n (wholes (bit_fields 20 20 A)) (wholes (bit_fields 20 20 B)) in
    let u3 = times n (wholes (bit_fields 40 20 A)) (wholes (bit_fields 0 20 B)) in
    let co = rw (at-first n k (times n (wholes (bit_fields 0 20 A)) (wholes (bit_fields 0 20 B))) l) at (wrapped_cong n k (plus n (table n (λ k. pos 0)) (times n (wholes (bit_fields 0 20 A)) (wholes (bit_fields 0 20 B)))) out eo l) in
    let cy = rw (at-plus n (plus n (table n (λ k. pos 0)) t1) t2 k l, at-first n k t1 l) at (wrapped_cong n k (plus n (plus n (table n (λ k. pos 0)) t1) t2) y ey l) in
    let cz = rw (at-plus n (plus n (plus n (table n (λ k. pos 0)) u1) u2) u3 k l, at-plus n (plus n (table n (λ k. pos 0)) u1) u2 k l, at-first n k u1 l) at (wrapped_cong n k (plus n (plus n (plus n (table n (λ k. pos 0)) u1) u2) u3) z ez l) in
    f k l ∙ rem_cong (2 ^ 58) (pos (get_or out k 0) +ℤ pos (2 ^ 20) *ℤ pos (get_or y k 0) +ℤ pos (2 ^ 40) *ℤ pos (get_or z k 0)) (at (times n (wholes A) (wholes B)) k) (omega arith)
    (product_limbs n k A B ea eb ba bb l (pos (get_or out k 0)) (pos (get_or y k 0)) (pos (get_or z k 0)) co cy cz))
