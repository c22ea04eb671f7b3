-- The pairing modulo t.
use Prim.Native.Nat.{ℕ, zero, suc, ◌<◌, ◌+◌, ◌*◌, ◌/◌, ◌%◌}
use lib.IntN.{ℤ, ◌*ℤ◌, neg_ℤ}
use mathlib.Core.List.{List}
use mathlib.Core.Path.{◌≡◌, sym, ◌∙◌, subst}
use native.Mathlib.Nat.{mod-eq_of_lt}
use native.Mathlib.Omega.{arith}
use Rattle.std.proofs.lemmas.Nat.{mod_below}
use Rattle.heco_ring.proofs.Integers.{z_mul_neg, z_mul_one, z_mul_zero}
use Rattle.heco_ring.proofs.Pairing.{sign_here, sign_else, sum_one, Flips, pair}
use Rattle.heco_ring.proofs.Remainders.{cong_mul, cong_refl, cong_sum, cong_neg, cong_trans, cong_sym, cong_eq}
use Rattle.heco_ring.proofs.RingLaws.{pair_twice, delta, Flips_delta, pair_turn}
use Rattle.heco_ring.proofs.Sums.{sum_ext, sum_neg}
use Rattle.heco_ring.specs.Remainders.{Cong}
use Rattle.heco_ring.specs.Ring.{sum_z, at, sign, times, turn}

-- the function that agrees with u below n and flips
unfoldable pub ext : ℕ → (ℕ → ℤ) → ℕ → ℤ
ext n u m = sum_z n (λ k. u k *ℤ delta n k m)

pub Flips_ext : (n : ℕ) (u : ℕ → ℤ) → Flips n (ext n u)
unfolding ext
Flips_ext n u = record {
  flips = λ m.
      sum_ext n (λ k. u k *ℤ delta n k (m + n)) (λ k. neg_ℤ (u k *ℤ delta n k m)) (λ k l. rw ((Flips_delta n k l).flips m, z_mul_neg (u k) (delta n k m)))
      ∙ sum_neg n (λ k. u k *ℤ delta n k m);
}

pub ext_below : (n : ℕ) (u : ℕ → ℤ) (m : ℕ) → m < n → ext n u m ≡ u m
unfolding ext delta
ext_below n u m h = let e : m % (2 * n) ≡ m = mod-eq_of_lt (omega arith) in
    sum_one n m (λ k. u k *ℤ sign n (m % (2 * n)) k) h (λ k l ne. rw (e, sign_else n m k (omega arith) (omega arith)) (z_mul_zero (u k)))
    ∙ rw (e, sign_here n m) (z_mul_one (u m))

-- u(k + n) is -u(k) modulo t
pub record FlipsMod (t n : ℕ) (u : ℕ → ℤ) : Type 0 where
  pub flips : (k : ℕ) → Cong t (u (k + n)) (neg_ℤ (u k))

pub ext_cong : (t n c r : ℕ) (u : ℕ → ℤ) → FlipsMod t n u → r < n → Cong t (ext n u (c * n + r)) (u (c * n + r))
ext_cong t n zero r u fl h = let e : 0 * n + r ≡ r = omega arith in rw e (cong_eq t (ext n u r) (u r) (ext_below n u r h))
ext_cong t n (suc c) r u fl h = let e : suc c * n + r ≡ c * n + r + n = omega arith in
    rw (e, (Flips_ext n u).flips (c * n + r)) (cong_trans t (neg_ℤ (ext n u (c * n + r))) (neg_ℤ (u (c * n + r))) (u (c * n + r + n)) (cong_neg t (ext n u (c * n + r)) (u (c * n + r)) (ext_cong t n c r u fl h)) (cong_sym t (u (c * n + r + n)) (neg_ℤ (u (c * n + r))) (fl.flips (c * n + r))))

pub ext_is : (t n m : ℕ) (u : ℕ → ℤ) → 0 < n → FlipsMod t n u → Cong t (ext n u m) (u m)
ext_is t n m u h fl = let e : m / n * n + m % n ≡ m = omega arith in rw e at (ext_cong t n (m / n) (m % n) u fl (mod_below m n h))

pub pair_cong : (t n : ℕ) (a : List ℤ) (f g : ℕ → ℤ) → ((i : ℕ) → i < n → Cong t (f i) (g i)) → Cong t (pair n a f) (pair n a g)
unfolding pair
pair_cong t n a f g h = cong_sum t n (λ i. at a i *ℤ f i) (λ i. at a i *ℤ g i) (λ i l. cong_mul t (at a i) (at a i) (f i) (g i) (cong_refl t (at a i)) (h i l))

pub pair_twice_mod : (t n : ℕ) (a b : List ℤ) (u : ℕ → ℤ) → 0 < n → FlipsMod t n u → Cong t (pair n (times n a b) u) (pair n a (λ i. pair n b (λ j. u (i + j))))
pair_twice_mod t n a b u h fl =
    cong_trans t (pair n (times n a b) u) (pair n (times n a b) (ext n u)) (pair n a (λ i. pair n b (λ j. u (i + j))))
    (pair_cong t n (times n a b) u (ext n u) (λ i l. cong_sym t (ext n u i) (u i) (ext_is t n i u h fl)))
    (subst (λ (x : ℤ). Cong t x (pair n a (λ i. pair n b (λ j. u (i + j))))) (sym (pair_twice n a b (ext n u) (Flips_ext n u)))
    (pair_cong t n a (λ i. pair n b (λ j. ext n u (i + j))) (λ i. pair n b (λ j. u (i + j))) (λ i l. pair_cong t n b (λ j. ext n u (i + j)) (λ j. u (i + j)) (λ j jl. ext_is t n (i + j) u h fl))))

pub pair_turn_mod : (t n g : ℕ) (a : List ℤ) (u : ℕ → ℤ) → 0 < n → FlipsMod t n u → Cong t (pair n (turn n a g) u) (pair n a (λ i. u (i * g)))
pair_turn_mod t n g a u h fl =
    cong_trans t (pair n (turn n a g) u) (pair n (turn n a g) (ext n u)) (pair n a (λ i. u (i * g)))
    (pair_cong t n (turn n a g) u (ext n u) (λ i l. cong_sym t (ext n u i) (u i) (ext_is t n i u h fl)))
    (subst (λ (x : ℤ). Cong t x (pair n a (λ i. u (i * g)))) (sym (pair_turn n g a (ext n u) h (Flips_ext n u)))
    (pair_cong t n a (λ i. ext n u (i * g)) (λ i. u (i * g)) (λ i l. ext_is t n (i * g) u h fl)))
