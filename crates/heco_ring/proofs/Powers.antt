-- Powers that are 1 or -1 modulo a number, and the sum of a geometric row.
use Prim.Native.Nat.{ℕ, zero, suc, ◌<◌, ◌+◌, ◌*◌, ◌/◌, ◌%◌, ◌^◌, ◌≤◌}
use lib.Arith.{mod-mul}
use lib.IntN.{ℤ, pos, ◌+ℤ◌, ◌*ℤ◌, negsuc}
use mathlib.Core.Logic.{inl, inr}
use mathlib.Core.Path.{◌≡◌, refl, sym, ap, ◌∙◌}
use native.Mathlib.Nat.{pow-suc, pow-succ', pow-zero, mul-add-mod_self_left, mod-eq_of_lt, one-le-pow}
use native.Mathlib.Omega.{arith}
use Rattle.std.proofs.lemmas.Bool.{cases_eq}
use Rattle.std.proofs.lemmas.Nat.{pow-add}
use Rattle.heco_ring.proofs.Integers.{lines, z_mul_zero, monomials}
use Rattle.heco_ring.proofs.Remainders.{rem_cong, cong_add, cong_mul, cong_refl, cong_self, cong_trans, cong_sym, cong_eq, rem_nat}
use Rattle.heco_ring.proofs.Sums.{sum_ext, sum_mul}
use Rattle.heco_ring.specs.Remainders.{rem, Cong}
use Rattle.heco_ring.specs.Ring.{sum_z}

pub cong_one : (M x k : ℕ) → Cong M (pos x) (pos 1) → Cong M (pos (x ^ k)) (pos 1)
cong_one M x zero c = rw (pow-zero x) (cong_refl M (pos 1))
cong_one M x (suc k) c = rw (pow-suc x k) (cong_mul M (pos (x ^ k)) (pos 1) (pos x) (pos 1) (cong_one M x k c) c)

pub power_up : (m : ℕ) → 2 ^ (m + 1) ≡ 2 * 2 ^ m
power_up m = let e : m + 1 ≡ suc m = omega arith in rw e (pow-succ' 2 m)

odd_find : (m r : ℕ) → r % 2 ≡ 1 → (r * 2 ^ m) % 2 ^ (m + 1) ≡ 2 ^ m
odd_find m r h =
    let p : 0 < 2 ^ m = one-le-pow m 2 (omega arith) in
    let e : r ≡ 2 * (r / 2) + 1 = omega arith in
    let d : r * 2 ^ m ≡ 2 * 2 ^ m * (r / 2) + 2 ^ m = ap (λ (x : ℕ). x * 2 ^ m) e ∙ omega arith in
    rw (power_up m, d) (mul-add-mod_self_left (2 * 2 ^ m) (r / 2) (2 ^ m) ∙ mod-eq_of_lt (omega arith))

double_mod : (M x : ℕ) → 0 < M → (2 * x) % (2 * M) ≡ 2 * (x % M)
double_mod M x h = let e : 2 * M ≡ M * 2 = omega arith in let d : 2 * x / 2 ≡ x = omega arith in
    rw e (mod-mul (2 * x) {m = M} {c = 2} h (omega arith) ∙ rw d (omega arith))

pub even_rest : (m r : ℕ) → (r % 2 ^ (suc m + 1) ≡ 0 → ⊥) → (r % 2 ≡ 1 → ⊥) → r / 2 % 2 ^ (m + 1) ≡ 0 → ⊥
even_rest m r h ne z = h (
    let e : 2 * (r / 2) ≡ r = omega arith in
    let p : suc m + 1 ≡ (m + 1) + 1 = omega arith in
    rw (p, power_up (m + 1), ← e) (double_mod (2 ^ (m + 1)) (r / 2) (one-le-pow (m + 1) 2 (omega arith)) ∙ rw z refl))

pub even_find : (m r a : ℕ) → (r % 2 ≡ 1 → ⊥) → r / 2 * 2 ^ a % 2 ^ (m + 1) ≡ 2 ^ m → (r * 2 ^ a) % 2 ^ (suc m + 1) ≡ 2 ^ suc m
even_find m r a ne z =
    let e : 2 * (r / 2) ≡ r = omega arith in
    let p : suc m + 1 ≡ (m + 1) + 1 = omega arith in
    let d : r * 2 ^ a ≡ 2 * (r / 2 * 2 ^ a) = ap (λ (x : ℕ). x * 2 ^ a) (sym e) ∙ omega arith in
    rw (p, power_up (m + 1), d) (double_mod (2 ^ (m + 1)) (r / 2 * 2 ^ a) (one-le-pow (m + 1) 2 (omega arith)) ∙ rw z (sym (pow-succ' 2 m)))

-- a number that is not 0 modulo 2^(m+1) becomes 2^m by doubling
pub find : (m r : ℕ) → (r % 2 ^ (m + 1) ≡ 0 → ⊥) → (a : ℕ) × (a ≤ m) × ((r * 2 ^ a) % 2 ^ (m + 1) ≡ 2 ^ m)
find zero r h = (0, omega arith, let n : ¬ (r % 2 ≡ 0) = h in omega arith)
find (suc m) r h = elim (cases_eq (r % 2) 1) [
  | inl e ↦ (suc m, omega arith, odd_find (suc m) r e)
  | inr ne ↦ (let f = find m (r / 2) (even_rest m r h ne) in (f.0, omega (arith, f.1), even_find m r f.0 ne f.2))
]

sum_split : (p q : ℕ) (f : ℕ → ℤ) → sum_z (p + q) f ≡ sum_z p f +ℤ sum_z q (λ k. f (p + k))
unfolding sum_z
sum_split p zero f = let e : p + 0 ≡ p = omega arith in rw e (omega (arith, lines))
sum_split p (suc q) f = let e : p + suc q ≡ suc (p + q) = omega arith in rw e (omega (arith, lines, sum_split p q f))

-- the sum of x^k for k below 2^m is 0 where some x^(2^a), a < m, is -1
pub geometric : (t m x a : ℕ) → a < m → Cong t (pos (x ^ 2 ^ a)) (negsuc 0) → Cong t (sum_z (2 ^ m) (λ k. pos (x ^ k))) (pos 0)
geometric t zero x a h c = absurd (omega arith)
geometric t (suc m) x a h c =
    let d : 2 ^ suc m ≡ 2 ^ m + 2 ^ m = omega (arith, pow-suc 2 m) in
    let S = sum_z (2 ^ m) (λ k. pos (x ^ k)) in
    let e : sum_z (2 ^ suc m) (λ k. pos (x ^ k)) ≡ S +ℤ pos (x ^ 2 ^ m) *ℤ S = rw d (sum_split (2 ^ m) (2 ^ m) (λ k. pos (x ^ k)) ∙ ap (λ (v : ℤ). S +ℤ v) (sum_ext (2 ^ m) (λ k. pos (x ^ (2 ^ m + k))) (λ k. pos (x ^ 2 ^ m) *ℤ pos (x ^ k)) (λ k l. ap pos (pow-add x (2 ^ m) k)) ∙ sum_mul (2 ^ m) (pos (x ^ 2 ^ m)) (λ k. pos (x ^ k)))) in
    rw e (elim (cases_eq a m) [
      | inl q ↦ (let c' : Cong t (pos (x ^ 2 ^ m)) (negsuc 0) = rw q at c in cong_trans t (S +ℤ pos (x ^ 2 ^ m) *ℤ S) (S +ℤ negsuc 0 *ℤ S) (pos 0) (cong_add t S S (pos (x ^ 2 ^ m) *ℤ S) (negsuc 0 *ℤ S) (cong_refl t S) (cong_mul t (pos (x ^ 2 ^ m)) (negsuc 0) S S c' (cong_refl t S))) (cong_eq t (S +ℤ negsuc 0 *ℤ S) (pos 0) (simp monomials (omega (arith, lines)))))
      | inr ne ↦ (let g : Cong t S (pos 0) = geometric t m x a (omega arith) c in
          rw (← (zero_sum (pos (x ^ 2 ^ m)))) (cong_add t S (pos 0) (pos (x ^ 2 ^ m) *ℤ S) (pos (x ^ 2 ^ m) *ℤ pos 0) g (cong_mul t (pos (x ^ 2 ^ m)) (pos (x ^ 2 ^ m)) S (pos 0) (cong_refl t (pos (x ^ 2 ^ m))) g)))
    ])
  where
    zero_sum : (y : ℤ) → pos 0 +ℤ y *ℤ pos 0 ≡ pos 0
    zero_sum y = rw (z_mul_zero y) refl

pub one_mod : (m a : ℕ) → 0 < m → a % m ≡ 1 → Cong m (pos a) (pos 1)
one_mod m a h e = rw (rem_nat m a, e) at (cong_sym m (pos (rem m (pos a))) (pos a) (cong_self m (pos a) h))

pub mod_one : (m a : ℕ) → 1 < m → Cong m (pos a) (pos 1) → a % m ≡ 1
mod_one m a h c = sym (rem_nat m a) ∙ rem_cong m (pos a) (pos 1) (omega arith) c ∙ rem_nat m 1 ∙ mod-eq_of_lt h
