-- The sizes of sums and products.
use Prim.Native.Nat.{ℕ, zero, suc, ◌<◌, ◌+◌, ◌*◌, ◌≤◌, ◌-◌}
use borrow.Author.Differences.{abs_is}
use lib.IntN.{ℤ, ◌+ℤ◌, ◌*ℤ◌, neg_ℤ, nat_abs}
use mathlib.Core.List.{List}
use mathlib.Core.Logic.{inl, inr}
use mathlib.Core.Path.{◌≡◌}
use native.Mathlib.Nat.{mul-le-mul_left}
use native.Mathlib.Omega.{arith}
use Rattle.std.proofs.lemmas.Bool.{cases_lt}
use Rattle.std.proofs.lemmas.Int.{unsigned_abs-mul}
use Rattle.heco_ring.proofs.Integers.{lines, z_mul_one, z_mul_zero, z_mul_minus}
use Rattle.heco_ring.proofs.Linear.{times_at_pair}
use Rattle.heco_ring.proofs.Pairing.{sign_here, sign_past, sign_else, sum_one, pair}
use Rattle.heco_ring.specs.Ring.{sum_z, at, sign, times_at}
use Rattle.heco_ring.specs.Sizes.{sum_n, weight}

pub abs_add : (a b : ℤ) → nat_abs (a +ℤ b) ≤ nat_abs a + nat_abs b
abs_add a b = omega (arith, lines, abs_is)

pub abs_neg : (a : ℤ) → nat_abs (neg_ℤ a) ≡ nat_abs a
abs_neg a = omega (arith, lines, abs_is)

pub sum_abs : (n : ℕ) (f : ℕ → ℤ) (g : ℕ → ℕ) → ((i : ℕ) → i < n → nat_abs (f i) ≤ g i) → nat_abs (sum_z n f) ≤ sum_n n g
unfolding sum_z sum_n
sum_abs zero f g h = omega arith
sum_abs (suc n) f g h = omega (arith, abs_add (sum_z n f) (f n), sum_abs n f g (λ i l. h i (omega arith)), h n (omega arith))

pub sum_n_right : (n c : ℕ) (f : ℕ → ℕ) → sum_n n (λ i. f i * c) ≡ sum_n n f * c
unfolding sum_n
sum_n_right zero c f = omega arith
sum_n_right (suc n) c f = omega (arith, sum_n_right n c f)

pub sum_n_le : (n c : ℕ) (f : ℕ → ℕ) → ((i : ℕ) → i < n → f i ≤ c) → sum_n n f ≤ n * c
unfolding sum_n
sum_n_le zero c f h = omega arith
sum_n_le (suc n) c f h = omega (arith, sum_n_le n c f (λ i l. h i (omega arith)), h n (omega arith))

-- one place of b stands at place k of x^i * b
pub shifted : (n : ℕ) (b : List ℤ) (B i k : ℕ) → ((j : ℕ) → j < n → nat_abs (at b j) ≤ B) → i < n → k < n → nat_abs (pair n b (λ j. sign n (i + j) k)) ≤ B
unfolding pair
shifted n b B i k h il kl = elim (cases_lt k i) [
  | inl l ↦ (let s : sum_z n (λ j. at b j *ℤ sign n (i + j) k) ≡ at b (k + n - i) *ℤ sign n (i + (k + n - i)) k = sum_one n (k + n - i) (λ j. at b j *ℤ sign n (i + j) k) (omega arith) (λ j jl ne. rw (sign_else n (i + j) k (omega arith) (omega arith)) (z_mul_zero (at b j))) in
      let e : i + (k + n - i) ≡ k + n = omega arith in
      rw (s, e, sign_past n k (omega arith), z_mul_minus (at b (k + n - i)), abs_neg (at b (k + n - i))) (h (k + n - i) (omega arith)))
  | inr g ↦ (let s : sum_z n (λ j. at b j *ℤ sign n (i + j) k) ≡ at b (k - i) *ℤ sign n (i + (k - i)) k = sum_one n (k - i) (λ j. at b j *ℤ sign n (i + j) k) (omega arith) (λ j jl ne. rw (sign_else n (i + j) k (omega arith) (omega arith)) (z_mul_zero (at b j))) in
      let e : i + (k - i) ≡ k = omega arith in
      rw (s, e, sign_here n k, z_mul_one (at b (k - i))) (h (k - i) (omega arith)))
]

pub times_size : (n : ℕ) (a b : List ℤ) (B k : ℕ) → ((j : ℕ) → j < n → nat_abs (at b j) ≤ B) → k < n → nat_abs (times_at n a b k) ≤ weight n a * B
unfolding pair weight
times_size n a b B k h kl = rw (times_at_pair n a b k, ← (sum_n_right n B (λ i. nat_abs (at a i))))
    (sum_abs n (λ i. at a i *ℤ pair n b (λ j. sign n (i + j) k)) (λ i. nat_abs (at a i) * B) (λ i l. rw (unsigned_abs-mul (at a i) (pair n b (λ j. sign n (i + j) k))) (mul-le-mul_left (nat_abs (at a i)) (shifted n b B i k h l kl))))

pub weight-le : (n A : ℕ) (a : List ℤ) → ((i : ℕ) → i < n → nat_abs (at a i) ≤ A) → weight n a ≤ n * A
unfolding weight
weight-le n A a h = sum_n_le n A (λ i. nat_abs (at a i)) h
