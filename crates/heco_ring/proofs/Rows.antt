-- The product by rows.
use Prim.Native.Nat.{ℕ, suc, ◌+◌, ◌-◌, ◌<◌, ◌≤◌}
use lib.IntN.{ℤ, pos, ◌+ℤ◌, ◌*ℤ◌, neg_ℤ}
use mathlib.Core.List.{List}
use mathlib.Core.Path.{◌≡◌, refl, sym, ◌∙◌}
use native.Mathlib.Omega.{arith}
use Rattle.heco_ring.proofs.Integers.{lines, z_mul_assoc, z_mul_one, z_mul_zero, z_mul_minus, z_zero_mul}
use Rattle.heco_ring.proofs.Pairing.{sign_here, sign_past, sign_else, sum_one}
use Rattle.heco_ring.proofs.Sums.{sum_ext, sum_mul}
use Rattle.heco_ring.specs.Ring.{sum_z, at, sign, times_at}
use Rattle.heco_ring.specs.Rows.{shift_at, row_at, rows_at}

-- ---- x^i b
pub shift_high : (n i k : ℕ) (b : List ℤ) → i ≤ k → k < n → shift_at n b i k ≡ at b (k - i)
unfolding shift_at
shift_high n i k b g h =
    let e : i + (k - i) ≡ k = omega arith in
    sum_one n (k - i) (λ j. at b j *ℤ sign n (i + j) k) (omega arith) (λ j jl ne. rw (sign_else n (i + j) k (omega arith) (omega arith)) (z_mul_zero (at b j)))
    ∙ rw (e, sign_here n k) (z_mul_one (at b (k - i)))

pub shift_low : (n i k : ℕ) (b : List ℤ) → k < i → i < n → shift_at n b i k ≡ neg_ℤ (at b (k + (n - i)))
unfolding shift_at
shift_low n i k b g h =
    let e : i + (k + (n - i)) ≡ k + n = omega arith in
    sum_one n (k + (n - i)) (λ j. at b j *ℤ sign n (i + j) k) (omega arith) (λ j jl ne. rw (sign_else n (i + j) k (omega arith) (omega arith)) (z_mul_zero (at b j)))
    ∙ rw (e, sign_past n k (omega arith)) (z_mul_minus (at b (k + (n - i))))

-- ---- one row, term by term
pub row_more : (n i j k : ℕ) (A B : List ℤ) (w : ℤ) → w +ℤ row_at n A B i (j + 1) k ≡ w +ℤ row_at n A B i j k +ℤ at A i *ℤ at B j *ℤ sign n (i + j) k
unfolding row_at sum_z
row_more n i j k A B w = let e : j + 1 ≡ suc j = omega arith in rw e (omega (arith, lines))

pub row_whole : (n i k : ℕ) (A B : List ℤ) → row_at n A B i n k ≡ at A i *ℤ shift_at n B i k
unfolding row_at shift_at
row_whole n i k A B =
    sum_ext n (λ j. at A i *ℤ at B j *ℤ sign n (i + j) k) (λ j. at A i *ℤ (at B j *ℤ sign n (i + j) k)) (λ j l. z_mul_assoc (at A i) (at B j) (sign n (i + j) k))
    ∙ sum_mul n (at A i) (λ j. at B j *ℤ sign n (i + j) k)

-- ---- the rows
pub rows_none : (n k : ℕ) (A B : List ℤ) → rows_at n A B 0 k ≡ pos 0
unfolding rows_at sum_z
rows_none n k A B = refl

pub rows_more : (n i k : ℕ) (A B : List ℤ) → rows_at n A B (i + 1) k ≡ rows_at n A B i k +ℤ at A i *ℤ shift_at n B i k
unfolding rows_at sum_z
rows_more n i k A B = let e : i + 1 ≡ suc i = omega arith in rw e refl

pub rows_skip : (n i k : ℕ) (A B : List ℤ) → at A i ≡ pos 0 → rows_at n A B (i + 1) k ≡ rows_at n A B i k
rows_skip n i k A B e = rows_more n i k A B ∙ rw (e, z_zero_mul (shift_at n B i k)) (omega (arith, lines))

pub rows_all : (n k : ℕ) (A B : List ℤ) → rows_at n A B n k ≡ times_at n A B k
unfolding rows_at times_at row_at
rows_all n k A B = sum_ext n (λ i. at A i *ℤ shift_at n B i k) (λ i. sum_z n (λ j. at A i *ℤ at B j *ℤ sign n (i + j) k)) (λ i l. sym (row_whole n i k A B))
