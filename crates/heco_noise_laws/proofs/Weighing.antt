-- The noise of a product by a plain polynomial.
use Prim.Native.Nat.{ℕ, ◌<◌, ◌+◌, ◌*◌, ◌≤◌}
use lib.IntN.{ℤ, pos, ◌+ℤ◌, ◌*ℤ◌, neg_ℤ, ◌-ℤ◌, nat_abs}
use mathlib.Core.List.{List}
use mathlib.Core.Path.{◌≡◌, sym, ap, ◌∙◌}
use native.Mathlib.Nat.{le_trans}
use native.Mathlib.Omega.{arith}
use Rattle.heco_ring.proofs.Integers.{lines, monomials}
use Rattle.heco_ring.proofs.Pairing.{at-table}
use Rattle.heco_ring.proofs.Sizes.{times_size}
use Rattle.heco_ring.proofs.Sums.{sum_ext, sum_add, sum_mul, sum_neg}
use Rattle.heco_ring.specs.Ring.{sum_z, at, table, sign, times_at, times}
use Rattle.heco_ring.specs.Sizes.{weight}
use Rattle.heco_noise_laws.proofs.Near.{near_in, near_e, near_c, near_is, near_small}
use Rattle.heco_noise_laws.specs.Noise.{NoiseAtMost}

-- a product is linear in its second operand, coefficient by coefficient
linear_at : (n k : ℕ) (c d M : ℤ) (w z m e f : List ℤ) → ((j : ℕ) → j < n → c *ℤ at z j -ℤ d *ℤ at m j ≡ at e j +ℤ M *ℤ at f j)
    → c *ℤ times_at n w z k -ℤ d *ℤ times_at n w m k ≡ times_at n w e k +ℤ M *ℤ times_at n w f k
unfolding times_at
linear_at n k c d M w z m e f h =
    rw (← (double c z), ← (double d m), ← (double M f)) (
    ap (λ (x : ℤ). sum_z n (λ i. sum_z n (λ j. c *ℤ part z i j)) +ℤ x) (sym (sum_neg n (λ i. sum_z n (λ j. d *ℤ part m i j))))
    ∙ sym (sum_add n (λ i. sum_z n (λ j. c *ℤ part z i j)) (λ i. neg_ℤ (sum_z n (λ j. d *ℤ part m i j))))
    ∙ sum_ext n (λ i. sum_z n (λ j. c *ℤ part z i j) +ℤ neg_ℤ (sum_z n (λ j. d *ℤ part m i j))) (λ i. sum_z n (λ j. part e i j) +ℤ sum_z n (λ j. M *ℤ part f i j)) (λ i il.
    ap (λ (x : ℤ). sum_z n (λ j. c *ℤ part z i j) +ℤ x) (sym (sum_neg n (λ j. d *ℤ part m i j)))
    ∙ sym (sum_add n (λ j. c *ℤ part z i j) (λ j. neg_ℤ (d *ℤ part m i j)))
    ∙ sum_ext n (λ j. c *ℤ part z i j +ℤ neg_ℤ (d *ℤ part m i j)) (λ j. part e i j +ℤ M *ℤ part f i j) (λ j jl. one (at w i) (sign n (i + j) k) (at z j) (at m j) (at e j) (at f j) (h j jl))
    ∙ sum_add n (λ j. part e i j) (λ j. M *ℤ part f i j))
    ∙ sum_add n (λ i. sum_z n (λ j. part e i j)) (λ i. sum_z n (λ j. M *ℤ part f i j)))
  where
    part : List ℤ → ℕ → ℕ → ℤ
    part x i j = at w i *ℤ at x j *ℤ sign n (i + j) k

    double : (a : ℤ) (x : List ℤ) → sum_z n (λ i. sum_z n (λ j. a *ℤ part x i j)) ≡ a *ℤ sum_z n (λ i. sum_z n (λ j. part x i j))
    double a x = sum_ext n (λ i. sum_z n (λ j. a *ℤ part x i j)) (λ i. a *ℤ sum_z n (λ j. part x i j)) (λ i il. sum_mul n a (λ j. part x i j)) ∙ sum_mul n a (λ i. sum_z n (λ j. part x i j))

    one : (u s zj mj ej fj : ℤ) → c *ℤ zj -ℤ d *ℤ mj ≡ ej +ℤ M *ℤ fj → c *ℤ (u *ℤ zj *ℤ s) +ℤ neg_ℤ (d *ℤ (u *ℤ mj *ℤ s)) ≡ u *ℤ ej *ℤ s +ℤ M *ℤ (u *ℤ fj *ℤ s)
    one u s zj mj ej fj h =
        let l : c *ℤ (u *ℤ zj *ℤ s) +ℤ neg_ℤ (d *ℤ (u *ℤ mj *ℤ s)) ≡ u *ℤ (c *ℤ zj -ℤ d *ℤ mj) *ℤ s = simp monomials (omega (arith, lines)) in
        l ∙ ap (λ (x : ℤ). u *ℤ x *ℤ s) h ∙ simp monomials (omega (arith, lines))

-- the product by w of weight S: S times the noise
pub noise_weigh : (n q t E : ℕ) (w z m : List ℤ) → 0 < q * t → NoiseAtMost n q t z m E → NoiseAtMost n q t (times n w z) (times n w m) (weight n w * E)
unfolding times
noise_weigh n q t E w z m h a = record {
  within = λ k kl.
      let Q : ℕ = q * t in
      let x : ℕ → ℤ = λ j. pos t *ℤ at z j -ℤ pos q *ℤ at m j in
      let e : List ℤ = table n (λ j. near_e Q (x j)) in
      let f : List ℤ = table n (λ j. near_c Q (x j)) in
      let split : (j : ℕ) → j < n → x j ≡ at e j +ℤ pos Q *ℤ at f j = (λ j jl. rw (at-table n (λ j. near_e Q (x j)) j jl, at-table n (λ j. near_c Q (x j)) j jl) (near_is Q (x j) h)) in
      let small : (j : ℕ) → j < n → nat_abs (at e j) ≤ E = (λ j jl. rw (at-table n (λ j. near_e Q (x j)) j jl) (le_trans (near_small Q (x j) h) (a.within j jl))) in
      rw (at-table n (times_at n w z) k kl, at-table n (times_at n w m) k kl)
      (near_in Q (pos t *ℤ times_at n w z k -ℤ pos q *ℤ times_at n w m k) (weight n w * E) h
      (record {
        e = times_at n w e k;
        small = times_size n w e E k small kl;
        same = record { by = times_at n w f k; is = linear_at n k (pos t) (pos q) (pos Q) w z m e f split };
      }));
}
