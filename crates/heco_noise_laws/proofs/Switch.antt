-- What a switch of keys adds to the phase, and its size.
use Prim.Native.Nat.{ℕ, zero, suc, ◌<◌, ◌+◌, ◌*◌, ◌/◌, ◌%◌, ◌^◌, ◌≤◌}
use lib.Arith.{mod-mul}
use lib.IntN.{ℤ, pos, ◌+ℤ◌, ◌*ℤ◌, ◌-ℤ◌, nat_abs}
use mathlib.Core.List.{List}
use mathlib.Core.Path.{◌≡◌, refl, sym, ◌∙◌}
use native.Mathlib.Nat.{pow-succ', mod-one, one-le-pow}
use native.Mathlib.Omega.{arith}
use Rattle.heco_ring.proofs.Integers.{lines, z_zero_mul}
use Rattle.heco_ring.proofs.Linear.{times_at_pair, at-times, at-plus, plus_times, scale_times, times_plus, times_scale, places, times_negate, negate_plus}
use Rattle.heco_ring.proofs.Pairing.{at-table, pair, pair_table}
use Rattle.heco_ring.proofs.RingLaws.{times_assoc}
use Rattle.heco_ring.proofs.Sizes.{abs_add}
use Rattle.heco_ring.proofs.Sums.{sum_ext, sum_zero}
use Rattle.heco_ring.specs.Ring.{at, table, sign, times, plus, negate, scale, sum_lists}
use Rattle.heco_ring.specs.Sizes.{sum_n}
use Rattle.heco_noise_laws.proofs.Product.{size_of}

zero_times : (n k : ℕ) (b : List ℤ) → k < n → at (times n (table n (λ k. pos 0)) b) k ≡ pos 0
unfolding pair
zero_times n k b h = at-times n (table n (λ k. pos 0)) b k h ∙ times_at_pair n (table n (λ k. pos 0)) b k
    ∙ pair_table n (λ k. pos 0) (λ i. pair n b (λ j. sign n (i + j) k))
    ∙ sum_ext n (λ i. pos 0 *ℤ pair n b (λ j. sign n (i + j) k)) (λ i. pos 0) (λ i l. z_zero_mul (pair n b (λ j. sign n (i + j) k))) ∙ sum_zero n

switch_none : (n k : ℕ) (s s' : List ℤ) → k < n → at (plus n (table n (λ k. pos 0)) (times n (table n (λ k. pos 0)) s)) k ≡ at (times n (table n (λ k. pos 0)) s') k -ℤ at (table n (λ k. pos 0)) k
switch_none n k s s' h = rw (at-plus n (table n (λ k. pos 0)) (times n (table n (λ k. pos 0)) s) k h, zero_times n k s h, zero_times n k s' h, at-table n (λ k. pos 0) k h) refl

switch_more : (n k : ℕ) (s s' A B D F d a e : List ℤ) (c : ℤ) → k < n → at (plus n A (times n B s)) k ≡ at (times n D s') k -ℤ at F k →
    at (plus n (plus n A (times n d (plus n (negate n (plus n (times n a s) e)) (scale n c s')))) (times n (plus n B (times n d a)) s)) k ≡ at (times n (plus n D (scale n c d)) s') k -ℤ at (plus n F (times n d e)) k
switch_more n k s s' A B D F d a e c h g = let f : at A k +ℤ at (times n B s) k ≡ at (times n D s') k -ℤ at F k = rw (at-plus n A (times n B s) k h) at g in
    simp (plus_times, times_plus, times_negate, negate_plus, scale_times, times_scale, times_assoc) (simp places (omega (arith, lines, f)))

-- what a switch adds to the phase: b s' less the sum of d_i e_i
pub switch_phase : (n l k : ℕ) (s s' : List ℤ) (d a e : ℕ → List ℤ) (c : ℕ → ℤ) → k < n →
    at (plus n (sum_lists n l (λ i. times n (d i) (plus n (negate n (plus n (times n (a i) s) (e i))) (scale n (c i) s')))) (times n (sum_lists n l (λ i. times n (d i) (a i))) s)) k
    ≡ at (times n (sum_lists n l (λ i. scale n (c i) (d i))) s') k -ℤ at (sum_lists n l (λ i. times n (d i) (e i))) k
unfolding sum_lists
switch_phase n zero k s s' d a e c h = switch_none n k s s' h
switch_phase n (suc l) k s s' d a e c h =
    switch_more n k s s' (sum_lists n l (λ i. times n (d i) (plus n (negate n (plus n (times n (a i) s) (e i))) (scale n (c i) s')))) (sum_lists n l (λ i. times n (d i) (a i))) (sum_lists n l (λ i. scale n (c i) (d i))) (sum_lists n l (λ i. times n (d i) (e i))) (d l) (a l) (e l) (c l) h (switch_phase n l k s s' d a e c h)

-- its size
pub switch_size : (n l D B k : ℕ) (d e : ℕ → List ℤ) → k < n → ((i j : ℕ) → j < n → nat_abs (at (d i) j) ≤ D) → ((i j : ℕ) → j < n → nat_abs (at (e i) j) ≤ B) →
    nat_abs (at (sum_lists n l (λ i. times n (d i) (e i))) k) ≤ l * (n * D * B)
unfolding sum_lists
switch_size n zero D B k d e h u v = rw (at-table n (λ k. pos 0) k h) (omega arith)
switch_size n (suc l) D B k d e h u v = rw (at-plus n (sum_lists n l (λ i. times n (d i) (e i))) (times n (d l) (e l)) k h)
    (omega (arith, abs_add (at (sum_lists n l (λ i. times n (d i) (e i))) k) (at (times n (d l) (e l)) k), switch_size n l D B k d e h u v, size_of n D B k (d l) (e l) (u l) (v l) h))

-- the digits of b in base 4, put together again
pub digits_sum : (l b : ℕ) → sum_n l (λ i. b / 4 ^ i % 4 * 4 ^ i) ≡ b % 4 ^ l
unfolding sum_n
digits_sum zero b = sym (mod-one b)
digits_sum (suc l) b = rw (digits_sum l b) (sym (digit_more b l))
  where
    digit_more : (b l : ℕ) → b % 4 ^ suc l ≡ b % 4 ^ l + b / 4 ^ l % 4 * 4 ^ l
    digit_more b l = rw (pow-succ' 4 l, mod-mul b {m = 4} (omega arith) (one-le-pow l 4 (omega arith))) (omega arith)
