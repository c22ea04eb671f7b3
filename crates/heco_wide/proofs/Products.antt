-- Products over the integers of centred coefficients: their sizes, and what they are rounded to.
use Prim.Native.Nat.{ℕ, ◌*◌, ◌^◌, ◌<◌, ◌≤◌}
use native.Mathlib.Omega.{arith}
use mathlib.Core.Path.{◌≡◌, refl, sym, ap, ◌∙◌}
use mathlib.Core.List.{List}
use lib.IntN.{ℤ, ◌+ℤ◌, nat_abs}
use lib.ListN.{length, get_or}
use Rattle.std.specs.Prelude.{All}
use Rattle.std.proofs.lemmas.List.Elements.{All-get_or}
use Rattle.heco_nums.specs.Arithmetic.{centre_q}
use Rattle.heco_noise_laws.specs.Noise.{rounded, round_part}
use Rattle.heco_ring.proofs.Linear.{at-plus, at-times}
use Rattle.heco_ring.proofs.Pairing.{table_ext, at-table}
use Rattle.heco_ring.proofs.Reduced.{filled}
use Rattle.heco_ring.proofs.Sizes.{abs_add, times_size, weight-le}
use Rattle.heco_ring.specs.Remainders.{rem, reduced}
use Rattle.heco_ring.specs.Ring.{at, times_at, table, plus, times}
use Rattle.heco_ring.specs.Sizes.{weight}
use Rattle.heco_scheme.proofs.ProductNoise.{centre_small}
use Rattle.heco_scheme.specs.Rounding.{centred, rounded_all}
use Rattle.heco_wide.specs.Limbs.{HasLimbs, HasLimbsOf}
use Rattle.heco_wide.specs.inside.Wide.{int_at, FitsAll}
use Rattle.heco_wide.specs.declared.limbs.LimbImages.{LimbImages}

pub some_limbs : (depth : ℕ) (a : List ℤ) (i : LimbImages) → HasLimbsOf depth a i → HasLimbs depth i
some_limbs depth a i h = record { limbs = h.limbs; images = h.images }

-- ---- sizes
centred_small : (n k : ℕ) (c : List ℕ) → length c ≡ n → All (λ x. x < 2 ^ 58) c → k < n → nat_abs (at (centred n c) k) ≤ 2 ^ 57
unfolding centred
centred_small n k c e b l =
    let inside : k < length c = omega arith in
    rw (at-table n (λ k. centre_q (get_or c k 0)) k l) (centre_small (get_or c k 0) (All-get_or (λ x. x < 2 ^ 58) c k 0 inside b))

-- a list of n words below q
pub record Words (n : ℕ) (c : List ℕ) : Type 0 where
  pub long : length c ≡ n
  pub below : All (λ x. x < 2 ^ 58) c

product_size : (n k : ℕ) (c d : List ℕ) → n ≤ 1024 → Words n c → Words n d → k < n → nat_abs (times_at n (centred n c) (centred n d) k) ≤ 2 ^ 124
product_size n k c d h p q l =
    let w : weight n (centred n c) ≤ n * 2 ^ 57 = weight-le n (2 ^ 57) (centred n c) (λ j jl. centred_small n j c p.long p.below jl) in
    let t : nat_abs (times_at n (centred n c) (centred n d) k) ≤ weight n (centred n c) * 2 ^ 57 = times_size n (centred n c) (centred n d) (2 ^ 57) k (λ j jl. centred_small n j d q.long q.below jl) l in
    omega (arith, w, t)

pub product_fits : (n : ℕ) (c d : List ℕ) (x : List ℤ) → n ≤ 1024 → Words n c → Words n d → length x ≡ n →
    ((k : ℕ) → k < n → int_at x k ≡ times_at n (centred n c) (centred n d) k) → FitsAll (2 ^ 125) x
product_fits n c d x h p q e v = λ k l. let kn : k < n = omega arith in rw (v k kn) (omega (arith, product_size n k c d h p q kn))

pub sum_fits : (n : ℕ) (c d e f : List ℕ) (x : List ℤ) → n ≤ 1024 → Words n c → Words n d → Words n e → Words n f → length x ≡ n →
    ((k : ℕ) → k < n → int_at x k ≡ times_at n (centred n c) (centred n d) k +ℤ times_at n (centred n e) (centred n f) k) → FitsAll (2 ^ 125) x
sum_fits n c d e f x h p q r s l v = λ k kl.
    let kn : k < n = omega arith in
    rw (v k kn) (omega (arith, abs_add (times_at n (centred n c) (centred n d) k) (times_at n (centred n e) (centred n f) k), product_size n k c d h p q kn, product_size n k e f h r s kn))

-- ---- rounding
rounded_ext : (n t : ℕ) (x y : List ℤ) → ((k : ℕ) → k < n → at x k ≡ at y k) → rounded_all n t x ≡ rounded_all n t y
unfolding rounded_all round_part
rounded_ext n t x y h = ap (reduced (2 ^ 58) n) (table_ext n (λ k. rounded (2 ^ 58) t (at x k)) (λ k. rounded (2 ^ 58) t (at y k)) (λ k l. ap (rounded (2 ^ 58) t) (h k l)))

pub rounded_filled : (n t : ℕ) (x : List ℤ) (out : List ℕ) → length out ≡ n → ((k : ℕ) → k < n → get_or out k 0 ≡ rem (2 ^ 58) (rounded (2 ^ 58) t (at x k))) → out ≡ rounded_all n t x
unfolding rounded_all round_part
rounded_filled n t x out l h = filled (2 ^ 58) n (table n (λ k. rounded (2 ^ 58) t (at x k))) out l (λ k kl. h k kl ∙ ap (rem (2 ^ 58)) (sym (at-table n (λ k. rounded (2 ^ 58) t (at x k)) k kl)))

pub rounded_product : (n t : ℕ) (a b x : List ℤ) (out : List ℕ) → length x ≡ n → out ≡ rounded_all (length x) t x → ((k : ℕ) → k < n → int_at x k ≡ times_at n a b k) → out ≡ rounded_all n t (times n a b)
unfolding at
rounded_product n t a b x out e o v = rw e at o ∙ rounded_ext n t x (times n a b) (λ k l. v k l ∙ sym (at-times n a b k l))

pub rounded_sum : (n t : ℕ) (a b c d x : List ℤ) (out : List ℕ) → length x ≡ n → out ≡ rounded_all (length x) t x → ((k : ℕ) → k < n → int_at x k ≡ times_at n a b k +ℤ times_at n c d k) →
    out ≡ rounded_all n t (plus n (times n a b) (times n c d))
unfolding at
rounded_sum n t a b c d x out e o v = rw e at o ∙ rounded_ext n t x (plus n (times n a b) (times n c d)) (λ k l. v k l ∙ sym (rw (at-plus n (times n a b) (times n c d) k l, at-times n a b k l, at-times n c d k l) refl))
