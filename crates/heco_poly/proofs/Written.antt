-- What a polynomial holds after its slice was written whole.
use Prim.Native.Nat.{ℕ, ◌+◌, ◌-◌, ◌<◌, ◌≤◌, ◌^◌}
use native.Mathlib.Omega.{arith}
use mathlib.Core.Path.{◌≡◌, ap, ◌∙◌}
use mathlib.Core.List.{List, ◌++◌}
use lib.IntN.{ℤ, pos, negsuc, ◌*ℤ◌, neg_ℤ}
use lib.Lanes.{put_chunk}
use lib.ListN.{length, take, get_or}
use mathlib.Core.Logic.{inl, inr}
use Rattle.std.proofs.lemmas.Bool.{cases_lt}
use Rattle.std.proofs.lemmas.Simd.{get_or-put_chunk_below, get_or-put_chunk_at, get_or-put_chunk_above, length-put_chunk}
use Rattle.std.proofs.lemmas.List.{take-append-le, take_all, get_or_default}
use Rattle.heco_ring.proofs.Integers.{z_minus_mul}
use Rattle.heco_ring.proofs.Linear.{at-scale}
use Rattle.heco_ring.proofs.Pairing.{table_ext}
use Rattle.heco_ring.proofs.Reduced.{length-reduced, reduced-lt, reduced_same}
use Rattle.heco_ring.proofs.Remainders.{cong_mul, cong_refl, cong_self}
use Rattle.heco_ring.specs.Remainders.{rem, reduced}
use Rattle.heco_ring.specs.Ring.{at, negate, scale}
use Rattle.heco_poly.specs.Poly.{IsPoly}

pub front : (n : ℕ) (xs ys : List ℕ) → length xs ≡ n → take n (xs ++ ys) ≡ xs
front n xs ys e = take-append-le n xs ys (omega arith) ∙ take_all n xs (omega arith)

pub settled : (q n m : ℕ) (a : List ℤ) (xs ys : List ℕ) → xs ≡ reduced q n a → n ≡ m → take m (xs ++ ys) ≡ reduced q n a
settled q n m a xs ys e l = front m xs ys (ap length e ∙ length-reduced q n a ∙ l) ∙ e

-- what was written is a polynomial
pub settled_poly : (n m : ℕ) (a : List ℤ) (xs ys : List ℕ) → xs ≡ reduced (2 ^ 58) n a → n ≡ m → n ≤ 1024 → IsPoly (take m (xs ++ ys))
settled_poly n m a xs ys e l h = rw (settled (2 ^ 58) n m a xs ys e l) (λ k d i. rw (get_or_default (reduced (2 ^ 58) n a) k d 0 i) (reduced-lt (2 ^ 58) n a k (omega arith) (omega (arith, length-reduced (2 ^ 58) n a))), omega (arith, length-reduced (2 ^ 58) n a))

-- four places of a polynomial are put anew
pub put_poly : (i : ℕ) (a v : List ℕ) → IsPoly a → length v ≡ 4 → i + 4 ≤ length a → ((j : ℕ) → j < 4 → get_or v j 0 < 2 ^ 58) → IsPoly (put_chunk i a v)
put_poly i a v p l room below = (
  λ k d h. elim (cases_lt k i) [
    | inl lt ↦ rw get_or-put_chunk_below (p.0 k d (omega (arith, length-put_chunk i a v)))
    | inr le ↦ (elim (cases_lt k (i + 4)) [
      | inl lt ↦ (let e : i + (k - i) ≡ k = omega arith in
          let inside : k - i < length v = omega arith in
          let there = rw e at (get_or-put_chunk_at i a v (k - i) d inside (omega arith)) in
          rw (there, get_or_default v (k - i) d 0 inside) (below (k - i) (omega arith)))
      | inr gt ↦ (let past : i + length v ≤ k = omega arith in rw get_or-put_chunk_above (p.0 k d (omega (arith, length-put_chunk i a v))))
    ])
  ],
  omega (arith, p.1, length-put_chunk i a v),
)

pub minus_one_scale : (n : ℕ) (a : List ℤ) → scale n (negsuc 0) a ≡ negate n a
unfolding scale negate
minus_one_scale n a = table_ext n (λ k. negsuc 0 *ℤ at a k) (λ k. neg_ℤ (at a k)) (λ k h. z_minus_mul (at a k))

-- a factor counts modulo q
pub factor : (q n : ℕ) (c : ℤ) (a : List ℤ) → 0 < q → reduced q n (scale n (pos (rem q c)) a) ≡ reduced q n (scale n c a)
factor q n c a p = reduced_same q n (scale n (pos (rem q c)) a) (scale n c a) p (record { each = λ k h. rw (at-scale n (pos (rem q c)) a k h, at-scale n c a k h) (cong_mul q (pos (rem q c)) c (at a k) (at a k) (cong_self q c p) (cong_refl q (at a k))) })
