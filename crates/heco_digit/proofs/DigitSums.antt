-- Digits in base 4, and what they add up to.
use Prim.Native.Nat.{ℕ, ◌+◌, ◌-◌, ◌*◌, ◌/◌, ◌%◌, ◌^◌, ◌<◌, ◌≤◌}
use native.Mathlib.Omega.{arith}
use native.Mathlib.Nat.{mod-eq_of_lt}
use mathlib.Core.Path.{◌≡◌, sym, ap, ◌∙◌}
use mathlib.Core.List.{List, map}
use mathlib.Core.Logic.{inl, inr}
use lib.IntN.{pos}
use lib.Lanes.{put_chunk, zip2}
use lib.ListN.{length, get_or, replicate}
use lib.Bits.{bit_and}
use Rattle.std.specs.Prelude.{All}
use Rattle.std.proofs.lemmas.List.Elements.{All-get_or}
use Rattle.std.proofs.lemmas.List.FromFn.{fill_by_all}
use Rattle.std.proofs.lemmas.Bool.{cases_lt}
use Rattle.std.proofs.lemmas.Nat.{and_mask}
use Rattle.std.proofs.lemmas.Simd.{get_or-put_chunk_below, get_or-put_chunk_at, length-put_chunk, get_or-zip2, length-zip2, get_or-replicate, length-replicate}
use Rattle.std.proofs.lemmas.List.{length-map}
use Rattle.heco_ring.specs.Remainders.{reduced}
use Rattle.heco_ring.specs.Ring.{at, wholes, table, scale, sum_lists}
use Rattle.heco_ring.proofs.SlotLaws.{pow-mul}
use Rattle.heco_ring.proofs.Reduced.{filled, reduced_same}
use Rattle.heco_ring.proofs.Remainders.{rem_nat}
use Rattle.heco_ring.proofs.Wrapping.{at-wholes}
use Rattle.heco_scheme.specs.Gates.{digits}
use Rattle.heco_scheme.proofs.SwitchedNoise.{digits_same}

pub digit_is : (x i : ℕ) → bit_and (x / 2 ^ (2 * i)) 3 ≡ x / 4 ^ i % 4
digit_is x i = and_mask (x / 2 ^ (2 * i)) 2 ∙ ap (λ (y : ℕ). x / y % 4) (pow-mul 2 2 i)

-- a lane that is shifted and masked
pub lane_digit : (x : List ℕ) (i s j : ℕ) → length x ≡ 4 → s ≡ 2 * i → j < 4 → get_or (zip2 bit_and (zip2 (λ a n. a / 2 ^ n) x (replicate 4 s)) (replicate 4 3)) j 0 ≡ get_or x j 0 / 4 ^ i % 4
lane_digit x i s j l e h =
    let shift : ℕ → ℕ → ℕ = λ a n. a / 2 ^ n in
    let three : ℕ = 3 in
    let lt : j < length (replicate 4 three) = omega (arith, length-replicate 4 three) in
    let ls : j < length (replicate 4 s) = omega (arith, length-replicate 4 s) in
    let long : length (zip2 shift x (replicate 4 s)) ≡ 4 = length-zip2 shift x (replicate 4 s) (l ∙ sym (length-replicate 4 s)) ∙ l in
    get_or-zip2 bit_and (zip2 shift x (replicate 4 s)) (replicate 4 3) j 0 0 0 (omega arith) lt
    ∙ ap (λ y. bit_and y (get_or (replicate 4 3) j 0)) (get_or-zip2 shift x (replicate 4 s) j 0 0 0 (omega arith) ls)
    ∙ rw (get_or-replicate 4 j three 0 h, get_or-replicate 4 j s 0 h, e) (digit_is (get_or x j 0) i)

-- out has the digits of the coefficients below m
pub record Digits (m i : ℕ) (a out : List ℕ) : Type 0 where
  pub long : length out ≡ length a
  pub done : (k : ℕ) → k < m → get_or out k 0 ≡ get_or a k 0 / 4 ^ i % 4

-- four more
pub digits_four : (m i : ℕ) (a out new v : List ℕ) → length v ≡ 4 → m + 4 ≤ length out → new ≡ put_chunk m out v → Digits m i a out →
    ((j : ℕ) → j < 4 → get_or v j 0 ≡ get_or a (m + j) 0 / 4 ^ i % 4) → Digits (m + 4) i a new
digits_four m i a out new v l room e d lanes = record {
  long = ap length e ∙ length-put_chunk m out v ∙ d.long;
  done = λ k h. rw e (elim (cases_lt k m) [
    | inl lt ↦ rw get_or-put_chunk_below (d.done k lt)
    | inr le ↦ (let back : m + (k - m) ≡ k = omega arith in
        let inside : k - m < length v = omega arith in
        let there = rw back at (get_or-put_chunk_at m out v (k - m) 0 inside (omega arith)) in
        there ∙ rw back at (lanes (k - m) (omega arith)))
  ]);
}

-- a list of n digits
pub digits_filled : (n i : ℕ) (a out : List ℕ) → length out ≡ n → ((k : ℕ) → k < n → get_or out k 0 ≡ get_or a k 0 / 4 ^ i % 4) → wholes out ≡ digits n a i
unfolding at wholes digits table
digits_filled n i a out l h =
    fill_by_all (λ k. pos (get_or a k 0 / 4 ^ i % 4)) (map pos out) n (pos 0) (length-map out pos ∙ l) (λ k kl. at_wholes k ∙ ap pos (h k (omega arith)))
  where
    at_wholes : (k : ℕ) → get_or (map pos out) k (pos 0) ≡ pos (get_or out k 0)
    at_wholes k = at-wholes out k

-- a list below q is its own remainder
kept : (n : ℕ) (a : List ℕ) → length a ≡ n → All (λ x. x < 2 ^ 58) a → a ≡ reduced (2 ^ 58) n (wholes a)
kept n a l h = filled (2 ^ 58) n (wholes a) a l (λ k kn. sym (rw (at-wholes a k, rem_nat (2 ^ 58) (get_or a k 0)) (mod-eq_of_lt (All-get_or (λ x. x < 2 ^ 58) a k 0 (omega arith) h))))

pub digits_together : (n : ℕ) (a : List ℕ) → length a ≡ n → All (λ x. x < 2 ^ 58) a → reduced (2 ^ 58) n (sum_lists n 29 (λ i. scale n (pos (4 ^ i)) (digits n a i))) ≡ a
digits_together n a l h = reduced_same (2 ^ 58) n (sum_lists n 29 (λ i. scale n (pos (4 ^ i)) (digits n a i))) (wholes a) (omega arith) (digits_same n a) ∙ sym (kept n a l h)
