-- The steps of a switch of keys.
use Prim.Native.Nat.{ℕ, zero, suc, ◌+◌, ◌*◌, ◌/◌, ◌%◌, ◌^◌, ◌<◌, ◌≤◌}
use native.Mathlib.Nat.{pow-suc}
use native.Mathlib.Omega.{arith}
use mathlib.Core.Path.{◌≡◌, refl, sym, ap, ◌∙◌}
use mathlib.Core.List.{List, []}
use lib.IntN.{ℤ, pos}
use lib.ListN.{length, get_or}
use Rattle.std.proofs.lemmas.List.{ext_get_or, length-map}
use Rattle.std.specs.Prelude.{replicate}
use Rattle.heco_ring.specs.Ring.{table, wholes, plus, times, sum_lists}
use Rattle.heco_ring.specs.Remainders.{reduced, Same}
use Rattle.heco_ring.proofs.Congruence.{same_refl, same_plus}
use Rattle.heco_ring.proofs.Pairing.{at-table, length-table}
use Rattle.heco_ring.proofs.Reduced.{same_wholes, reduced_same}
use Rattle.heco_ring.proofs.Wrapping.{at-wholes}
use Rattle.heco_scheme.specs.Gates.{digits}
use Rattle.heco_scheme.specs.Keys.{row}
use Rattle.heco_scheme.specs.Noise.{q}
use Rattle.heco_scheme.proofs.Empty.{same_zeros, empty_zeros}
use Rattle.heco_scheme.proofs.SwitchedNoise.{at-digits}
use Rattle.heco_transform.specs.Halves.{AreSums, IsSmall}
use Rattle.heco_transform.specs.Images.{bit_fields}
use Rattle.heco_transform.specs.declared.half.HalfSums.{HalfSums}
use Rattle.heco_transform.proofs.Parts.{length-bit_fields, parts_at}
use Rattle.heco_transform.proofs.WholeNumbers.{at_is}
use Rattle.heco_bfv.specs.Switching.{AreGained}
use Rattle.heco_bfv.proofs.Seen.{zeros}

pub same_of : (n : ℕ) (X : List ℕ) (a : List ℤ) → X ≡ reduced q n a → Same q n (wholes X) a
same_of n X a e = rw e (same_wholes q n a (omega arith))

-- ---- digits
power_four : (i : ℕ) → 2 ^ (2 * i) ≡ 4 ^ i
power_four zero = refl
power_four (suc i) = let e : 2 * suc i ≡ suc (suc (2 * i)) = omega arith in rw e (omega (arith, pow-suc 2 (suc (2 * i)), pow-suc 2 (2 * i), pow-suc 4 i, power_four i))

long_wholes : (a : List ℕ) → length (wholes a) ≡ length a
unfolding wholes
long_wholes a = search (length-map)

-- two bits of each coefficient are a digit of each
pub digits_are : (n i : ℕ) (b : List ℕ) → length b ≡ n → wholes (bit_fields (2 * i) 2 b) ≡ digits n b i
unfolding digits
digits_are n i b e =
    let d : ℕ → ℤ = λ k. pos (get_or b k 0 / 4 ^ i % 4) in
    let l : length (wholes (bit_fields (2 * i) 2 b)) ≡ n = long_wholes (bit_fields (2 * i) 2 b) ∙ length-bit_fields (2 * i) 2 b ∙ e in
    ext_get_or (pos 0) (wholes (bit_fields (2 * i) 2 b)) (table n d) (l ∙ sym (length-table n d)) (λ k h.
    let kn : k < n = omega (arith, l) in
    let kb : k < length b = omega (arith, e) in
    sym (at_is (wholes (bit_fields (2 * i) 2 b)) k) ∙ at-wholes (bit_fields (2 * i) 2 b) k ∙ ap pos (parts_at (2 * i) 2 k b kb ∙ ap (λ x. get_or b k 0 / x % 4) (power_four i)) ∙ sym (at-table n d k kn) ∙ at_is (table n d) k)

pub digits_small : (n i : ℕ) (b : List ℕ) → IsSmall n (digits n b i)
digits_small n i b = record { each = λ k h. rw (at-digits n i k b h) (below (get_or b k 0 / 4 ^ i)) }
  where
    below : (x : ℕ) → x % 4 ≤ 3
    below x = omega arith

-- ---- sums
pub gained_none : (depth : ℕ) (f : ℕ → List ℤ) (s : HalfSums) → AreSums depth (table (2 ^ depth) (λ k. pos 0)) s → AreSums depth (sum_lists (2 ^ depth) 0 f) s
unfolding sum_lists
gained_none depth f s h = h

pub gained_next : (depth i : ℕ) (f : ℕ → List ℤ) (s : HalfSums) → AreSums depth (plus (2 ^ depth) (sum_lists (2 ^ depth) i f) (f i)) s → AreSums depth (sum_lists (2 ^ depth) (i + 1) f) s
unfolding sum_lists
gained_next depth i f s h = let e : i + 1 ≡ suc i = omega arith in rw e h

pub gained_row : (depth i : ℕ) (b : List ℕ) (k : List (List ℕ × List ℕ)) (x y X Y : HalfSums) → AreGained depth b k i x y → X.low.count ≡ x.low.count + 1 → Y.low.count ≡ y.low.count + 1 →
    ((S : List ℤ) → AreSums depth S x → AreSums depth (plus (2 ^ depth) S (times (2 ^ depth) (digits (2 ^ depth) b i) (wholes (row k i).0))) X) →
    ((S : List ℤ) → AreSums depth S y → AreSums depth (plus (2 ^ depth) S (times (2 ^ depth) (digits (2 ^ depth) b i) (wholes (row k i).1))) Y) → AreGained depth b k (i + 1) X Y
gained_row depth i b k x y X Y g cx cy sx sy = record {
  first_count = omega (arith, cx, g.first_count);
  second_count = omega (arith, cy, g.second_count);
  first = gained_next depth i (λ j. times (2 ^ depth) (digits (2 ^ depth) b j) (wholes (row k j).0)) X (sx _ g.first);
  second = gained_next depth i (λ j. times (2 ^ depth) (digits (2 ^ depth) b j) (wholes (row k j).1)) Y (sy _ g.second);
}

-- the words of a sum modulo 2^58 are its remainders
pub given : (n : ℕ) (a : List ℤ) (W X : List ℕ) → length W ≡ n → W ≡ reduced q n a → X ≡ reduced q (length W) (wholes W) → X ≡ reduced q n a
given n a W X l w x = x ∙ rw l (reduced_same q n (wholes W) a (omega arith) (same_of n W a w))

-- ---- turns
pub turn_first : (n : ℕ) (a S : List ℤ) (C X : List ℕ) → C ≡ reduced q n a → X ≡ reduced q n (plus n (wholes C) S) → X ≡ reduced q n (plus n a S)
turn_first n a S C X e x = x ∙ reduced_same q n (plus n (wholes C) S) (plus n a S) (omega arith) (same_plus q n (wholes C) a S S (same_of n C a e) (same_refl q n S))

pub turn_second : (n : ℕ) (S : List ℤ) (C X : List ℕ) → C ≡ replicate n 0 → X ≡ reduced q n (plus n (wholes C) S) → X ≡ reduced q n (plus n [] S)
turn_second n S C X e x = x ∙ reduced_same q n (plus n (wholes C) S) (plus n [] S) (omega arith) (same_plus q n (wholes C) [] S S (same_zeros q n (wholes C) [] (rw e (zeros n n)) (empty_zeros n)) (same_refl q n S))
