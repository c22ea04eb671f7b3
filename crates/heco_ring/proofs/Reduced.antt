-- What a list of remainders has at each place, and when two are one.
use Prim.Native.Nat.{ℕ, ◌<◌}
use lib.IntN.{ℤ}
use lib.ListN.{length, get_or}
use mathlib.Core.List.{List}
use mathlib.Core.Path.{◌≡◌, sym, ◌∙◌}
use native.Mathlib.Omega.{arith}
use Rattle.std.proofs.lemmas.List.{ext_get_or}
use Rattle.std.proofs.lemmas.List.FromFn.{get_or-map-range_with_len, length-map-range_with_len}
use Rattle.heco_ring.proofs.Remainders.{rem-lt, rem_cong, cong_self}
use Rattle.heco_ring.proofs.Wrapping.{at-wholes}
use Rattle.heco_ring.specs.Remainders.{rem, reduced, Same}
use Rattle.heco_ring.specs.Ring.{at, wholes}

-- What a list of remainders has at each place, and when two are one.

pub length-reduced : (q n : ℕ) (a : List ℤ) → length (reduced q n a) ≡ n
unfolding reduced
length-reduced q n a = length-map-range_with_len (λ k. rem q (at a k)) 0 n

pub at-reduced : (q n : ℕ) (a : List ℤ) (k : ℕ) → k < n → get_or (reduced q n a) k 0 ≡ rem q (at a k)
unfolding reduced
at-reduced q n a k h = get_or-map-range_with_len (λ k. rem q (at a k)) 0 n k k 0 h (omega arith)

-- each place is below q
pub reduced-lt : (q n : ℕ) (a : List ℤ) (k : ℕ) → 0 < q → k < n → get_or (reduced q n a) k 0 < q
reduced-lt q n a k p h = rw (at-reduced q n a k h) (rem-lt q (at a k) p)

-- a list that has the remainders is the list of remainders
pub filled : (q n : ℕ) (a : List ℤ) (xs : List ℕ) → length xs ≡ n → ((k : ℕ) → k < n → get_or xs k 0 ≡ rem q (at a k)) → xs ≡ reduced q n a
filled q n a xs e h = ext_get_or 0 xs (reduced q n a) (e ∙ sym (length-reduced q n a)) (λ k l. let kn : k < n = omega arith in h k kn ∙ sym (at-reduced q n a k kn))

pub same_wholes : (q n : ℕ) (a : List ℤ) → 0 < q → Same q n (wholes (reduced q n a)) a
same_wholes q n a p = record { each = λ k h. rw (at-wholes (reduced q n a) k, at-reduced q n a k h) (cong_self q (at a k) p) }

pub reduced_same : (q n : ℕ) (a b : List ℤ) → 0 < q → Same q n a b → reduced q n a ≡ reduced q n b
reduced_same q n a b p s = ext_get_or 0 (reduced q n a) (reduced q n b) (length-reduced q n a ∙ sym (length-reduced q n b)) (λ k l.
    let kn : k < n = omega (arith, length-reduced q n a) in
    at-reduced q n a k kn ∙ rem_cong q (at a k) (at b k) p (s.each k kn) ∙ sym (at-reduced q n b k kn))
