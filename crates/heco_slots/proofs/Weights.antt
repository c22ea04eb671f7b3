-- The sizes of the coefficients that a plain vector weighs by.
use Prim.Native.Nat.{ℕ, zero, suc, ◌+◌, ◌*◌, ◌<◌, ◌≤◌}
use native.Mathlib.Omega.{arith}
use mathlib.Core.Path.{◌≡◌, refl, ap, ◌∙◌}
use mathlib.Core.Logic.{inl, inr}
use mathlib.Core.List.{List}
use borrow.Author.Differences.{abs_is}
use lib.Dec.{ltb}
use lib.IntN.{nat_abs}
use lib.ListN.{length, get_or}
use Rattle.std.specs.Prelude.{All}
use Rattle.std.proofs.lemmas.Bool.{cases_Bool, ltb-true, ltb-false}
use Rattle.std.proofs.lemmas.List.FromFn.{get_or-map-range_with_len, length-map-range_with_len}
use Rattle.heco_nums.specs.Arithmetic.{centre_t}
use Rattle.heco_nums.specs.declared.preset.Preset.{Preset}
use Rattle.heco_nums.proofs.PresetFacts.{facts}
use Rattle.heco_ring.specs.Sizes.{sum_n, weight}
use Rattle.heco_ring.proofs.Integers.{lines}
use Rattle.heco_ring.proofs.Pairing.{at-table}
use Rattle.heco_ring.proofs.Remainders.{rem-lt}
use Rattle.heco_slots.specs.Rows.{encode_two_at, encoded_two_at, encoded_two}
use Rattle.heco_slots.specs.Weighing.{weigher_by, vector_weight_by, vector_weight}

pub centred_small : (t c : ℕ) → c < t → t ≤ 65537 → nat_abs (centre_t t c) ≤ 32768
unfolding centre_t
centred_small t c h s = elim (cases_Bool (ltb (2 * c) t)) [
  | inl e ↦ rw e (omega (arith, lines, abs_is, ltb-true (2 * c) t e))
  | inr e ↦ rw e (omega (arith, lines, abs_is, ltb-false (2 * c) t e))
]

-- the size of coefficient k
abbrev pub sizes : ℕ → List ℕ → ℕ → ℕ
sizes t m k = nat_abs (centre_t t (get_or m k 0))

pub sizes_none : (t : ℕ) (m : List ℕ) → 0 ≡ sum_n 0 (sizes t m)
unfolding sum_n
sizes_none t m = refl

pub sizes_more : (t i s x r : ℕ) (m : List ℕ) → s ≡ sum_n i (sizes t m) → x ≡ sizes t m i → r ≡ s + x → r ≡ sum_n (i + 1) (sizes t m)
unfolding sum_n
sizes_more t i s x r m e f g = let n : i + 1 ≡ suc i = omega arith in rw (n, g, e, f) refl

sum_n_ext : (n : ℕ) (f g : ℕ → ℕ) → ((k : ℕ) → k < n → f k ≡ g k) → sum_n n f ≡ sum_n n g
unfolding sum_n
sum_n_ext zero f g h = refl
sum_n_ext (suc n) f g h = let e : sum_n n f ≡ sum_n n g = sum_n_ext n f g (λ k l. h k (omega arith)) in let d : f n ≡ g n = h n (omega arith) in cc

pub two_at : (p : Preset) (v w : List ℕ) (k : ℕ) → k < p.n → get_or (encoded_two p v w) k 0 ≡ encoded_two_at p v w k
unfolding encoded_two
two_at p v w k h = get_or-map-range_with_len (encoded_two_at p v w) 0 p.n k k 0 h (omega arith)

pub two_long : (p : Preset) (v w : List ℕ) → length (encoded_two p v w) ≡ p.n
unfolding encoded_two
two_long p v w = length-map-range_with_len (encoded_two_at p v w) 0 p.n

two_at_below : (p : Preset) (v w : List ℕ) (k : ℕ) → encoded_two_at p v w k < p.t
unfolding encoded_two_at
two_at_below p v w k = rem-lt p.t _ (facts p).t_pos

pub two_below : (p : Preset) (v w : List ℕ) → All (λ x. x < p.t) (encoded_two p v w)
unfolding encoded_two
two_below p v w i d l = rw (get_or-map-range_with_len (encoded_two_at p v w) 0 p.n i i d (omega (arith, two_long p v w)) (omega arith)) (two_at_below p v w i)

pub vector_weight_is : (p : Preset) (v : List ℕ) → sum_n p.n (sizes p.t (encoded_two p v v)) ≡ vector_weight p v
unfolding vector_weight_by weight weigher_by encoded_two_at
vector_weight_is p v = sum_n_ext p.n _ _ (λ k h.
    ap (λ (x : ℕ). nat_abs (centre_t p.t x)) (two_at p v v k h)
    ∙ rw (at-table p.n (λ k. centre_t p.t (encode_two_at p.n p.slots p.t p.zeta p.ninv v v k)) k h) refl)
