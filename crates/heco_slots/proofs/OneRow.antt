-- What is encoded in one row leaves the other at 0.
use Prim.Native.Nat.{ℕ, ◌*◌, ◌-◌, ◌^◌, ◌<◌}
use native.Mathlib.Omega.{arith}
use mathlib.Core.Path.{◌≡◌, sym, ap, ◌∙◌}
use mathlib.Core.Logic.{inl, inr}
use mathlib.Core.List.{List}
use lib.IntN.{ℤ, pos, ◌+ℤ◌, ◌*ℤ◌}
use lib.ListN.{length, get_or}
use Rattle.std.specs.Prelude.{All, replicate}
use Rattle.std.proofs.lemmas.Bool.{cases_lt}
use Rattle.std.proofs.lemmas.List.{ext_get_or, get_or_past, get_or-replicate, length-replicate}
use Rattle.std.proofs.lemmas.List.FromFn.{get_or-map-range_with_len, length-map-range_with_len}
use Rattle.heco_nums.specs.declared.preset.Preset.{Preset}
use Rattle.heco_nums.proofs.PresetFacts.{facts}
use Rattle.heco_ring.specs.Remainders.{rem}
use Rattle.heco_ring.specs.Slots.{encode, encode_at}
use Rattle.heco_ring.proofs.Integers.{lines, z_zero_mul}
use Rattle.heco_ring.proofs.Sums.{sum_ext}
use Rattle.heco_slots.specs.Rows.{second_row, row_of, encoded_two_at, encoded_two}
use Rattle.heco_slots.specs.Slots.{encoded}
use Rattle.heco_slots.proofs.BothRows.{second_comes_back}

module _ (p : Preset) (v w : List ℕ) (zeros : All (λ x. x ≡ 0) w) where
  nothing : (j : ℕ) → get_or w j 0 ≡ 0
  nothing j = elim (cases_lt j (length w)) [
    | inl l ↦ zeros j 0 l
    | inr g ↦ get_or_past w j 0 g
  ]

  same_term : (x z : ℤ) (y : ℕ) → y ≡ 0 → x +ℤ pos y *ℤ z ≡ x
  same_term x z y e = rw (e, z_zero_mul z) (omega (arith, lines))

  same_at : (k : ℕ) → encoded_two_at p v w k ≡ encode_at p.n p.t p.zeta p.ninv p.slots v k
  unfolding encoded_two_at encode_at
  same_at k =
      ap (λ (x : ℤ). rem p.t (pos p.ninv *ℤ x))
      (sum_ext p.slots (λ j. pos (get_or v j 0) *ℤ pos (p.zeta ^ ((2 * p.n - 1) * (k * 3 ^ j))) +ℤ pos (get_or w j 0) *ℤ pos (p.zeta ^ (k * 3 ^ j))) (λ j. pos (get_or v j 0) *ℤ pos (p.zeta ^ ((2 * p.n - 1) * (k * 3 ^ j))))
      (λ j l. same_term (pos (get_or v j 0) *ℤ pos (p.zeta ^ ((2 * p.n - 1) * (k * 3 ^ j)))) (pos (p.zeta ^ (k * 3 ^ j))) (get_or w j 0) (nothing j)))

  pub encoded_beside_zeros : encoded_two p v w ≡ encoded p v
  unfolding encoded_two encoded encode
  encoded_beside_zeros =
      let long : length (encoded_two p v w) ≡ p.n = length-map-range_with_len (encoded_two_at p v w) 0 p.n in
      ext_get_or 0 _ _ (long ∙ sym (length-map-range_with_len (λ k. encode_at p.n p.t p.zeta p.ninv p.slots v k) 0 p.n)) (λ k h.
      let l : k < p.n = omega arith in
      get_or-map-range_with_len (encoded_two_at p v w) 0 p.n k k 0 l (omega arith) ∙ same_at k
      ∙ sym (get_or-map-range_with_len (λ k. encode_at p.n p.t p.zeta p.ninv p.slots v k) 0 p.n k k 0 l (omega arith)))

all_zeros : (m : ℕ) → All (λ (x : ℕ). x ≡ 0) (replicate m 0)
all_zeros m i d l = get_or-replicate m i 0 d (omega (arith, length-replicate {A = ℕ} m 0))

all_below : (m t : ℕ) → 0 < t → All (λ (x : ℕ). x < t) (replicate m 0)
all_below m t h i d l = rw (all_zeros m i d l) h

pub second_is_zero : (p : Preset) (v : List ℕ) → row_of p (second_row p) (encoded p v) ≡ replicate p.slots 0
second_is_zero p v =
    let zeros : List ℕ = replicate p.slots 0 in
    ap (row_of p (second_row p)) (sym (encoded_beside_zeros p v (replicate p.slots 0) (all_zeros p.slots)))
    ∙ second_comes_back p v (replicate p.slots 0) (length-replicate {A = ℕ} p.slots 0) (all_below p.slots p.t (facts p).t_pos)
