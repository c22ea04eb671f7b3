-- What is encoded in two rows is read back row by row, for every preset.
use Rattle.std.proofs.Common.{◌≡◌, ◌∙◌, ℕ, ◌<◌, List, get_or, length, refl, sym, ap, arith}
use Rattle.std.specs.Prelude.{All}
use lib.IntN.{ℤ, pos, ◌+ℤ◌, ◌*ℤ◌}
use Rattle.std.proofs.lemmas.List.{ext_get_or}
use Rattle.std.proofs.lemmas.List.FromFn.{get_or-map-range_with_len}
use Rattle.heco_nums.specs.declared.preset.Preset.{Preset}
use Rattle.heco_nums.proofs.PresetFacts.{facts}
use Rattle.heco_ring.specs.Remainders.{Cong, Same}
use Rattle.heco_ring.specs.Ring.{sum_z, at, wholes, plus}
use Rattle.heco_ring.proofs.BothRows.{coefficients, back, forth, first_back, second_back}
use Rattle.heco_ring.proofs.Integers.{z_mul_add}
use Rattle.heco_ring.proofs.Linear.{at-plus}
use Rattle.heco_ring.proofs.Pairing.{at-table}
use Rattle.heco_ring.proofs.Remainders.{cong_self}
use Rattle.heco_ring.proofs.Sums.{sum_add}
use Rattle.heco_ring.proofs.Wrapping.{at-wholes}
use Rattle.heco_slots.specs.Rows.{first_row, second_row, slot_in, row_of, encoded_two, encoded_two_at}
use Rattle.heco_slots.proofs.PresetSlots.{has_slots}
use Rattle.heco_slots.proofs.SlotsInRow.{row_long, row_at}

module _ (p : Preset) (v w : List ℕ) where
  abbrev halves : List ℤ
  halves = plus p.n (coefficients p.n p.slots p.ninv (back p.n p.zeta) v) (coefficients p.n p.slots p.ninv (forth p.zeta) w)

  halves_at : (k : ℕ) → k < p.n → Cong p.t (at (wholes (encoded_two p v w)) k) (at halves k)
  unfolding encoded_two encoded_two_at
  halves_at k h =
      let f : ℕ → ℤ = λ j. pos (get_or v j 0) *ℤ back p.n p.zeta j k in
      let g : ℕ → ℤ = λ j. pos (get_or w j 0) *ℤ forth p.zeta j k in
      let split : pos p.ninv *ℤ sum_z p.slots (λ j. f j +ℤ g j) ≡ pos p.ninv *ℤ sum_z p.slots f +ℤ pos p.ninv *ℤ sum_z p.slots g =
      ap (λ (x : ℤ). pos p.ninv *ℤ x) (sum_add p.slots f g) ∙ z_mul_add (pos p.ninv) (sum_z p.slots f) (sum_z p.slots g) in
      let left : at halves k ≡ pos p.ninv *ℤ sum_z p.slots f +ℤ pos p.ninv *ℤ sum_z p.slots g =
      at-plus p.n (coefficients p.n p.slots p.ninv (back p.n p.zeta) v) (coefficients p.n p.slots p.ninv (forth p.zeta) w) k h
      ∙ rw (at-table p.n (λ k. pos p.ninv *ℤ sum_z p.slots (λ j. pos (get_or v j 0) *ℤ back p.n p.zeta j k)) k h, at-table p.n (λ k. pos p.ninv *ℤ sum_z p.slots (λ j. pos (get_or w j 0) *ℤ forth p.zeta j k)) k h) refl in
      rw (at-wholes (encoded_two p v w) k, get_or-map-range_with_len (encoded_two_at p v w) 0 p.n k k 0 h (omega arith), left, ← split)
      (cong_self p.t (pos p.ninv *ℤ sum_z p.slots (λ j. f j +ℤ g j)) (facts p).t_pos)

  same_halves : Same p.t p.n (wholes (encoded_two p v w)) halves
  same_halves = record { each = halves_at }

  pub first_comes_back : length v ≡ p.slots → All (λ x. x < p.t) v → row_of p first_row (encoded_two p v w) ≡ v
  unfolding slot_in
  first_comes_back long below = ext_get_or 0 (row_of p 1 (encoded_two p v w)) v (row_long p 1 (encoded_two p v w) ∙ sym long) (λ i h.
      let l : i < p.slots = omega (arith, row_long p 1 (encoded_two p v w)) in
      row_at p 1 (encoded_two p v w) i l ∙ first_back p.n p.slots p.t p.zeta p.ninv i v w (wholes (encoded_two p v w)) (has_slots p) same_halves l (below i 0 (omega arith)))

  pub second_comes_back : length w ≡ p.slots → All (λ x. x < p.t) w → row_of p (second_row p) (encoded_two p v w) ≡ w
  unfolding slot_in
  second_comes_back long below = ext_get_or 0 (row_of p (second_row p) (encoded_two p v w)) w (row_long p (second_row p) (encoded_two p v w) ∙ sym long) (λ i h.
      let l : i < p.slots = omega (arith, row_long p (second_row p) (encoded_two p v w)) in
      row_at p (second_row p) (encoded_two p v w) i l ∙ second_back p.n p.slots p.t p.zeta p.ninv i v w (wholes (encoded_two p v w)) (has_slots p) same_halves l (below i 0 (omega arith)))
