-- In both rows the slots of what a plain vector weighs are the products by it.
use Rattle.std.proofs.Common.{◌≡◌, ◌∙◌, ℕ, ◌<◌, ◌*◌, ◌-◌, ◌%◌, List, length, get_or, refl, sym, ap, arith}
use Rattle.std.specs.Prelude.{All}
use Rattle.heco_nums.specs.declared.preset.Preset.{Preset}
use Rattle.heco_nums.proofs.PresetFacts.{facts}
use Rattle.heco_slots.specs.Messages.{weighed}
use Rattle.heco_slots.specs.Rows.{first_row, second_row, slot_in, row_of, encoded_two}
use Rattle.heco_slots.proofs.BothRows.{first_comes_back, second_comes_back}
use Rattle.heco_slots.proofs.SlotsInRow.{row_at, in_product}

-- in a row in which v comes back
in_weighed : (p : Preset) (e : ℕ) (v a : List ℕ) (j : ℕ) → e % 2 ≡ 1 → row_of p e (encoded_two p v v) ≡ v → j < p.slots → slot_in p e (weighed p v a) j ≡ get_or v j 0 * slot_in p e a j % p.t
unfolding weighed
in_weighed p e v a j odd back h =
    in_product p e (encoded_two p v v) a j odd
    ∙ ap (λ (x : ℕ). x * slot_in p e a j % p.t) (sym (row_at p e (encoded_two p v v) j h) ∙ ap (λ (xs : List ℕ). get_or xs j 0) back)

pub first_weighed : (p : Preset) (v a : List ℕ) (j : ℕ) → length v ≡ p.slots → All (λ x. x < p.t) v → j < p.slots → slot_in p first_row (weighed p v a) j ≡ get_or v j 0 * slot_in p first_row a j % p.t
first_weighed p v a j long below h = in_weighed p 1 v a j refl (first_comes_back p v v long below) h

opposite_odd : (n : ℕ) → 0 < n → (2 * n - 1) % 2 ≡ 1
opposite_odd n h = omega arith

pub second_weighed : (p : Preset) (v a : List ℕ) (j : ℕ) → length v ≡ p.slots → All (λ x. x < p.t) v → j < p.slots → slot_in p (second_row p) (weighed p v a) j ≡ get_or v j 0 * slot_in p (second_row p) a j % p.t
second_weighed p v a j long below h = in_weighed p (2 * p.n - 1) v a j (opposite_odd p.n (facts p).n_pos) (second_comes_back p v v long below) h
