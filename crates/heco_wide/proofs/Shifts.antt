-- Centred coefficients, with q/2 added to each, and their limbs.
use Prim.Native.Nat.{ℕ, ◌+◌, ◌-◌, ◌*◌, ◌/◌, ◌%◌, ◌^◌, ◌<◌, ◌≤◌}
use borrow.Author.Differences.{abs_is}
use lib.Dec.{ltb}
use lib.IntN.{ℤ, pos, ◌+ℤ◌, ◌-ℤ◌, ◌*ℤ◌, neg_ℤ, nat_abs}
use lib.ListN.{length, get_or}
use mathlib.Core.List.{List}
use mathlib.Core.Logic.{inl, inr}
use mathlib.Core.Path.{◌≡◌, refl, sym, ap, ◌∙◌}
use native.Mathlib.Omega.{arith}
use Rattle.std.proofs.lemmas.Bool.{cases_Bool, ltb-true, ltb-false}
use Rattle.heco_nums.specs.Arithmetic.{centre_q}
use Rattle.heco_ring.proofs.Integers.{lines, monomials}
use Rattle.heco_ring.proofs.Pairing.{at-table}
use Rattle.heco_ring.proofs.Wrapping.{at-wholes}
use Rattle.heco_ring.specs.Ring.{at, wholes}
use Rattle.heco_scheme.specs.Rounding.{centred}
use Rattle.heco_transform.proofs.Parts.{parts_at, parts_below}
use Rattle.heco_transform.specs.Images.{bit_fields}
use Rattle.heco_wide.specs.Limbs.{Limbs, IsLimb, AreLimbsOf}

pub shift_low : (c : ℕ) → c < 2 ^ 57 → pos (c + 2 ^ 57) -ℤ pos (2 ^ 57) ≡ centre_q c
unfolding centre_q
shift_low c h = elim (cases_Bool (ltb c (2 ^ 57))) [
  | inl e ↦ rw e (omega (arith, lines))
  | inr e ↦ absurd (omega (arith, ltb-false c (2 ^ 57) e))
]

pub shift_high : (c : ℕ) → 2 ^ 57 ≤ c → pos (c - 2 ^ 57) -ℤ pos (2 ^ 57) ≡ centre_q c
unfolding centre_q
shift_high c h = elim (cases_Bool (ltb c (2 ^ 57))) [
  | inl e ↦ absurd (omega (arith, ltb-true c (2 ^ 57) e))
  | inr e ↦ rw e (omega (arith, lines))
]

word_parts : (w : ℕ) → w ≡ w / 2 ^ 0 % 2 ^ 19 + 2 ^ 19 * (w / 2 ^ 19 % 2 ^ 19 + 2 ^ 19 * (w / 2 ^ 38))
word_parts w = omega arith

-- what is taken away from all is taken from the highest
less_high : (c k z l m h : ℤ) → c *ℤ (c *ℤ k) ≡ z → (l +ℤ c *ℤ (m +ℤ c *ℤ h)) +ℤ neg_ℤ z ≡ l +ℤ c *ℤ (m +ℤ c *ℤ (h +ℤ neg_ℤ k))
less_high c k z l m h e = rw (← e) (simp monomials (omega (arith, lines)))

word_limbs : (w : ℕ) → pos w -ℤ pos (2 ^ 57) ≡ pos (w / 2 ^ 0 % 2 ^ 19) +ℤ pos (2 ^ 19) *ℤ (pos (w / 2 ^ 19 % 2 ^ 19) +ℤ pos (2 ^ 19) *ℤ (pos (w / 2 ^ 38) -ℤ pos (2 ^ 19)))
word_limbs w = ap (λ (x : ℕ). pos x -ℤ pos (2 ^ 57)) (word_parts w) ∙ less_high (pos (2 ^ 19)) (pos (2 ^ 19)) (pos (2 ^ 57)) (pos (w / 2 ^ 0 % 2 ^ 19)) (pos (w / 2 ^ 19 % 2 ^ 19)) (pos (w / 2 ^ 38)) refl

high_small : (w : ℕ) → w < 2 ^ 58 → nat_abs (pos (w / 2 ^ 38) -ℤ pos (2 ^ 19)) ≤ 2 ^ 19
high_small w h = omega (arith, lines, abs_is)

-- the limbs of shifted words
abbrev pub limbs_of : List ℕ → List ℤ → Limbs
limbs_of w high = record { low = wholes (bit_fields 0 19 w); middle = wholes (bit_fields 19 19 w); high = high }

pub field_limb : (s n : ℕ) (w : List ℕ) → length w ≡ n → IsLimb n (wholes (bit_fields s 19 w))
field_limb s n w e = record { each = λ k l. rw (at-wholes (bit_fields s 19 w) k) (let h : k < length w = omega arith in omega (arith, parts_below s 19 k w h)) }

pub high_limb : (n : ℕ) (w : List ℕ) (high : List ℤ) → ((k : ℕ) → k < n → get_or w k 0 < 2 ^ 58) →
    ((k : ℕ) → k < n → get_or high k (pos 0) ≡ pos (get_or w k 0 / 2 ^ 38) -ℤ pos (2 ^ 19)) → IsLimb n high
unfolding at
high_limb n w high b h = record { each = λ k l. rw (h k l) (high_small (get_or w k 0) (b k l)) }

high_at : (n k : ℕ) (w : List ℕ) (high : List ℤ) → ((k : ℕ) → k < n → get_or high k (pos 0) ≡ pos (get_or w k 0 / 2 ^ 38) -ℤ pos (2 ^ 19)) → k < n → at high k ≡ pos (get_or w k 0 / 2 ^ 38) -ℤ pos (2 ^ 19)
unfolding at
high_at n k w high h l = h k l

centred_at : (n k : ℕ) (c : List ℕ) → k < n → at (centred n c) k ≡ centre_q (get_or c k 0)
unfolding centred
centred_at n k c l = at-table n (λ k. centre_q (get_or c k 0)) k l

pub limbs_add_up : (n : ℕ) (c w : List ℕ) (high : List ℤ) → length w ≡ n → ((k : ℕ) → k < n → pos (get_or w k 0) -ℤ pos (2 ^ 57) ≡ centre_q (get_or c k 0)) →
    ((k : ℕ) → k < n → get_or high k (pos 0) ≡ pos (get_or w k 0 / 2 ^ 38) -ℤ pos (2 ^ 19)) → AreLimbsOf n (centred n c) (limbs_of w high)
limbs_add_up n c w high e s h = record {
  each = λ k l.
      let inside : k < length w = omega arith in
      rw (high_at n k w high h l, centred_at n k c l, at-wholes (bit_fields 0 19 w) k, at-wholes (bit_fields 19 19 w) k, parts_at 0 19 k w inside, parts_at 19 19 k w inside)
      (sym (s k l) ∙ word_limbs (get_or w k 0));
}
