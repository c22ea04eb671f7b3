-- The slots of both rows, place by place.
use Prim.Native.Nat.{ℕ, ◌+◌, ◌*◌, ◌-◌, ◌/◌, ◌%◌, ◌^◌, ◌<◌, ◌≤◌}
use native.Mathlib.Omega.{arith}
use native.Mathlib.Nat.{mod-mod, one-le-pow, mul-add-mod_self_left, mul-le-mul_right}
use mathlib.Core.Path.{◌≡◌, sym, ap, ◌∙◌}
use mathlib.Core.List.{List}
use lib.IntN.{pos, ◌*ℤ◌}
use lib.ListN.{length, get_or}
use Rattle.std.specs.Prelude.{slice_set}
use mathlib.Core.Logic.{inl, inr}
use Rattle.std.proofs.lemmas.Bool.{cases_eq}
use Rattle.std.proofs.lemmas.List.{get_or-set_same, get_or-set_other}
use Rattle.std.proofs.lemmas.List.FromFn.{fill_by_all}
use Rattle.heco_nums.specs.declared.preset.Preset.{Preset}
use Rattle.heco_nums.proofs.PresetFacts.{facts}
use Rattle.heco_ring.specs.Ring.{sum_z, at, wholes}
use Rattle.heco_ring.specs.Slots.{value}
use Rattle.heco_ring.proofs.Remainders.{rem_cong, rem_nat}
use Rattle.heco_ring.proofs.SlotLaws.{value_round}
use Rattle.heco_slots.specs.Rows.{slot_in, row_of}
use Rattle.heco_slots.proofs.Terms.{Summed}

-- the last remainder
pub summed_value : (n t z w s : ℕ) (m : List ℕ) → 0 < t → Summed t n s (λ k. at (wholes m) k *ℤ pos (z ^ (k * w))) → s % t ≡ value n t z w (wholes m)
unfolding value
summed_value n t z w s m h S = sym (rem_nat t s) ∙ rem_cong t (pos s) (sum_z n (λ k. at (wholes m) k *ℤ pos (z ^ (k * w)))) h S.same

-- M - X is (M - 1) X modulo M
turned_back : (M X g : ℕ) → 1 < M → 1 ≤ X → g ≡ X % M → (M - g) % M ≡ ((M - 1) * X) % M
turned_back M X g h one e =
    let q : ℕ = X / M in
    let split : M * q + X % M ≡ X = omega arith in
    let up : (M - 1) * X + X ≡ M * X = less (M - 1) M X (omega arith) in
    let few : q + 1 ≤ X = smaller M q (X % M) X h split one in
    let parts : M * (X - (q + 1)) + M * (q + 1) ≡ M * X = back M X (q + 1) few in
    let last : (M - 1) * X ≡ M * (X - (q + 1)) + (M - g) = final M X q g ((M - 1) * X) (M * (X - (q + 1))) (rw (← e) at split) up parts (omega arith) in
    sym (ap (λ (x : ℕ). x % M) last ∙ mul-add-mod_self_left M (X - (q + 1)) (M - g))
  where
    less : (w M X : ℕ) → w + 1 ≡ M → w * X + X ≡ M * X
    less w M X e = rw (← e) (omega arith)

    smaller : (M q r X : ℕ) → 1 < M → M * q + r ≡ X → 1 ≤ X → q + 1 ≤ X
    smaller M q r X h e one = let two : 2 * q ≤ M * q = mul-le-mul_right q h in omega arith

    back : (M X a : ℕ) → a ≤ X → M * (X - a) + M * a ≡ M * X
    back M X a h = let e : X - a + a ≡ X = omega arith in let spread : M * (X - a) + M * a ≡ M * (X - a + a) = omega arith in spread ∙ ap (λ (y : ℕ). M * y) e

    final : (M X q g A B : ℕ) → M * q + g ≡ X → A + X ≡ M * X → B + M * (q + 1) ≡ M * X → g ≤ M → A ≡ B + (M - g)
    final M X q g A B e f h l = let p : M * (q + 1) ≡ M * q + M = omega arith in omega arith

module _ (p : Preset) (m : List ℕ) (j g : ℕ) (place : g ≡ 3 ^ j % (2 * p.n)) where
  two : 1 < 2 * p.n
  two = omega (arith, (facts p).n_pos)

  pub first_value : value p.n p.t p.zeta g (wholes m) ≡ slot_in p 1 m j
  unfolding slot_in
  first_value =
      let one : 1 * 3 ^ j ≡ 3 ^ j = omega arith in
      value_round p.n p.t p.zeta g (1 * 3 ^ j) (wholes m) (facts p).n_pos (facts p).t_pos (facts p).minus_one
      (ap (λ (x : ℕ). x % (2 * p.n)) place ∙ mod-mod (3 ^ j) (2 * p.n) ∙ ap (λ (x : ℕ). x % (2 * p.n)) (sym one))

  pub second_value : value p.n p.t p.zeta (2 * p.n - g) (wholes m) ≡ slot_in p (2 * p.n - 1) m j
  unfolding slot_in
  second_value = value_round p.n p.t p.zeta (2 * p.n - g) ((2 * p.n - 1) * 3 ^ j) (wholes m) (facts p).n_pos (facts p).t_pos (facts p).minus_one
      (turned_back (2 * p.n) (3 ^ j) g two (one-le-pow j 3 (omega arith)) place)

-- one place more
pub one_more : (xs : List ℕ) (j v : ℕ) (f : ℕ → ℕ) → j < length xs → ((i : ℕ) → i < j → get_or xs i 0 ≡ f i) → v ≡ f j → (i : ℕ) → i < j + 1 → get_or (slice_set xs j v) i 0 ≡ f i
one_more xs j v f h done new i l = elim (cases_eq i j) [
  | inl e ↦ rw e (get_or-set_same xs j v 0 h ∙ new)
  | inr ne ↦ (get_or-set_other xs j i v 0 ne ∙ done i (omega arith))
]

pub row_filled : (p : Preset) (e : ℕ) (m out : List ℕ) → length out ≡ p.slots → ((j : ℕ) → j < length out → get_or out j 0 ≡ slot_in p e m j) → out ≡ row_of p e m
unfolding row_of
row_filled p e m out l h = fill_by_all (slot_in p e m) out p.slots 0 l (λ k kl. h k (omega arith))
