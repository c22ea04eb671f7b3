-- What is encoded in two rows is read back: a term of one row comes to 0 at each root of the other.
use Prim.Native.Nat.{ℕ, zero, suc, ◌<◌, ◌+◌, ◌*◌, ◌/◌, ◌%◌, ◌^◌, ◌-◌}
use lib.IntN.{ℤ, pos, ◌*ℤ◌}
use lib.ListN.{get_or}
use mathlib.Core.List.{List}
use mathlib.Core.Logic.{inl, inr}
use mathlib.Core.Path.{◌≡◌, refl, sym, ap, ◌∙◌, subst}
use native.Mathlib.Nat.{mod-eq_of_lt, one-le-pow, pow-suc, zero-mod}
use native.Mathlib.Omega.{arith}
use Rattle.std.specs.Prelude.{◌⊎◌}
use Rattle.std.proofs.lemmas.Nat.{pow-add}
use Rattle.heco_ring.specs.Remainders.{rem, Cong, Same}
use Rattle.heco_ring.specs.Ring.{sum_z, at, table, plus}
use Rattle.heco_ring.specs.Slots.{value, HasSlots}
use Rattle.heco_ring.proofs.Integers.{z_mul_zero}
use Rattle.heco_ring.proofs.Pairing.{at-table}
use Rattle.heco_ring.proofs.Powers.{one_mod}
use Rattle.heco_ring.proofs.Remainders.{rem_cong, cong_mul, cong_refl, cong_sum, cong_eq, rem_nat}
use Rattle.heco_ring.proofs.RoundTrip.{Roots, roots, both, kernel_other, kernel_same, less_one, regroup, last, sum_ones, cong_one_term, sum_of_even}
use Rattle.heco_ring.proofs.SlotLaws.{pow-mul, value_same, value_plus, three_odd}
use Rattle.heco_ring.proofs.Sums.{sum_ext, sum_zero}

-- ---- powers of 3 are 1 or 3 modulo 8, so a sum of two is even and no multiple of 8

three_eight : (j : ℕ) → (h : ℕ) × ((3 ^ j ≡ 8 * h + 1) ⊎ (3 ^ j ≡ 8 * h + 3))
three_eight zero = (0, inl refl)
three_eight (suc j) = let r = three_eight j in elim (r.1) [
  | inl e ↦ (3 * r.0, inr (omega (arith, pow-suc 3 j, e)))
  | inr e ↦ (3 * r.0 + 1, inl (omega (arith, pow-suc 3 j, e)))
]

apart_sums : (X Y a b A B : ℕ) → (X ≡ 8 * a + 1) ⊎ (X ≡ 8 * a + 3) → (Y ≡ 8 * b + 1) ⊎ (Y ≡ 8 * b + 3) → X + Y + 8 * A ≡ 8 * B → ⊥
apart_sums X Y a b A B (inl e) (inl f) h = omega arith
apart_sums X Y a b A B (inl e) (inr f) h = omega arith
apart_sums X Y a b A B (inr e) (inl f) h = omega arith
apart_sums X Y a b A B (inr e) (inr f) h = omega arith

even_sum : (X Y E a b A B : ℕ) → X ≡ 2 * a + 1 → Y ≡ 2 * b + 1 → E + 2 * A ≡ X + Y + 2 * B → E % 2 ≡ 1 → ⊥
even_sum X Y E a b A B e f g h = omega arith

-- ---- the value of a list of coefficients that are sums of powers

kernel_at : (z x y E k : ℕ) → x + y ≡ E * k → pos (z ^ x) *ℤ pos (z ^ y) ≡ pos ((z ^ E) ^ k)
kernel_at z x y E k e = ap pos (sym (pow-add z x y) ∙ ap (λ (u : ℕ). z ^ u) e ∙ pow-mul z E k)

-- the coefficients (1/n) times the sum of v_j U j k
abbrev pub coefficients : ℕ → ℕ → ℕ → (ℕ → ℕ → ℤ) → List ℕ → List ℤ
coefficients n N ninv U v = table n (λ k. pos ninv *ℤ sum_z N (λ j. pos (get_or v j 0) *ℤ U j k))

abbrev powers : ℕ → ℕ → ℕ → ℤ
powers n z E = sum_z n (λ k. pos ((z ^ E) ^ k))

module _ (n N t z ninv b : ℕ) (U : ℕ → ℕ → ℤ) (E : ℕ → ℕ) (v : List ℕ) (kernel : (j k : ℕ) → U j k *ℤ pos (z ^ (k * b)) ≡ pos ((z ^ E j) ^ k)) (t_pos : 0 < t) where
  grouped : sum_z n (λ k. at (coefficients n N ninv U v) k *ℤ pos (z ^ (k * b))) ≡ pos ninv *ℤ sum_z N (λ j. pos (get_or v j 0) *ℤ powers n z (E j))
  grouped =
      sum_ext n (λ k. at (coefficients n N ninv U v) k *ℤ pos (z ^ (k * b))) (λ k. pos ninv *ℤ sum_z N (λ j. pos (get_or v j 0) *ℤ U j k) *ℤ pos (z ^ (k * b))) (λ k l.
      ap (λ (x : ℤ). x *ℤ pos (z ^ (k * b))) (at-table n (λ k. pos ninv *ℤ sum_z N (λ j. pos (get_or v j 0) *ℤ U j k)) k l))
      ∙ regroup n N (pos ninv) (λ j. pos (get_or v j 0)) (λ k. pos (z ^ (k * b))) U (λ j k. pos ((z ^ E j) ^ k)) kernel

  none_at : (j : ℕ) → Cong t (powers n z (E j)) (pos 0) → Cong t (pos (get_or v j 0) *ℤ powers n z (E j)) (pos 0)
  none_at j c = subst (λ (x : ℤ). Cong t (pos (get_or v j 0) *ℤ powers n z (E j)) x) (z_mul_zero (pos (get_or v j 0)))
      (cong_mul t (pos (get_or v j 0)) (pos (get_or v j 0)) (powers n z (E j)) (pos 0) (cong_refl t (pos (get_or v j 0))) c)

  -- where every row of powers comes to 0
  nothing : ((j : ℕ) → j < N → Cong t (powers n z (E j)) (pos 0)) → value n t z b (coefficients n N ninv U v) ≡ 0
  unfolding value
  nothing none =
      let S : ℤ = sum_z N (λ j. pos (get_or v j 0) *ℤ powers n z (E j)) in
      let each : Cong t S (pos 0) = subst (λ (x : ℤ). Cong t S x) (sum_zero N) (cong_sum t N (λ j. pos (get_or v j 0) *ℤ powers n z (E j)) (λ j. pos 0) (λ j l. none_at j (none j l))) in
      let all : Cong t (pos ninv *ℤ S) (pos 0) = subst (λ (x : ℤ). Cong t (pos ninv *ℤ S) x) (z_mul_zero (pos ninv)) (cong_mul t (pos ninv) (pos ninv) S (pos 0) (cong_refl t (pos ninv)) each) in
      ap (rem t) grouped ∙ rem_cong t (pos ninv *ℤ S) (pos 0) t_pos all ∙ rem_nat t 0 ∙ zero-mod t

  -- where all but one come to 0, and that one to n
  one : (i : ℕ) → i < N → get_or v i 0 < t → Cong t (pos (n * ninv)) (pos 1) → Cong t (powers n z (E i)) (pos n) → ((j : ℕ) → j < N → (i ≡ j → ⊥) → Cong t (powers n z (E j)) (pos 0))
      → value n t z b (coefficients n N ninv U v) ≡ get_or v i 0
  unfolding value
  one i hi hv inv here none =
      let S : ℤ = sum_z N (λ j. pos (get_or v j 0) *ℤ powers n z (E j)) in
      let whole : ℤ = sum_z n (λ k. at (coefficients n N ninv U v) k *ℤ pos (z ^ (k * b))) in
      let each : Cong t S (pos (get_or v i 0) *ℤ powers n z (E i)) = cong_one_term t N i (λ j. pos (get_or v j 0) *ℤ powers n z (E j)) hi (λ j l ne. none_at j (none j l ne)) in
      last t n ninv (get_or v i 0) whole S (powers n z (E i)) t_pos hv (cong_eq t whole (pos ninv *ℤ S) grouped) each here inv

-- ---- the powers at the roots of both rows, at n = 2^(d + 2)

eight_of : (M h E : ℕ) → M ≡ 8 * h → E % M ≡ 0 → E ≡ 8 * (h * (E / M))
eight_of M h E e z = let q : M * (E / M) ≡ E = omega arith in sym q ∙ ap (λ (x : ℕ). x * (E / M)) e ∙ omega arith

module _ (t z d : ℕ) (r : Roots t z d) where
  eight : 2 * 2 ^ (d + 2) ≡ 8 * 2 ^ d
  eight = let f : 2 ^ (d + 2) ≡ 2 ^ d * 4 = pow-add 2 d 2 in omega (arith, f)

  some_places : 0 < 2 ^ (d + 2)
  some_places = one-le-pow (d + 2) 2 (omega arith)

  crossed_first : (i j : ℕ) → Cong t (powers (2 ^ (d + 2)) z (3 ^ j + 3 ^ i)) (pos 0)
  crossed_first i j =
      let E : ℕ = 3 ^ j + 3 ^ i in
      let x = three_eight j in
      let y = three_eight i in
      sum_of_even t z d E r (even_sum (3 ^ j) (3 ^ i) E (three_odd j).0 (three_odd i).0 0 0 (three_odd j).1 (three_odd i).1 (omega arith))
      (λ h. let e : E ≡ 8 * (2 ^ d * (E / (2 * 2 ^ (d + 2)))) = eight_of (2 * 2 ^ (d + 2)) (2 ^ d) E eight h in
      apart_sums (3 ^ j) (3 ^ i) x.0 y.0 0 (2 ^ d * (E / (2 * 2 ^ (d + 2)))) x.1 y.1 (omega (arith, e)))

  crossed_second : (i j : ℕ) → Cong t (powers (2 ^ (d + 2)) z ((2 * 2 ^ (d + 2) - 1) * 3 ^ j + (2 * 2 ^ (d + 2) - 1) * 3 ^ i)) (pos 0)
  crossed_second i j =
      let M : ℕ = 2 * 2 ^ (d + 2) in
      let E : ℕ = (M - 1) * 3 ^ j + (M - 1) * 3 ^ i in
      let x = three_eight j in
      let y = three_eight i in
      let up : M - 1 + 1 ≡ M = omega (arith, some_places) in
      let whole : E + (3 ^ j + 3 ^ i) ≡ M * (3 ^ j + 3 ^ i) = omega (arith, less_one (M - 1) M (3 ^ j) up, less_one (M - 1) M (3 ^ i) up) in
      sum_of_even t z d E r (even_sum (3 ^ j) (3 ^ i) E (three_odd j).0 (three_odd i).0 (3 ^ j + 3 ^ i) (2 ^ (d + 2) * (3 ^ j + 3 ^ i)) (three_odd j).1 (three_odd i).1 (omega (arith, whole)))
      (λ h. let e : E ≡ 8 * (2 ^ d * (E / M)) = eight_of M (2 ^ d) E eight h in
      let f : M * (3 ^ j + 3 ^ i) ≡ 8 * (2 ^ d * (3 ^ j + 3 ^ i)) = ap (λ (u : ℕ). u * (3 ^ j + 3 ^ i)) eight ∙ omega arith in
      apart_sums (3 ^ j) (3 ^ i) x.0 y.0 (2 ^ d * (E / M)) (2 ^ d * (3 ^ j + 3 ^ i)) x.1 y.1 (omega (arith, whole, e, f)))

  same_here : (i : ℕ) → Cong t (powers (2 ^ (d + 2)) z (both (2 ^ (d + 2)) i i)) (pos (2 ^ (d + 2)))
  same_here i = subst (λ (x : ℤ). Cong t (powers (2 ^ (d + 2)) z (both (2 ^ (d + 2)) i i)) x) (sum_ones (2 ^ (d + 2)))
      (cong_sum t (2 ^ (d + 2)) (λ k. pos ((z ^ both (2 ^ (d + 2)) i i) ^ k)) (λ k. pos 1) (λ k l. kernel_same t z d i k r.minus_one))

-- ---- both rows

-- zeta^(-k 3^j) and zeta^(k 3^j)
abbrev pub back : ℕ → ℕ → ℕ → ℕ → ℤ
back n z j k = pos (z ^ ((2 * n - 1) * (k * 3 ^ j)))

abbrev pub forth : ℕ → ℕ → ℕ → ℤ
forth z j k = pos (z ^ (k * 3 ^ j))

module _ (t z d ninv : ℕ) (v w : List ℕ) (r : Roots t z d) (inv : Cong t (pos (2 ^ (d + 2) * ninv)) (pos 1)) where
  abbrev n : ℕ
  n = 2 ^ (d + 2)

  abbrev N : ℕ
  N = 2 ^ (d + 1)

  first_of_first : (i : ℕ) → i < N → get_or v i 0 < t → value n t z (1 * 3 ^ i) (coefficients n N ninv (back n z) v) ≡ get_or v i 0
  unfolding both
  first_of_first i hi hv = one n N t z ninv (1 * 3 ^ i) (back n z) (λ j. both n i j) v (λ j k. kernel_at z ((2 * n - 1) * (k * 3 ^ j)) (k * (1 * 3 ^ i)) (both n i j) k (omega arith)) r.t_pos
      i hi hv inv (same_here t z d r i) (λ j jl ne. kernel_other t z d i j r hi jl ne)

  second_of_first : (i : ℕ) → i < N → value n t z ((2 * n - 1) * 3 ^ i) (coefficients n N ninv (back n z) v) ≡ 0
  second_of_first i hi = nothing n N t z ninv ((2 * n - 1) * 3 ^ i) (back n z) (λ j. (2 * n - 1) * 3 ^ j + (2 * n - 1) * 3 ^ i) v
      (λ j k. kernel_at z ((2 * n - 1) * (k * 3 ^ j)) (k * ((2 * n - 1) * 3 ^ i)) ((2 * n - 1) * 3 ^ j + (2 * n - 1) * 3 ^ i) k (omega arith)) r.t_pos (λ j jl. crossed_second t z d r i j)

  first_of_second : (i : ℕ) → i < N → value n t z (1 * 3 ^ i) (coefficients n N ninv (forth z) w) ≡ 0
  first_of_second i hi = nothing n N t z ninv (1 * 3 ^ i) (forth z) (λ j. 3 ^ j + 3 ^ i) w
      (λ j k. kernel_at z (k * 3 ^ j) (k * (1 * 3 ^ i)) (3 ^ j + 3 ^ i) k (omega arith)) r.t_pos (λ j jl. crossed_first t z d r i j)

  second_of_second : (i : ℕ) → i < N → get_or w i 0 < t → value n t z ((2 * n - 1) * 3 ^ i) (coefficients n N ninv (forth z) w) ≡ get_or w i 0
  unfolding both
  second_of_second i hi hw = one n N t z ninv ((2 * n - 1) * 3 ^ i) (forth z) (λ j. both n j i) w (λ j k. kernel_at z (k * 3 ^ j) (k * ((2 * n - 1) * 3 ^ i)) (both n j i) k (omega arith)) r.t_pos
      i hi hw inv (same_here t z d r i) (λ j jl ne. kernel_other t z d j i r jl hi (λ e. ne (sym e)))

  module _ (c : List ℤ) (same : Same t n c (plus n (coefficients n N ninv (back n z) v) (coefficients n N ninv (forth z) w))) where
    first_at : (i : ℕ) → i < N → get_or v i 0 < t → value n t z (1 * 3 ^ i) c ≡ get_or v i 0
    first_at i hi hv =
        value_same n t z (1 * 3 ^ i) c (plus n (coefficients n N ninv (back n z) v) (coefficients n N ninv (forth z) w)) r.t_pos same
        ∙ value_plus n t z (1 * 3 ^ i) (coefficients n N ninv (back n z) v) (coefficients n N ninv (forth z) w) r.t_pos
        ∙ (let zero : get_or v i 0 + 0 ≡ get_or v i 0 = omega arith in rw (first_of_first i hi hv, first_of_second i hi, zero) (mod-eq_of_lt hv))

    second_at : (i : ℕ) → i < N → get_or w i 0 < t → value n t z ((2 * n - 1) * 3 ^ i) c ≡ get_or w i 0
    second_at i hi hw =
        value_same n t z ((2 * n - 1) * 3 ^ i) c (plus n (coefficients n N ninv (back n z) v) (coefficients n N ninv (forth z) w)) r.t_pos same
        ∙ value_plus n t z ((2 * n - 1) * 3 ^ i) (coefficients n N ninv (back n z) v) (coefficients n N ninv (forth z) w) r.t_pos
        ∙ (let zero : 0 + get_or w i 0 ≡ get_or w i 0 = omega arith in rw (second_of_first i hi, second_of_second i hi hw, zero) (mod-eq_of_lt hw))

-- ---- by the tests of a table of slots

pub first_back : (n N t z ninv i : ℕ) (v w : List ℕ) (c : List ℤ) → HasSlots n N t z ninv → Same t n c (plus n (coefficients n N ninv (back n z) v) (coefficients n N ninv (forth z) w)) → i < N → get_or v i 0 < t
    → value n t z (1 * 3 ^ i) c ≡ get_or v i 0
first_back n N t z ninv i v w c s same hi hv =
    let r = roots n N t z ninv s in
    rw (s.n_power) (first_at t z s.depth ninv v w r (rw (s.n_power) at (one_mod t (n * ninv) s.t_pos s.inverse)) c (rw (s.n_power, s.slots_power) at same) i (rw (s.slots_power) at hi) hv)

pub second_back : (n N t z ninv i : ℕ) (v w : List ℕ) (c : List ℤ) → HasSlots n N t z ninv → Same t n c (plus n (coefficients n N ninv (back n z) v) (coefficients n N ninv (forth z) w)) → i < N → get_or w i 0 < t
    → value n t z ((2 * n - 1) * 3 ^ i) c ≡ get_or w i 0
second_back n N t z ninv i v w c s same hi hw =
    let r = roots n N t z ninv s in
    rw (s.n_power) (second_at t z s.depth ninv v w r (rw (s.n_power) at (one_mod t (n * ninv) s.t_pos s.inverse)) c (rw (s.n_power, s.slots_power) at same) i (rw (s.slots_power) at hi) hw)
