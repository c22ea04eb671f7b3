-- What encodes in one row or in both, from the sums of v_j zeta^(b 3^j).
use Prim.Native.Nat.{ℕ, ◌+◌, ◌*◌, ◌-◌, ◌%◌, ◌^◌, ◌<◌}
use native.Mathlib.Omega.{arith}
use mathlib.Core.Path.{◌≡◌, sym, ap, ◌∙◌, subst}
use mathlib.Core.List.{List}
use lib.IntN.{ℤ, pos, ◌+ℤ◌, ◌*ℤ◌}
use lib.ListN.{length, get_or}
use Rattle.std.proofs.lemmas.List.FromFn.{fill_by_all}
use Rattle.std.proofs.lemmas.Nat.{mul-mod_first}
use Rattle.heco_nums.specs.declared.preset.Preset.{Preset}
use Rattle.heco_nums.proofs.PresetFacts.{facts}
use Rattle.heco_ring.specs.Remainders.{rem, Cong}
use Rattle.heco_ring.specs.Ring.{sum_z}
use Rattle.heco_ring.specs.Slots.{encode_at}
use Rattle.heco_ring.proofs.Integers.{z_mul_comm}
use Rattle.heco_ring.proofs.Remainders.{cong_add, cong_mul, cong_refl, cong_self, cong_sum, cong_trans, rem_cong, rem_nat, minus_one}
use Rattle.heco_ring.proofs.SlotLaws.{power_flip, same_turn}
use Rattle.heco_ring.proofs.Sums.{sum_add}
use Rattle.heco_slots.specs.Rows.{encoded_two_at, encoded_two}
use Rattle.heco_slots.specs.Slots.{spread_at}
use Rattle.heco_slots.proofs.Terms.{Summed, summed_rem}

-- the powers of zeta at the step b
abbrev pub powers : Preset → List ℕ → ℕ → ℕ → ℤ
powers p v b j = pos (get_or v j 0) *ℤ pos (p.zeta ^ (b * 3 ^ j))

-- those at the step -k
abbrev pub powers_back : Preset → List ℕ → ℕ → ℕ → ℤ
powers_back p v k j = pos (get_or v j 0) *ℤ pos (p.zeta ^ ((2 * p.n - 1) * (k * 3 ^ j)))

pub summed_spread : (p : Preset) (v : List ℕ) (b s : ℕ) → Summed p.t p.slots s (powers p v b) → s % p.t ≡ spread_at p v b
unfolding spread_at
summed_spread p v b s S = summed_rem p.t p.slots s (powers p v b) (facts p).t_pos S

spread_is : (p : Preset) (v : List ℕ) (b : ℕ) → Cong p.t (pos (spread_at p v b)) (sum_z p.slots (powers p v b))
unfolding spread_at
spread_is p v b = cong_self p.t (sum_z p.slots (powers p v b)) (facts p).t_pos

exponent : (M a k b x : ℕ) → b ≡ a * k % M → b * x % M ≡ a * (k * x) % M
exponent M a k b x e = let f : a * k * x ≡ a * (k * x) = omega arith in ap (λ (y : ℕ). y * x % M) e ∙ mul-mod_first (a * k) x M ∙ ap (λ (y : ℕ). y % M) f

spread_back : (p : Preset) (v : List ℕ) (k b : ℕ) → b ≡ (2 * p.n - 1) * k % (2 * p.n) → Cong p.t (pos (spread_at p v b)) (sum_z p.slots (powers_back p v k))
spread_back p v k b e =
    let F = facts p in
    cong_trans p.t (pos (spread_at p v b)) (sum_z p.slots (powers p v b)) (sum_z p.slots (powers_back p v k)) (spread_is p v b)
    (cong_sum p.t p.slots (powers p v b) (powers_back p v k) (λ j l.
    cong_mul p.t (pos (get_or v j 0)) (pos (get_or v j 0)) (pos (p.zeta ^ (b * 3 ^ j))) (pos (p.zeta ^ ((2 * p.n - 1) * (k * 3 ^ j)))) (cong_refl p.t (pos (get_or v j 0)))
    (same_turn p.t p.n (b * 3 ^ j) ((2 * p.n - 1) * (k * 3 ^ j)) (λ m. pos (p.zeta ^ m)) F.n_pos (power_flip p.t p.n p.zeta (minus_one p.t (p.zeta ^ p.n) F.t_pos F.minus_one)) (exponent (2 * p.n) (2 * p.n - 1) k b (3 ^ j) e))))

-- x / n, where x is S modulo t
over_n : (t ninv x : ℕ) (S : ℤ) → 0 < t → Cong t (pos x) S → x * ninv % t ≡ rem t (pos ninv *ℤ S)
over_n t ninv x S h c =
    sym (rem_nat t (x * ninv)) ∙ rem_cong t (pos x *ℤ pos ninv) (pos ninv *ℤ S) h
    (rw (z_mul_comm (pos ninv) S) (cong_mul t (pos x) S (pos ninv) (pos ninv) c (cong_refl t (pos ninv))))

pub coefficient_is : (p : Preset) (v : List ℕ) (k b : ℕ) → b ≡ (2 * p.n - 1) * k % (2 * p.n) → spread_at p v b * p.ninv % p.t ≡ encode_at p.n p.t p.zeta p.ninv p.slots v k
unfolding encode_at
coefficient_is p v k b e = over_n p.t p.ninv (spread_at p v b) (sum_z p.slots (powers_back p v k)) (facts p).t_pos (spread_back p v k b e)

pub coefficient_of_two : (p : Preset) (v w : List ℕ) (k b : ℕ) → b ≡ (2 * p.n - 1) * k % (2 * p.n) → (spread_at p v b + spread_at p w k) * p.ninv % p.t ≡ encoded_two_at p v w k
unfolding encoded_two_at
coefficient_of_two p v w k b e =
    let f : ℕ → ℤ = powers_back p v k in
    let g : ℕ → ℤ = powers p w k in
    over_n p.t p.ninv (spread_at p v b + spread_at p w k) (sum_z p.slots (λ j. powers_back p v k j +ℤ powers p w k j)) (facts p).t_pos
    (subst (λ (x : ℤ). Cong p.t (pos (spread_at p v b + spread_at p w k)) x) (sym (sum_add p.slots (powers_back p v k) (powers p w k)))
    (cong_add p.t (pos (spread_at p v b)) (sum_z p.slots (powers_back p v k)) (pos (spread_at p w k)) (sum_z p.slots (powers p w k)) (spread_back p v k b e) (spread_is p w k)))

-- a list that was filled place by place
pub encoded_two_filled : (p : Preset) (v w out : List ℕ) → length out ≡ p.n → ((k : ℕ) → k < length out → get_or out k 0 ≡ encoded_two_at p v w k) → out ≡ encoded_two p v w
unfolding encoded_two
encoded_two_filled p v w out e h = fill_by_all (encoded_two_at p v w) out p.n 0 e (λ k l. h k (omega arith))
