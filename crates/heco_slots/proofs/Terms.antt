-- The sums of encode and decode, term by term.
use Prim.Native.Nat.{ℕ, suc, ◌+◌, ◌*◌, ◌-◌, ◌%◌, ◌^◌, ◌<◌, ◌≤◌}
use native.Mathlib.Omega.{arith}
use native.Mathlib.Nat.{mod-mod}
use mathlib.Core.Path.{◌≡◌, sym, ◌∙◌}
use mathlib.Core.List.{List}
use lib.IntN.{ℤ, pos, ◌*ℤ◌}
use Rattle.std.proofs.lemmas.Nat.{mul-le, mul-mod_second}
use Rattle.heco_ring.specs.Remainders.{rem, Cong}
use Rattle.heco_ring.specs.Ring.{sum_z, at, wholes}
use Rattle.heco_ring.specs.Slots.{value, slot}
use Rattle.heco_ring.proofs.Remainders.{cong_add, cong_mul, cong_refl, cong_self, cong_trans, rem_cong, rem_nat, minus_one}
use Rattle.heco_ring.proofs.SlotLaws.{power_flip, same_turn}

-- ---- a sum of products below t, of which no remainder was taken
-- i terms: s is their sum modulo t, and small enough
pub record Summed (t i s : ℕ) (f : ℕ → ℤ) : Type 0 where
  pub same : Cong t (pos s) (sum_z i f)
  pub small : s ≤ i * 2 ^ 32

pub summed_none : (t : ℕ) (f : ℕ → ℤ) → Summed t 0 0 f
unfolding sum_z
summed_none t f = record { same = cong_refl t (pos 0); small = omega arith }

pub summed_more : (t i s x y r : ℕ) (b : ℤ) (f : ℕ → ℤ) → t ≤ 65537 → x < t → y < t → Summed t i s f → f i ≡ pos x *ℤ b → Cong t (pos y) b → r ≡ s + x * y → Summed t (i + 1) r f
unfolding sum_z
summed_more t i s x y r b f ts xt yt h e c d =
    let n : i + 1 ≡ suc i = omega arith in
    record {
      same = rw (d, n, e) (cong_add t (pos s) (sum_z i f) (pos x *ℤ pos y) (pos x *ℤ b) h.same (cong_mul t (pos x) (pos x) (pos y) b (cong_refl t (pos x)) c));
      small = rw d (omega (arith, h.small, mul-le x y 65536 65536 (omega arith) (omega arith)));
    }

-- ---- a power from the table
pub below_turn : (t z n x y e : ℕ) → 0 < t → 0 < n → z ^ n % t ≡ t - 1 → x % (2 * n) ≡ e % (2 * n) → y ≡ z ^ x % t → Cong t (pos y) (pos (z ^ e))
below_turn t z n x y e h p r d f = rw (f, ← (rem_nat t (z ^ x))) (cong_trans t (pos (rem t (pos (z ^ x)))) (pos (z ^ x)) (pos (z ^ e)) (cong_self t (pos (z ^ x)) h)
    (same_turn t n x e (λ m. pos (z ^ m)) p (power_flip t n z (minus_one t (z ^ n) h r)) d))

-- for slot j: g is 3^j, known modulo 2n
pub power_at : (t z n k j g y : ℕ) → 0 < t → 0 < n → z ^ n % t ≡ t - 1 → g ≡ 3 ^ j % (2 * n) → y ≡ z ^ (k * g % (2 * n)) % t → Cong t (pos y) (pos (z ^ (k * 3 ^ j)))
power_at t z n k j g y h p r d e = below_turn t z n (k * g % (2 * n)) y (k * 3 ^ j) h p r (mod-mod (k * g) (2 * n) ∙ rw d (mul-mod_second k (3 ^ j) (2 * n))) e

-- ---- the last remainder
pub summed_rem : (t N s : ℕ) (f : ℕ → ℤ) → 0 < t → Summed t N s f → s % t ≡ rem t (sum_z N f)
summed_rem t N s f h S = sym (rem_nat t s) ∙ rem_cong t (pos s) (sum_z N f) h S.same

pub summed_slot : (n t z j s : ℕ) (m : List ℕ) → 0 < t → Summed t n s (λ k. at (wholes m) k *ℤ pos (z ^ (k * 3 ^ j))) → s % t ≡ slot n t z (wholes m) j
unfolding slot value
summed_slot n t z j s m h S = summed_rem t n s (λ k. at (wholes m) k *ℤ pos (z ^ (k * 3 ^ j))) h S
