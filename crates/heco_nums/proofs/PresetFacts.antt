-- What every preset has: the facts of its row on which the scheme rests.
use Prim.Native.Nat.{ℕ, ◌+◌, ◌*◌, ◌-◌, ◌/◌, ◌%◌, ◌<◌, ◌≤◌, ◌^◌}
use native.Mathlib.Omega.{arith}
use mathlib.Core.Path.{◌≡◌, refl, ap, ◌∙◌}
use Rattle.heco_nums.proofs.PresetCases.{by_preset}
use Rattle.heco_nums.specs.Presets.{degree_of, slots_of, modulus_of, hamming_weight_of, error_of, root_of, inverse_of}
use Rattle.heco_nums.specs.declared.preset.Preset.{Preset}

-- the numbers are those of this row
record Is (p : Preset) (n slots t h b zeta ninv : ℕ) : Type 0 where
  n_is : p.n ≡ n
  slots_is : p.slots ≡ slots
  t_is : p.t ≡ t
  h_is : p.h ≡ h
  b_is : p.b ≡ b
  zeta_is : p.zeta ≡ zeta
  ninv_is : p.ninv ≡ ninv

at_row : (p : Preset) (i : ℕ) → p.id ≡ i → Is p (degree_of i) (slots_of i) (modulus_of i) (hamming_weight_of i) (error_of i) (root_of i) (inverse_of i)
at_row p i e = record {
  n_is = p.row.2 ∙ ap degree_of e;
  slots_is = p.row.3 ∙ ap slots_of e;
  t_is = p.row.4 ∙ ap modulus_of e;
  h_is = p.row.5 ∙ ap hamming_weight_of e;
  b_is = p.row.6 ∙ ap error_of e;
  zeta_is = p.row.7 ∙ ap root_of e;
  ninv_is = p.row.8 ∙ ap inverse_of e;
}

-- what the ring, the noise and the slots need
pub record Facts (p : Preset) : Type 0 where
  pub n_pos : 0 < p.n
  pub n_small : p.n ≤ 1024
  pub slots_half : p.n ≡ 2 * p.slots
  pub depth : ℕ
  pub n_power : p.n ≡ 2 ^ (depth + 2)
  pub slots_power : p.slots ≡ 2 ^ (depth + 1)
  pub t_pos : 0 < p.t
  pub t_small : p.t ≤ 65537
  pub t_odd : p.t % 2 ≡ 1
  pub b_small : p.b ≤ 4
  pub h_small : p.h ≤ 8
  pub minus_one : p.zeta ^ p.n % p.t ≡ p.t - 1
  pub inverse : p.n * p.ninv % p.t ≡ 1
  pub round : 3 ^ p.slots % (2 * p.n) ≡ 1
  pub half : 3 ^ (p.slots / 2) % (2 * p.n) ≡ 1 → ⊥

facts_at : (p : Preset) (n slots t h b zeta ninv depth : ℕ) → Is p n slots t h b zeta ninv → 0 < n → n ≤ 1024 → n ≡ 2 * slots → n ≡ 2 ^ (depth + 2) → slots ≡ 2 ^ (depth + 1) → 0 < t → t ≤ 65537 → t % 2 ≡ 1 → b ≤ 4 → h ≤ 8 →
    zeta ^ n % t ≡ t - 1 → n * ninv % t ≡ 1 → 3 ^ slots % (2 * n) ≡ 1 → (3 ^ (slots / 2) % (2 * n) ≡ 1 → ⊥) → Facts p
facts_at p n slots t h b zeta ninv depth i n_pos n_small slots_half n_power slots_power t_pos t_small t_odd b_small h_small minus_one inverse round half = record {
  n_pos = rw (i.n_is) n_pos;
  n_small = rw (i.n_is) n_small;
  slots_half = rw (i.n_is, i.slots_is) slots_half;
  depth = depth;
  n_power = rw (i.n_is) n_power;
  slots_power = rw (i.slots_is) slots_power;
  t_pos = rw (i.t_is) t_pos;
  t_small = rw (i.t_is) t_small;
  t_odd = rw (i.t_is) t_odd;
  b_small = rw (i.b_is) b_small;
  h_small = rw (i.h_is) h_small;
  minus_one = rw (i.zeta_is, i.n_is, i.t_is) minus_one;
  inverse = rw (i.n_is, i.ninv_is, i.t_is) inverse;
  round = rw (i.slots_is, i.n_is) round;
  half = rw (i.slots_is, i.n_is) half;
}

pub facts : (p : Preset) → Facts p
facts p =
    by_preset (λ id. p.id ≡ id → Facts p)
    (λ e. facts_at p 16 8 257 4 2 136 241 2 (at_row p 1 e) (omega arith) (omega arith) refl refl refl (omega arith) (omega arith) refl (omega arith) (omega arith) refl refl refl (λ full. omega arith))
    (λ e. facts_at p 64 32 257 8 4 9 253 4 (at_row p 2 e) (omega arith) (omega arith) refl refl refl (omega arith) (omega arith) refl (omega arith) (omega arith) refl refl refl (λ full. omega arith))
    (λ e. facts_at p 128 64 257 8 4 3 255 5 (at_row p 3 e) (omega arith) (omega arith) refl refl refl (omega arith) (omega arith) refl (omega arith) (omega arith) refl refl refl (λ full. omega arith))
    (λ e. facts_at p 64 32 65537 8 4 13987 64513 4 (at_row p 4 e) (omega arith) (omega arith) refl refl refl (omega arith) (omega arith) refl (omega arith) (omega arith) refl refl refl (λ full. omega arith))
    (λ e. facts_at p 1024 512 65537 4 1 61869 65473 8 (at_row p 5 e) (omega arith) (omega arith) refl refl refl (omega arith) (omega arith) refl (omega arith) (omega arith) refl refl refl (λ full. omega arith))
    p.id p.row.0 p.row.1 refl

pub some_slots : (p : Preset) → 0 < p.slots
some_slots p = let F = facts p in omega (arith, F.n_pos, F.slots_half)
