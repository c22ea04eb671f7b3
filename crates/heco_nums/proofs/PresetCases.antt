-- What holds of each of the five presets holds of all.
use Rattle.std.proofs.Common.{ℕ, zero, suc, ◌≤◌, ◌<◌, arith}
use Rattle.heco_nums.specs.Presets.{slots_of, modulus_of}
use Rattle.heco_nums.specs.PresetRows.{by_id_has}

pub by_preset : (P : ℕ → Type 0) → P 1 → P 2 → P 3 → P 4 → P 5 → (id : ℕ) → 1 ≤ id → id ≤ 5 → P id
by_preset P p8 p32 p64 q32 q512 zero low high = absurd (omega arith)
by_preset P p8 p32 p64 q32 q512 (suc zero) low high = p8
by_preset P p8 p32 p64 q32 q512 (suc (suc zero)) low high = p32
by_preset P p8 p32 p64 q32 q512 (suc (suc (suc zero))) low high = p64
by_preset P p8 p32 p64 q32 q512 (suc (suc (suc (suc zero)))) low high = q32
by_preset P p8 p32 p64 q32 q512 (suc (suc (suc (suc (suc zero))))) low high = q512
by_preset P p8 p32 p64 q32 q512 (suc (suc (suc (suc (suc (suc n)))))) low high = absurd (omega arith)

pub modulus_pos : (id : ℕ) → 0 < modulus_of id
modulus_pos = by_id_has (λ t. 0 < t) 257 257 257 65537 65537 (omega arith) (omega arith) (omega arith) (omega arith) (omega arith)

pub slots_pos : (id : ℕ) → 0 < slots_of id
slots_pos = by_id_has (λ n. 0 < n) 8 32 64 32 512 (omega arith) (omega arith) (omega arith) (omega arith) (omega arith)

pub slots_few : (id : ℕ) → slots_of id ≤ 512
slots_few = by_id_has (λ n. n ≤ 512) 8 32 64 32 512 (omega arith) (omega arith) (omega arith) (omega arith) (omega arith)
