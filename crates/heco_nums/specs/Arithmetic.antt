-- Centred remainders, and the plaintext scaled up to the ciphertext's modulus q = 2^58.
use Rattle.std.specs.Prelude.{ℕ, ◌+◌, ◌*◌, ◌/◌, ◌^◌, cond}
use lib.IntN.{ℤ, pos, ◌-ℤ◌}
use lib.Dec.{ltb}

-- c between -t/2 and t/2
unfoldable pub centre_t : ℕ → ℕ → ℤ
centre_t t c = cond (ltb (2 * c) t) (pos c) (pos c -ℤ pos t)

-- c from -2^57 to 2^57 - 1
unfoldable pub centre_q : ℕ → ℤ
centre_q c = cond (ltb c (2 ^ 57)) (pos c) (pos c -ℤ pos (2 ^ 58))

-- q c / t, to the nearest whole number
unfoldable pub scaled : ℕ → ℕ → ℕ
scaled t c = (2 ^ 58 * c + t / 2) / t
