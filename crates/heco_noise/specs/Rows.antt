-- The written noise bounds, from the numbers of a preset: degree n, plaintext modulus t, weight h of a secret,
-- error bound b, switch keys of 29 digits of 2 bits. The gates are proved to keep within them.
use Rattle.std.specs.Prelude.{ℕ, ◌+◌, ◌-◌, ◌*◌, ◌/◌, ◌^◌, Bool, ◌<◌, nat_le}
use Rattle.std.specs.Int.RustNames.{unsigned_abs}
use Rattle.heco_nums.specs.Arithmetic.{centre_t}

-- of a fresh encryption
abbrev pub fresh : ℕ → ℕ → ℕ → ℕ
fresh t h b = (t - 1) / 2 + t * b * (2 * h + 1)

-- what a switch of keys adds
abbrev pub key_switch : ℕ → ℕ → ℕ → ℕ
key_switch t n b = t * 29 * n * (2 ^ 2 - 1) * b

-- of a relinearised or turned wire
abbrev pub turned : ℕ → ℕ → ℕ → ℕ → ℕ
turned t n b e = e + key_switch t n b

-- of a sum or a difference
abbrev pub added : ℕ → ℕ → ℕ
added e f = e + f

-- of the multiple by c, which is centred first
abbrev pub scaled_by : ℕ → ℕ → ℕ → ℕ
scaled_by t c e = unsigned_abs (centre_t t c) * e

-- of the product by a plain polynomial whose coefficients' sizes come to s
abbrev pub weighed : ℕ → ℕ → ℕ
weighed s e = s * e

-- of a wire to which a constant is added
abbrev pub shifted : ℕ → ℕ → ℕ
shifted t e = e + (t - 1) / 2

-- the greatest size of a message before its reduction modulo t
abbrev pub message_size : ℕ → ℕ → ℕ
message_size t h = (t * (1 + h) + 1) / 2

-- of a product, which has three parts
abbrev pub multiplied : ℕ → ℕ → ℕ → ℕ → ℕ → ℕ
multiplied n t h e f = n * (message_size t h + 1) * (e + f) + t * (1 + h + h * h)

-- decryption is no longer sure: twice the bound is at least q = 2^58
abbrev pub passes : ℕ → Bool
passes e = nat_le (2 ^ 58) (2 * e)

-- decryption is sure
abbrev pub IsQuiet : ℕ → Type 0
IsQuiet e = 2 * e < 2 ^ 58
