-- How long the files of keys and of ciphertexts may be, for a ring of degree n.
use Rattle.std.specs.Prelude.{ℕ, ◌+◌, ◌-◌, ◌*◌}

-- a secret key: its header, and a byte for each place
abbrev pub secret_length : ℕ → ℕ
secret_length n = 6 + n

-- the longest evaluation key for so many slots relinearises and turns by each amount: then it has as many switch keys as there are slots
abbrev pub longest_evaluation : ℕ → ℕ → ℕ
longest_evaluation n slots = 9 + 2 * (slots - 1) + 16 * n + 464 * n * slots

-- so many ciphertexts of two parts
abbrev pub ciphertexts_length : ℕ → ℕ → ℕ
ciphertexts_length n count = 10 + 16 * n * count
