-- The noise of a ciphertext for a message, as a number. After Fan and Vercauteren, ePrint 2012/144; that it is taken
-- modulo q t, and so is a whole number, is our own.
use Rattle.std.specs.Prelude.{ℕ, zero, suc, ◌*◌, ◌^◌, max, List}
use lib.IntN.{ℤ, pos, ◌-ℤ◌, ◌*ℤ◌}
use Rattle.heco_nums.specs.declared.preset.Preset.{Preset}
use Rattle.heco_ring.specs.Ring.{at, wholes}
use Rattle.heco_noise_laws.specs.Noise.{size, phase}
use Rattle.heco_scheme.specs.Ciphertexts.{part}

-- the modulus of ciphertexts
abbrev pub q : ℕ
q = 2 ^ 58

-- the greatest of f 0, .., f (n - 1), and 0 for none
unfoldable pub greatest : ℕ → (ℕ → ℕ) → ℕ
greatest zero f = 0
greatest (suc n) f = max (greatest n f) (f n)

-- c0 + c1 s + c2 s s, a missing part being 0
unfoldable pub phase_of : Preset → List ℤ → List (List ℕ) → List ℤ
phase_of p s c = phase p.n s (part c 0) (part c 1) (part c 2)

-- over the coefficients of the phase z, the greatest of the least size of t z - q m modulo q t
unfoldable pub noise : Preset → List ℤ → List (List ℕ) → List ℕ → ℕ
noise p s c m = greatest p.n (λ k. size (q * p.t) (pos p.t *ℤ at (phase_of p s c) k -ℤ pos q *ℤ at (wholes m) k))
