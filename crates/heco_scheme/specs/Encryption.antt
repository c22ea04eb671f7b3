-- Encryption and decryption. After Fan and Vercauteren, ePrint 2012/144, section 3. They multiply the message by
-- floor(q/t); to round q m / t to the nearest whole number is our own.
use Rattle.std.specs.Prelude.{ℕ, List, [], ◌∷◌}
use lib.IntN.{ℤ, pos}
use lib.ListN.{get_or}
use Rattle.heco_nums.specs.Arithmetic.{scaled}
use Rattle.heco_nums.specs.declared.preset.Preset.{Preset}
use Rattle.heco_ring.specs.Ring.{table, wholes, plus, times}
use Rattle.heco_ring.specs.Remainders.{reduced}
use Rattle.heco_noise_laws.specs.Noise.{round_part}
use Rattle.heco_scheme.specs.Noise.{q, phase_of}

-- each coefficient times q / t
unfoldable pub scaled_all : Preset → List ℕ → List ℤ
scaled_all p m = table p.n (λ k. pos (scaled p.t (get_or m k 0)))

-- p0 u + e1 + the scaled message, and p1 u + e2
unfoldable pub encrypted : Preset → List ℕ → List ℕ → List ℤ → List ℤ → List ℤ → List ℕ → List (List ℕ)
encrypted p p0 p1 u e1 e2 m =
    reduced q p.n (plus p.n (plus p.n (times p.n (wholes p0) u) e1) (scaled_all p m))
    ∷ reduced q p.n (plus p.n (times p.n (wholes p1) u) e2) ∷ []

-- the phase modulo q, each coefficient times t / q and rounded, modulo t
unfoldable pub decrypted : Preset → List ℤ → List (List ℕ) → List ℕ
decrypted p s c = let z = reduced q p.n (phase_of p s c) in reduced p.t p.n (round_part p.n q p.t (wholes z))
