-- The noise as a number, and what each gate does to it.
use Prim.Native.Nat.{ℕ, zero, suc, ◌-◌, ◌*◌, ◌<◌, ◌≤◌}
use native.Mathlib.Omega.{arith}
use mathlib.Core.Logic.{inl, inr}
use mathlib.Core.List.{List}
use lib.IntN.{ℤ, pos, ◌-ℤ◌, ◌*ℤ◌}
use Rattle.std.proofs.lemmas.Bool.{cases_eq}
use Rattle.heco_nums.specs.declared.preset.Preset.{Preset}
use Rattle.heco_nums.proofs.PresetFacts.{facts}
use Rattle.heco_noise_laws.proofs.Gates.{noise_same}
use Rattle.heco_noise_laws.specs.Noise.{size, NoiseAtMost}
use Rattle.heco_ring.specs.Remainders.{Same}
use Rattle.heco_ring.specs.Ring.{at, wholes}
use Rattle.heco_scheme.specs.Noise.{q}
use Rattle.heco_scheme.specs.Noise.{greatest, phase_of, noise}

-- ---- a greatest number is at most E exactly where each is
pub greatest_each : (n E k : ℕ) (f : ℕ → ℕ) → greatest n f ≤ E → k < n → f k ≤ E
unfolding greatest
greatest_each zero E k f h l = absurd (omega arith)
greatest_each (suc n) E k f h l = elim (cases_eq k n) [
  | inl e ↦ rw e (omega arith)
  | inr ne ↦ greatest_each n E k f (omega arith) (omega arith)
]

pub greatest_all : (n E : ℕ) (f : ℕ → ℕ) → ((k : ℕ) → k < n → f k ≤ E) → greatest n f ≤ E
unfolding greatest
greatest_all zero E f h = omega arith
greatest_all (suc n) E f h = let a : greatest n f ≤ E = greatest_all n E f (λ k l. h k (omega arith)) in let b : f n ≤ E = h n (omega arith) in omega arith

pub at_most : (p : Preset) (s : List ℤ) (c : List (List ℕ)) (m : List ℕ) (E : ℕ) → noise p s c m ≤ E → NoiseAtMost p.n q p.t (phase_of p s c) (wholes m) E
unfolding noise
at_most p s c m E h = record { within = λ k l. greatest_each p.n E k (λ k. size (q * p.t) (pos p.t *ℤ at (phase_of p s c) k -ℤ pos q *ℤ at (wholes m) k)) h l }

pub noise_from : (p : Preset) (s : List ℤ) (c : List (List ℕ)) (m : List ℕ) (E : ℕ) → NoiseAtMost p.n q p.t (phase_of p s c) (wholes m) E → noise p s c m ≤ E
unfolding noise
noise_from p s c m E N = greatest_all p.n E (λ k. size (q * p.t) (pos p.t *ℤ at (phase_of p s c) k -ℤ pos q *ℤ at (wholes m) k)) N.within

pub modulus_pos : (p : Preset) → 0 < q * p.t
modulus_pos p = let h : 0 < p.t = (facts p).t_pos in omega arith

-- the value z for the message m, where the ciphertext's phase is z and its message m, as remainders
pub noise_of : (p : Preset) (s z m : List ℤ) (c : List (List ℕ)) (l : List ℕ) (E : ℕ) → Same q p.n (phase_of p s c) z → Same p.t p.n (wholes l) m → NoiseAtMost p.n q p.t z m E → noise p s c l ≤ E
noise_of p s z m c l E a b N = noise_from p s c l E (noise_same p.n q p.t E z (phase_of p s c) m (wholes l) (modulus_pos p) a b N)
