-- Noise as a number: the greatest gap between the phase and the message.
use Prim.Native.Nat.{ℕ, zero, suc, ◌+◌, ◌-◌, ◌*◌, ◌%◌, ◌<◌, ◌≤◌, ◌^◌, max, min}
use lib.IntN.{ℤ, pos, ◌+ℤ◌, ◌*ℤ◌, ◌-ℤ◌}
use lib.ListN.{get_or}
use mathlib.Core.List.{List}
use mathlib.Core.Path.{◌≡◌, refl, sym, ◌∙◌}
use native.Mathlib.Omega.{arith}
use Rattle.heco_nums.specs.declared.preset.Preset.{Preset}
use Rattle.heco_nums.proofs.PresetFacts.{facts}
use Rattle.heco_noise_laws.specs.Noise.{size}
use Rattle.heco_noise_laws.proofs.Near.{same_noise}
use Rattle.heco_ring.specs.Remainders.{rem, reduced, Cong}
use Rattle.heco_ring.specs.Ring.{at, wholes}
use Rattle.heco_ring.proofs.Integers.{lines, z_mul_one}
use Rattle.heco_ring.proofs.Reduced.{at-reduced}
use Rattle.heco_ring.proofs.Remainders.{rem_nat, rem_cong, cong_self, cong_refl}
use Rattle.heco_ring.proofs.Wrapping.{at-wholes}
use Rattle.heco_scheme.specs.Noise.{greatest, noise, phase_of, q}

-- ---- one gap

-- q t more than t z - q m, which is no less than 0
raised : (M A B : ℕ) → B ≤ M → pos (A + (M - B)) ≡ (pos A -ℤ pos B) +ℤ pos M *ℤ pos 1
raised M A B h = rw (z_mul_one (pos M)) (omega (arith, lines))

gap_rest : (t z m : ℕ) → 0 < t → m ≤ t → (t * z + (2 ^ 58 * t - 2 ^ 58 * m)) % (2 ^ 58 * t) ≡ rem (2 ^ 58 * t) (pos t *ℤ pos z -ℤ pos (2 ^ 58) *ℤ pos m)
gap_rest t z m h l =
    let M : ℕ = 2 ^ 58 * t in
    let B : ℕ = 2 ^ 58 * m in
    sym (rem_nat M (t * z + (M - B))) ∙ rem_cong M (pos (t * z + (M - B))) (pos (t * z) -ℤ pos B) (omega arith) (record { by = pos 1; is = raised M (t * z) B (omega arith) })

gap_size : (t z m r : ℕ) → 0 < t → m ≤ t → r ≡ (t * z + (2 ^ 58 * t - 2 ^ 58 * m)) % (2 ^ 58 * t) → min r (2 ^ 58 * t - r) ≡ size (2 ^ 58 * t) (pos t *ℤ pos z -ℤ pos (2 ^ 58) *ℤ pos m)
unfolding size
gap_size t z m r h l e = let same : r ≡ rem (2 ^ 58 * t) (pos t *ℤ pos z -ℤ pos (2 ^ 58) *ℤ pos m) = e ∙ gap_rest t z m h l in rw same refl

least_low : (M r : ℕ) → r < M - r → r ≡ min r (M - r)
least_low M r h = omega arith

least_high : (M r : ℕ) → M - r ≤ r → M - r ≡ min r (M - r)
least_high M r h = omega arith

module _ (t z m x y w : ℕ) (t_pos : 0 < t) (below : m < t) (e : x ≡ t) (f : y ≡ z) (g : w ≡ m) where
  abbrev rest : ℕ
  rest = (x * y + (2 ^ 58 * x - 2 ^ 58 * w)) % (2 ^ 58 * x)

  abbrev true_rest : ℕ
  true_rest = (t * z + (2 ^ 58 * t - 2 ^ 58 * m)) % (2 ^ 58 * t)

  pub gap_low : rest < 2 ^ 58 * x - rest → rest ≡ size (2 ^ 58 * t) (pos t *ℤ pos z -ℤ pos (2 ^ 58) *ℤ pos m)
  gap_low h = rw (e, f, g) (least_low (2 ^ 58 * t) true_rest (rw (e, f, g) at h) ∙ gap_size t z m true_rest t_pos (omega arith) refl)

  pub gap_high : 2 ^ 58 * x - rest ≤ rest → 2 ^ 58 * x - rest ≡ size (2 ^ 58 * t) (pos t *ℤ pos z -ℤ pos (2 ^ 58) *ℤ pos m)
  gap_high h = rw (e, f, g) (least_high (2 ^ 58 * t) true_rest (rw (e, f, g) at h) ∙ gap_size t z m true_rest t_pos (omega arith) refl)

-- ---- the greatest

greatest_same : (n : ℕ) (f g : ℕ → ℕ) → ((k : ℕ) → k < n → f k ≡ g k) → greatest n f ≡ greatest n g
unfolding greatest
greatest_same zero f g h = refl
greatest_same (suc n) f g h = rw (greatest_same n f g (λ k l. h k (omega arith)), h n (omega arith)) refl

pub greatest_none : (f : ℕ → ℕ) → 0 ≡ greatest 0 f
unfolding greatest
greatest_none f = refl

greatest_more : (k : ℕ) (f : ℕ → ℕ) → greatest (k + 1) f ≡ max (greatest k f) (f k)
unfolding greatest
greatest_more k f = let e : k + 1 ≡ suc k = omega arith in rw e refl

pub greatest_risen : (k most here : ℕ) (f : ℕ → ℕ) → most ≡ greatest k f → here ≡ f k → most < here → here ≡ greatest (k + 1) f
greatest_risen k most here f e g h = let m : greatest (k + 1) f ≡ max (greatest k f) (f k) = greatest_more k f in omega (arith, m)

pub greatest_stays : (k most here : ℕ) (f : ℕ → ℕ) → most ≡ greatest k f → here ≡ f k → here ≤ most → most ≡ greatest (k + 1) f
greatest_stays k most here f e g h = let m : greatest (k + 1) f ≡ max (greatest k f) (f k) = greatest_more k f in omega (arith, m)

-- ---- the noise

-- the gap at a place
abbrev pub gap_at : ℕ → List ℕ → List ℕ → ℕ → ℕ
gap_at t z m k = size (2 ^ 58 * t) (pos t *ℤ pos (get_or z k 0) -ℤ pos (2 ^ 58) *ℤ pos (get_or m k 0))

same_size : (M : ℕ) (x y : ℤ) → 0 < M → Cong M x y → size M x ≡ size M y
unfolding size
same_size M x y h c = rw (rem_cong M x y h c) refl

some_modulus : (t : ℕ) → 0 < t → 0 < 2 ^ 58 * t
some_modulus t h = omega arith

pub noise_is : (p : Preset) (s : List ℤ) (c : List (List ℕ)) (m z : List ℕ) → z ≡ reduced q p.n (phase_of p s c) → greatest p.n (gap_at p.t z m) ≡ noise p s c m
unfolding noise
noise_is p s c m z e = greatest_same p.n (gap_at p.t z m) (λ k. size (q * p.t) (pos p.t *ℤ at (phase_of p s c) k -ℤ pos q *ℤ at (wholes m) k)) (λ k l.
    let here : Cong q (pos (get_or z k 0)) (at (phase_of p s c) k) = rw (e, at-reduced q p.n (phase_of p s c) k l) (cong_self q (at (phase_of p s c) k) (omega arith)) in
    rw (at-wholes m k) (same_size (q * p.t) (pos p.t *ℤ pos (get_or z k 0) -ℤ pos q *ℤ pos (get_or m k 0)) (pos p.t *ℤ at (phase_of p s c) k -ℤ pos q *ℤ pos (get_or m k 0)) (some_modulus p.t (facts p).t_pos)
    (same_noise q p.t (pos (get_or z k 0)) (at (phase_of p s c) k) (pos (get_or m k 0)) (pos (get_or m k 0)) here (cong_refl p.t (pos (get_or m k 0))))))
