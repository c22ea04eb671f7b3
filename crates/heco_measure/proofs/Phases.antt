-- The phase of a ciphertext, from the products that make it.
use Prim.Native.Nat.{ℕ, ◌<◌}
use native.Mathlib.Omega.{arith}
use mathlib.Core.List.{List, []}
use mathlib.Core.Logic.{inl, inr}
use mathlib.Core.Path.{◌≡◌, sym, ap, ◌∙◌}
use lib.IntN.{ℤ}
use lib.ListN.{length, get_or}
use Rattle.heco_nums.specs.declared.preset.Preset.{Preset}
use Rattle.heco_noise_laws.specs.Noise.{phase}
use Rattle.heco_ring.specs.Remainders.{reduced}
use Rattle.heco_ring.specs.Ring.{wholes, plus, times}
use Rattle.heco_scheme.specs.Ciphertexts.{part, IsCiphertext}
use Rattle.heco_scheme.specs.Noise.{q, phase_of}
use Rattle.heco_scheme.proofs.PartLaws.{part_past}
use Rattle.heco_bfv.proofs.PhaseSteps.{two_phase, three_phase}

pub two_at_least : (n : ℕ) (c : List (List ℕ)) → IsCiphertext n c → 1 < length c
two_at_least n c is = elim is.count [ inl e ↦ omega (arith, e) | inr e ↦ omega (arith, e) ]

pub three_else : (n : ℕ) (c : List (List ℕ)) (parts : ℕ) → IsCiphertext n c → parts ≡ length c → (parts ≡ 2 → ⊥) → 2 < length c
three_else n c parts is same apart = elim is.count [ inl e ↦ absurd (apart (same ∙ e)) | inr e ↦ omega (arith, e) ]

module _ (p : Preset) (s : List ℤ) (c : List (List ℕ)) (M Z : List ℕ) where
  abbrev first : List ℤ
  first = wholes (get_or c 0 [])

  abbrev second : List ℤ
  second = wholes (get_or c 1 [])

  abbrev third : List ℤ
  third = wholes (get_or c 2 [])

  pub phase_of_two : length c ≡ 2 → M ≡ reduced q p.n (times p.n s second) → Z ≡ reduced q p.n (plus p.n (wholes M) first) → Z ≡ reduced q p.n (phase_of p s c)
  unfolding phase_of part
  phase_of_two two m z =
      let none : third ≡ [] = part_past c 2 (omega (arith, two)) in
      z ∙ two_phase p.n first second s M m ∙ ap (λ (x : List ℤ). reduced q p.n (phase p.n s first second x)) (sym none)

  pub phase_of_three : (P Q W : List ℕ) → M ≡ reduced q p.n (times p.n s second) → Z ≡ reduced q p.n (plus p.n (wholes M) first) → P ≡ reduced q p.n (times p.n s third) → Q ≡ reduced q p.n (times p.n s (wholes P))
      → W ≡ reduced q p.n (plus p.n (wholes Z) (wholes Q)) → W ≡ reduced q p.n (phase_of p s c)
  unfolding phase_of part
  phase_of_three P Q W m z x y w = w ∙ three_phase p.n first second third s M Z P Q m z x y
