-- The parts to which a constant is added.
use Prim.Native.Nat.{ℕ, ◌<◌}
use native.Mathlib.Omega.{arith}
use mathlib.Core.Path.{◌≡◌, refl, ap, ◌∙◌}
use mathlib.Core.Logic.{inl, inr}
use mathlib.Core.Bool.{cond}
use mathlib.Core.List.{List, []}
use lib.Dec.{eqb}
use lib.IntN.{ℤ, pos}
use lib.ListN.{length, get_or, set}
use Rattle.std.specs.Prelude.{replicate, ◌≢◌}
use Rattle.std.proofs.lemmas.Bool.{cases_eq, ne_eqb}
use Rattle.std.proofs.lemmas.List.{get_or-replicate, get_or-set_same, get_or-set_other, length-replicate}
use Rattle.heco_ring.specs.Remainders.{reduced, Same}
use Rattle.heco_ring.specs.Ring.{wholes, plus, constant}
use Rattle.heco_ring.proofs.Congruence.{same_refl, same_plus}
use Rattle.heco_ring.proofs.Pairing.{at-table}
use Rattle.heco_ring.proofs.Reduced.{reduced_same}
use Rattle.heco_ring.proofs.Remainders.{cong_refl}
use Rattle.heco_ring.proofs.Wrapping.{at-wholes}
use Rattle.heco_scheme.specs.Noise.{q}
use Rattle.heco_scheme.proofs.Empty.{empty_zeros, same_zeros}
use Rattle.heco_bfv.proofs.Seen.{zeros}

one_place : (n v k : ℕ) (Z : List ℕ) → length Z ≡ n → ((k : ℕ) → k < n → get_or Z k 0 ≡ 0) → k < n → pos (get_or (set Z 0 v) k 0) ≡ cond (eqb k 0) (pos v) (pos 0)
one_place n v k Z l z h = elim (cases_eq k 0) [
  | inl e ↦ (let in_range : 0 < length Z = omega arith in rw (e, get_or-set_same) refl)
  | inr o ↦ (let ne : k ≢ 0 = o in rw (ne_eqb k 0 o, get_or-set_other) (ap pos (z k h)))
]

constant_same : (n v : ℕ) (K : List ℕ) → K ≡ set (replicate n 0) 0 v → Same q n (wholes K) (constant n (pos v))
unfolding constant
constant_same n v K e = record {
  each = λ k h.
      rw (at-wholes K k, e, at-table n (λ k. cond (eqb k 0) (pos v) (pos 0)) k h, one_place n v k (replicate n 0) (length-replicate {A = ℕ} n 0) (λ j l. get_or-replicate n j 0 0 l) h) (cong_refl q (cond (eqb k 0) (pos v) (pos 0)));
}

pub shift_first : (n v : ℕ) (A : List ℤ) (K X : List ℕ) → K ≡ set (replicate n 0) 0 v → X ≡ reduced q n (plus n A (wholes K)) → X ≡ reduced q n (plus n A (constant n (pos v)))
shift_first n v A K X e x = x ∙ reduced_same q n (plus n A (wholes K)) (plus n A (constant n (pos v))) (omega arith) (same_plus q n A A (wholes K) (constant n (pos v)) (same_refl q n A) (constant_same n v K e))

pub shift_second : (n : ℕ) (A : List ℤ) (Z X : List ℕ) → Z ≡ replicate n 0 → X ≡ reduced q n (plus n A (wholes Z)) → X ≡ reduced q n (plus n A [])
shift_second n A Z X e x = x ∙ reduced_same q n (plus n A (wholes Z)) (plus n A []) (omega arith) (same_plus q n A A (wholes Z) [] (same_refl q n A) (same_zeros q n (wholes Z) [] (rw e (zeros n n)) (empty_zeros n)))

pub shift_third : (n : ℕ) (A : List ℤ) (X : List ℕ) → X ≡ reduced q n (plus n A (wholes [])) → X ≡ reduced q n (plus n A [])
unfolding wholes
shift_third n A X x = x
