-- A slice whose numbers are changed one by one.
use Prim.Native.Nat.{ℕ, ◌+◌, ◌<◌, ◌≤◌}
use native.Mathlib.Omega.{arith}
use mathlib.Core.Path.{◌≡◌, refl, ap, ◌∙◌}
use mathlib.Core.Logic.{inl, inr}
use mathlib.Core.List.{List, ◌++◌}
use lib.IntN.{ℤ}
use lib.ListN.{length, set, take}
use Rattle.std.specs.Prelude.{◌≢◌}
use Rattle.std.proofs.lemmas.Bool.{cases_eq}
use Rattle.std.proofs.lemmas.List.{get_or-set_same, get_or-set_other, take-append-le, take_all}
use Rattle.heco_wide.specs.inside.Wide.{int_at}

-- the first i numbers are changed by f, the others stand
pub record Changed (i : ℕ) (old new : List ℤ) (f : ℕ → ℤ → ℤ) : Type 0 where
  pub done : (k : ℕ) → k < i → int_at new k ≡ f k (int_at old k)
  pub rest : (k : ℕ) → i ≤ k → int_at new k ≡ int_at old k

pub changed_none : (old : List ℤ) (f : ℕ → ℤ → ℤ) → Changed 0 old old f
changed_none old f = record { done = λ k h. absurd (omega arith); rest = λ k h. refl }

pub changed_more : (i : ℕ) (old new : List ℤ) (f : ℕ → ℤ → ℤ) (v : ℤ) → i < length new → Changed i old new f → v ≡ f i (int_at new i) → Changed (i + 1) old (set new i v) f
changed_more i old new f v h g e = record {
  done = λ k l. elim (cases_eq k i) [
    | inl same ↦ rw (same, get_or-set_same) (e ∙ ap (f i) (g.rest i (omega arith)))
    | inr other ↦ (let ne : k ≢ i = other in rw get_or-set_other (g.done k (omega arith)))
  ];
  rest = λ k l. let ne : k ≢ i = omega arith in rw get_or-set_other (g.rest k (omega arith));
}

-- what a vector holds after its slice was written whole
pub front : (n : ℕ) (xs ys : List ℤ) → length xs ≡ n → take n (xs ++ ys) ≡ xs
front n xs ys e = take-append-le n xs ys (omega arith) ∙ take_all n xs (omega arith)
