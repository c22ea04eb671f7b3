-- What stands in a list that has one item more at its end.
use Rattle.std.proofs.Common.{◌≡◌, ℕ, zero, suc, List, [], ◌∷◌, ◌++◌, length, refl, ap, arith, ◌⊎◌, inl, inr}
use Rattle.std.specs.Prelude.{Some, slice_get, Contains}

pub at_end : {X : Type 0} (xs : List X) (n : X) (i : ℕ) (x : X) → slice_get (xs ++ n ∷ []) i ≡ Some x → (slice_get xs i ≡ Some x) ⊎ ((i ≡ length xs) × (x ≡ n))
at_end [] n zero x h = inr (refl, cc)
at_end [] n (suc i) x h = cc
at_end (y ∷ xs) n zero x h = inl h
at_end (y ∷ xs) n (suc i) x h = elim (at_end xs n i x h) [ inl a ↦ inl a | inr b ↦ inr (ap suc b.0, b.1) ]

pub is_only : {X : Type 0} (n m : X) → Contains (n ∷ []) m → n ≡ m
is_only n m (zero, l, e) = e
is_only n m (suc k, l, e) = absurd (omega arith)
