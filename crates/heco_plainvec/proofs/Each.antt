-- What holds of each element of a list.
use Rattle.std.proofs.Common.{◌≡◌, ℕ, zero, suc, ◌<◌, List, [], ◌∷◌, ◌++◌, length, get_or, arith}
use Rattle.std.specs.Prelude.{All, Option, Some, None, slice_get, flat_map, filter_map}
use Rattle.std.specs.List.{cons_option}

abbrev pub Each : {X : Type 0} → (X → Type 0) → List X → Type 0
Each {X} P xs = (i : ℕ) (x : X) → slice_get xs i ≡ Some x → P x

pub each_append : {X : Type 0} (P : X → Type 0) (xs ys : List X) → Each P xs → Each P ys → Each P (xs ++ ys)
each_append P [] ys h g i z e = g i z e
each_append P (x ∷ xs) ys h g zero z e = h 0 z e
each_append P (x ∷ xs) ys h g (suc i) z e = each_append P xs ys (λ k y q. h (suc k) y q) g i z e

pub each_flat : {X Y : Type 0} (P : Y → Type 0) (f : X → List Y) (xs : List X) → Each (λ x. Each P (f x)) xs → Each P (flat_map f xs)
each_flat P f [] h = λ i y e. absurd cc
each_flat P f (x ∷ xs) h = each_append P (f x) (flat_map f xs) (h 0 x cc) (each_flat P f xs (λ k z q. h (suc k) z q))

pub each_found : {X Y : Type 0} (Q : X → Type 0) (P : Y → Type 0) (f : X → Option Y) (xs : List X) → ((x : X) (y : Y) → Q x → f x ≡ Some y → P y) → Each Q xs → Each P (filter_map f xs)
each_found Q P f [] g h = λ i y e. absurd cc
each_found {Y = Y} Q P f (x ∷ xs) g h = by_answer (f x) (λ y e. g x y (h 0 x cc) e) (each_found Q P f xs g (λ k z q. h (suc k) z q))
  where
    by_answer : (o : Option Y) → ((y : Y) → o ≡ Some y → P y) → Each P (filter_map f xs) → Each P (cons_option o (filter_map f xs))
    by_answer None own rest = rest
    by_answer (Some w) own rest = λ i y e. here i y e
      where
        here : (i : ℕ) (y : Y) → slice_get (w ∷ filter_map f xs) i ≡ Some y → P y
        here zero y e = own y e
        here (suc i) y e = rest i y e

-- as std says it
pub each_all : {X : Type 0} (P : X → Type 0) (xs : List X) → Each P xs → All P xs
each_all P [] h = λ k d l. absurd (omega (arith, l))
each_all {X = X} P (x ∷ xs) h = here (each_all P xs (λ k z q. h (suc k) z q))
  where
    here : All P xs → (k : ℕ) (d : X) → k < length (x ∷ xs) → P (get_or (x ∷ xs) k d)
    here rest zero d l = h 0 x cc
    here rest (suc k) d l = rest k d (omega (arith, l))
