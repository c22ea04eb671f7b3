-- Values in a row, each judged by a state of those before it.
use Rattle.std.specs.Prelude.{Bool, true, ◌&&◌, List, [], ◌∷◌}

-- a state that no value changes
abbrev pub stays : {S A : Type 0} → S → A → S
stays s x = s

-- the state behind these values
abbrev pub along : {S A : Type 0} → (S → A → S) → S → List A → S
along next s [] = s
along next s (x ∷ xs) = along next (next s x) xs

-- each value is right where it stands
abbrev pub all_along : {S A : Type 0} → (S → A → Bool) → (S → A → S) → S → List A → Bool
all_along test next s [] = true
all_along test next s (x ∷ xs) = test s x && all_along test next (next s x) xs

-- each value fits where it stands
unfoldable pub FitAlong : {S A : Type 0} → (S → A → Type 0) → (S → A → S) → S → List A → Type 0
FitAlong Fits next s [] = Unit {0}
FitAlong Fits next s (x ∷ xs) = Fits s x × FitAlong Fits next (next s x) xs
