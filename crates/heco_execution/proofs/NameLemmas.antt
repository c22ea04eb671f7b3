-- Names in a set that keeps their order.
use Rattle.std.proofs.Common.{◌≡◌, ◌∙◌, refl, ap, ℕ, suc, ◌+◌, Bool, true, false, not, cond, ◌||◌, List, [], ◌∷◌, ◌++◌, map, take, length, Some, None, if◌then◌else◌, arith}
use Rattle.std.specs.declared.option.Option.{Option}
use Rattle.std.specs.Prelude.{nat_lt}
use Rattle.std.specs.List.{position, position_or_len, prefix_len, list_any}
use Rattle.std.specs.Str.{bytes_eq}
use Rattle.std.proofs.lemmas.List.{length-map, map-append, take-map}
use Rattle.std.proofs.lemmas.Bool.Decides.{nat_tests}
use Rattle.indexmap.specs.IndexSet.{insert_key}
use Rattle.heco_execution.specs.declared.value.Value.{Value}
use Rattle.heco_execution.specs.States.{State, place_of, declared, first_names}

module _ {A B : Type 0} (f : A → B) (p : B → Bool) where
  prefix_len-map : (xs : List A) → prefix_len p (map f xs) ≡ prefix_len (λ x. p (f x)) xs
  prefix_len-map [] = refl
  prefix_len-map (x ∷ xs) = ap (λ n. cond (p (f x)) (1 + n) 0) (prefix_len-map xs)

pub position-map : {A B : Type 0} (f : A → B) (p : B → Bool) (xs : List A) → position p (map f xs) ≡ position (λ x. p (f x)) xs
position-map f p xs = rw (prefix_len-map f (λ y. not (p y)) xs, length-map xs f) refl

by_case : (b c : Bool) (m n : ℕ) → (nat_lt m n ≡ false → c ≡ false) → nat_lt (cond (not b) (1 + m) 0) (suc n) ≡ false → (b || c) ≡ false
by_case true c m n h e = absurd (grind (arith, nat_tests))
by_case false c m n h e = h (grind (arith, nat_tests))

none_passes : {A : Type 0} (p : A → Bool) (xs : List A) → nat_lt (position_or_len p xs) (length xs) ≡ false → list_any p xs ≡ false
none_passes p [] e = refl
none_passes p (x ∷ xs) e = by_case (p x) (list_any p xs) (position_or_len p xs) (length xs) (none_passes p xs) e

none_is : (b : Bool) (i : ℕ) → cond b (Some i) None ≡ None → b ≡ false
none_is true i e = absurd (cc)
none_is false i e = refl

absent : {A : Type 0} (p : A → Bool) (xs : List A) → position p xs ≡ None → list_any p xs ≡ false
absent p xs e = none_passes p xs (none_is (nat_lt (position_or_len p xs) (length xs)) (position_or_len p xs) e)

module _ {K V : Type 0} (items : K → List ℕ) (state : State V) (keys : List K) (lists : List (List (Value V)))
    (is : ◌≡◌ {A = State V} state (record { texts = map items keys; lists = lists })) where
  -- where the name stands among the keys
  pub place_among : (text : List ℕ) (place : Option ℕ) → place ≡ position (λ k. bytes_eq text (items k)) keys → place ≡ place_of text state.texts
  place_among text place e = rw (is, position-map items (λ t. bytes_eq text t) keys) e

  -- a new key and its list
  pub declared_new : (key : K) (text : List ℕ) (list : List (Value V)) (more : List K) (others : List (List (Value V))) → items key ≡ text → place_of text state.texts ≡ None
      → more ≡ insert_key (λ x y. bytes_eq (items x) (items y)) keys key → others ≡ lists ++ list ∷ []
      → ◌≡◌ {A = State V} (record { texts = map items more; lists = others }) (declared state text list)
  unfolding declared
  declared_new key text list more others same none grown longer =
      let missing = absent (λ k. bytes_eq text (items k)) keys (place_among text _ refl ∙ none) in
      let added : more ≡ keys ++ key ∷ [] = grown ∙ ap (λ t. if list_any (λ k. bytes_eq t (items k)) keys then keys else (keys ++ key ∷ [])) same ∙ ap (λ b. if b then keys else (keys ++ key ∷ [])) missing in
      rw (none, is, added, longer, map-append items keys (key ∷ []), same) refl

  pub first_kept : (n : ℕ) (fewer : List K) (others : List (List (Value V))) → fewer ≡ take n keys → others ≡ take n lists
      → ◌≡◌ {A = State V} (record { texts = map items fewer; lists = others }) (first_names n state)
  first_kept n fewer others e f = rw (is, e, f, take-map items n keys) refl
