use Rattle.std.proofs.Common.{◌≡◌, ℕ, zero, suc, ◌+◌, ◌<◌, ◌≤◌, List, [], ◌∷◌, ◌++◌, refl, arith, length, ap, ◌∙◌, sym, get_or, ◌⊎◌, inl, inr, subst}
use Rattle.std.specs.Prelude.{Contains}

-- x stands in the list
abbrev pub Member : {X : Type 0} → X → List X → Type 0
Member x [] = ⊥
Member x (y ∷ ys) = (x ≡ y) ⊎ Member x ys

abbrev pub Distinct : {X : Type 0} → List X → Type 0
Distinct [] = Unit {0}
Distinct (x ∷ xs) = (Member x xs → ⊥) × Distinct xs

module _ {X : Type 0} where
  pub member-append_left : (x : X) (xs ys : List X) → Member x xs → Member x (xs ++ ys)
  member-append_left x [] ys h = elim h [ ]
  member-append_left x (y ∷ xs) ys (inl e) = inl e
  member-append_left x (y ∷ xs) ys (inr h) = inr (member-append_left x xs ys h)

  pub member-append_right : (x : X) (xs ys : List X) → Member x ys → Member x (xs ++ ys)
  member-append_right x [] ys h = h
  member-append_right x (y ∷ xs) ys h = inr (member-append_right x xs ys h)

  pub member-append : (x : X) (xs ys : List X) → Member x (xs ++ ys) → Member x xs ⊎ Member x ys
  member-append x [] ys h = inr h
  member-append x (y ∷ xs) ys (inl e) = inl (inl e)
  member-append x (y ∷ xs) ys (inr h) = elim (member-append x xs ys h) [ inl a ↦ inl (inr a) | inr b ↦ inr b ]

  pub member-get_or : (xs : List X) (i : ℕ) (d : X) → i < length xs → Member (get_or xs i d) xs
  member-get_or [] i d h = elim h [ ]
  member-get_or (x ∷ xs) zero d h = inl refl
  member-get_or (x ∷ xs) (suc i) d h = inr (member-get_or xs i d (omega arith))

  pub place_of_member : (x d : X) (xs : List X) → Member x xs → (i : ℕ) × (i < length xs) × (get_or xs i d ≡ x)
  place_of_member x d [] h = elim h [ ]
  place_of_member x d (y ∷ xs) (inl e) = (0, omega arith, sym e)
  place_of_member x d (y ∷ xs) (inr h) = let (i, l, e) = place_of_member x d xs h in (suc i, omega arith, e)

  pub contains-member : (x : X) (xs : List X) → Contains xs x → Member x xs
  contains-member x [] (k, l, e) = elim l [ ]
  contains-member x (y ∷ xs) (zero, l, e) = inl (sym e)
  contains-member x (y ∷ xs) (suc k, l, e) = inr (contains-member x xs (k, omega arith, e))

  -- the list without one member
  abbrev without : (x : X) (xs : List X) → Member x xs → List X
  without x [] h = []
  without x (y ∷ xs) (inl e) = xs
  without x (y ∷ xs) (inr h) = y ∷ without x xs h

  pub member-without : (x z : X) (xs : List X) (h : Member x xs) → (z ≡ x → ⊥) → Member z xs → Member z (without x xs h)
  member-without x z [] h ne m = m
  member-without x z (y ∷ xs) (inl e) ne (inl f) = absurd (ne (f ∙ sym e))
  member-without x z (y ∷ xs) (inl e) ne (inr m) = m
  member-without x z (y ∷ xs) (inr h) ne (inl f) = inl f
  member-without x z (y ∷ xs) (inr h) ne (inr m) = inr (member-without x z xs h ne m)

  -- the sum of f over a list
  abbrev pub total : (X → ℕ) → List X → ℕ
  total f [] = 0
  total f (x ∷ xs) = f x + total f xs

  pub total-without : (f : X → ℕ) (x : X) (xs : List X) (h : Member x xs) → total f xs ≡ f x + total f (without x xs h)
  total-without f x [] h = elim h [ ]
  total-without f x (y ∷ xs) (inl e) = ap (λ k. f k + total f xs) (sym e)
  total-without f x (y ∷ xs) (inr h) = omega (arith, total-without f x xs h)

  -- distinct ones that count are counted in any list that has them
  pub total_within : (f : X → ℕ) (xs ys : List X) → Distinct xs → ((x : X) → Member x xs → (f x ≡ 0) ⊎ Member x ys) → total f xs ≤ total f ys
  total_within f [] ys d h = omega arith
  total_within f (x ∷ xs) ys d h =
      elim (h x (inl refl)) [
        | inl e ↦ omega (arith, e, total_within f xs ys d.1 (λ z m. h z (inr m)))
        | inr m ↦ omega (
          arith,
          total-without f x ys m,
          total_within f xs (without x ys m) d.1 (λ z k.
              elim (h z (inr k)) [
                | inl e ↦ inl e
                | inr n ↦ inr (member-without x z ys m (λ e. d.0 (subst (λ (y : X). Member y xs) e k)) n)
              ]),
        )
      ]

pub distinct_places : {X : Type 0} (xs : List X) (d : X) → ((i j : ℕ) → i < length xs → j < length xs → get_or xs i d ≡ get_or xs j d → i ≡ j) → Distinct xs
distinct_places [] d h = tt
distinct_places (x ∷ xs) d h = (
  (λ m. let (i, l, e) = place_of_member x d xs m in let bad : 0 ≡ suc i = h 0 (suc i) (omega arith) (omega arith) (sym e) in cc),
  distinct_places xs d (λ i j li lj e. let s : suc i ≡ suc j = h (suc i) (suc j) (omega arith) (omega arith) e in omega arith),
)
