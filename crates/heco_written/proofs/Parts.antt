use Rattle.std.proofs.Common.{◌≡◌, ℕ, ◌≤◌, List, [], ◌∷◌, ◌++◌, refl, arith, ap, ◌∙◌, sym, ◌⊎◌, inl, inr, Bool, true, false, cond, ◌||◌, ◌&&◌}
use Rattle.std.specs.List.{list_any}
use Rattle.std.proofs.lemmas.Bool.{eq-eqb}
use Rattle.std.proofs.lemmas.List.Recursion.{is_sum_by}
use Rattle.heco_written.specs.VectorTerm.{VectorTerm, Input, Negated, Added, Multiplied, Scaled, Shifted, Turned, same_vector}
use Rattle.heco_written.specs.Cost.{subterms, is_input, gathered, all_subterms, parts, gates_of, gates, cost}
use Rattle.heco_written.proofs.RunSlots.{same_vector-true}
use Rattle.heco_written.proofs.Members.{Member, Distinct, member-append_left, member-append_right, member-append, total, total_within}

both : (a b : Bool) → a ≡ true → b ≡ true → (a && b) ≡ true
both a b ha hb = rw (ha, hb) refl

pub same_vector-itself : (v : VectorTerm) → same_vector v v ≡ true
same_vector-itself (Input a) = eq-eqb a a refl
same_vector-itself (Negated v) = same_vector-itself v
same_vector-itself (Added v u) = both _ _ (same_vector-itself v) (same_vector-itself u)
same_vector-itself (Multiplied v u) = both _ _ (same_vector-itself v) (same_vector-itself u)
same_vector-itself (Scaled c v) = both _ _ (eq-eqb c c refl) (same_vector-itself v)
same_vector-itself (Shifted c v) = both _ _ (eq-eqb c c refl) (same_vector-itself v)
same_vector-itself (Turned r v) = both _ _ (eq-eqb r r refl) (same_vector-itself v)

found_member : (v : VectorTerm) (vs : List VectorTerm) → list_any (same_vector v) vs ≡ true → Member v vs
found_member v [] h = cc
found_member v (u ∷ vs) h = by (same_vector v u) refl h (found_member v vs)
  where
    by : (t : Bool) → same_vector v u ≡ t → (t || list_any (same_vector v) vs) ≡ true → (list_any (same_vector v) vs ≡ true → Member v vs) → Member v (u ∷ vs)
    by true e g rest = inl (same_vector-true v u e)
    by false e g rest = inr (rest g)

member_found : (v : VectorTerm) (vs : List VectorTerm) → Member v vs → list_any (same_vector v) vs ≡ true
member_found v [] h = elim h [ ]
member_found v (u ∷ vs) (inl e) =
    let s : same_vector v u ≡ true = ap (same_vector v) (sym e) ∙ same_vector-itself v in rw s refl
member_found v (u ∷ vs) (inr m) = by (same_vector v u) (member_found v vs m)
  where
    by : (t : Bool) → list_any (same_vector v) vs ≡ true → (t || list_any (same_vector v) vs) ≡ true
    by true e = refl
    by false e = e

-- what is gathered already stays
gathered-keeps : (x : VectorTerm) (vs ps : List VectorTerm) → Member x ps → Member x (gathered ps vs)
gathered-keeps x [] ps h = h
gathered-keeps x (v ∷ vs) ps h = gathered-keeps x vs (cond (is_input v || list_any (same_vector v) ps) ps (ps ++ v ∷ [])) (by (is_input v || list_any (same_vector v) ps))
  where
    by : (t : Bool) → Member x (cond t ps (ps ++ v ∷ []))
    by true = h
    by false = member-append_left x ps (v ∷ []) h

-- each that is no input is gathered
gathered-has : (x : VectorTerm) (vs ps : List VectorTerm) → is_input x ≡ false → Member x vs → Member x (gathered ps vs)
gathered-has x [] ps i h = elim h [ ]
gathered-has x (v ∷ vs) ps i (inr m) = gathered-has x vs (cond (is_input v || list_any (same_vector v) ps) ps (ps ++ v ∷ [])) i m
gathered-has x (v ∷ vs) ps i (inl e) = gathered-keeps x vs (cond (is_input v || list_any (same_vector v) ps) ps (ps ++ v ∷ [])) (by (is_input v || list_any (same_vector v) ps) refl)
  where
    known : (s t : Bool) → s ≡ false → (s || t) ≡ true → t ≡ true
    known true t a b = cc
    known false t a b = b

    by : (t : Bool) → (is_input v || list_any (same_vector v) ps) ≡ t → Member x (cond t ps (ps ++ v ∷ []))
    by true g = rw e (found_member v ps (known (is_input v) _ (ap is_input (sym e) ∙ i) g))
    by false g = member-append_right x ps (v ∷ []) (inl e)

gates_of-no_input : (v : VectorTerm) → is_input v ≡ false → gates_of v ≡ gates v
gates_of-no_input (Input a) h = cc
gates_of-no_input v h = refl

total-same : (vs : List VectorTerm) → ((x : VectorTerm) → Member x vs → is_input x ≡ false) → total gates_of vs ≡ total gates vs
total-same [] h = refl
total-same (v ∷ vs) h = rw (gates_of-no_input v (h v (inl refl)), total-same vs (λ x m. h x (inr m))) refl

distinct_push : (v : VectorTerm) (ps : List VectorTerm) → Distinct ps → (Member v ps → ⊥) → Distinct (ps ++ v ∷ [])
distinct_push v [] d n = ((λ m. m), tt)
distinct_push v (p ∷ ps) d n = (
  (λ m. elim (member-append p ps (v ∷ []) m) [ inl a ↦ d.0 a | inr b ↦ elim b [ inl e ↦ n (inl (sym e)) | inr k ↦ k ] ]),
  distinct_push v ps d.1 (λ m. n (inr m)),
)

pub parts-have : (x : VectorTerm) (vs : List VectorTerm) → is_input x ≡ false → Member x (all_subterms vs) → Member x (parts vs)
parts-have x vs i h = gathered-has x (all_subterms vs) [] i h

gates-input : (v : VectorTerm) → (gates v ≡ 0) ⊎ ((is_input v ≡ false))
gates-input (Input a) = inl refl
gates-input v = inr refl

gates-le : (v : VectorTerm) → gates v ≤ gates_of v
gates-le (Input a) = omega arith
gates-le v = omega arith

total-le : (vs : List VectorTerm) → total gates vs ≤ total gates_of vs
total-le [] = omega arith
total-le (v ∷ vs) = omega (arith, gates-le v, total-le vs)

-- distinct terms within the written forms cost no more than these
pub cost_bound : (xs vs : List VectorTerm) → Distinct xs → ((x : VectorTerm) → Member x xs → Member x (all_subterms vs)) → total gates xs ≤ cost vs
cost_bound xs vs d h =
    let within : total gates xs ≤ total gates (parts vs) =
    total_within gates xs (parts vs) d (λ x m. elim (gates-input x) [ inl e ↦ inl e | inr i ↦ inr (parts-have x vs i (h x m)) ]) in
    omega (arith, within, total-le (parts vs), is_sum_by (total gates_of) gates_of refl (λ x xs. refl) (parts vs))

-- an operand of a term
abbrev pub IsOperand : VectorTerm → VectorTerm → Type 0
IsOperand x (Input a) = ⊥
IsOperand x (Negated v) = x ≡ v
IsOperand x (Added v u) = (x ≡ v) ⊎ (x ≡ u)
IsOperand x (Multiplied v u) = (x ≡ v) ⊎ (x ≡ u)
IsOperand x (Scaled c v) = x ≡ v
IsOperand x (Shifted c v) = x ≡ v
IsOperand x (Turned r v) = x ≡ v

pub subterms-itself : (v : VectorTerm) → Member v (subterms v)
subterms-itself (Input a) = inl refl
subterms-itself (Negated v) = member-append_right _ (subterms v) _ (inl refl)
subterms-itself (Added v u) = member-append_right _ (subterms v ++ subterms u) _ (inl refl)
subterms-itself (Multiplied v u) = member-append_right _ (subterms v ++ subterms u) _ (inl refl)
subterms-itself (Scaled c v) = member-append_right _ (subterms v) _ (inl refl)
subterms-itself (Shifted c v) = member-append_right _ (subterms v) _ (inl refl)
subterms-itself (Turned r v) = member-append_right _ (subterms v) _ (inl refl)

-- subterms are closed under operands
module _ (x : VectorTerm) where
  at_top : (y top : VectorTerm) (ws : List VectorTerm) → IsOperand x y → (Member y ws → Member x ws) → ((y ≡ top) → Member x ws) → Member y (ws ++ top ∷ []) → Member x (ws ++ top ∷ [])
  at_top y top ws o below here m =
      elim (member-append y ws (top ∷ []) m) [
        | inl a ↦ member-append_left x ws (top ∷ []) (below a)
        | inr b ↦ elim b [ inl e ↦ member-append_left x ws (top ∷ []) (here e) | inr n ↦ absurd n ]
      ]

  pub subterms-closed : (y z : VectorTerm) → IsOperand x y → Member y (subterms z) → Member x (subterms z)
  subterms-closed y (Input a) o (inl e) = let bad : IsOperand x (Input a) = rw e at o in absurd bad
  subterms-closed y (Input a) o (inr m) = absurd m
  subterms-closed y (Negated v) o m =
      at_top y (Negated v) (subterms v) o (subterms-closed y v o)
      (λ e. let here : IsOperand x (Negated v) = rw e at o in rw here (subterms-itself v)) m
  subterms-closed y (Added v u) o m =
      at_top y (Added v u) (subterms v ++ subterms u) o
      (λ k. elim (member-append y (subterms v) (subterms u) k) [
        | inl a ↦ member-append_left x (subterms v) (subterms u) (subterms-closed y v o a)
        | inr b ↦ member-append_right x (subterms v) (subterms u) (subterms-closed y u o b)
      ])
      (λ e. let here : IsOperand x (Added v u) = rw e at o in
      elim here [
        | inl f ↦ member-append_left x (subterms v) (subterms u) (rw f (subterms-itself v))
        | inr f ↦ member-append_right x (subterms v) (subterms u) (rw f (subterms-itself u))
      ]) m
  subterms-closed y (Multiplied v u) o m =
      at_top y (Multiplied v u) (subterms v ++ subterms u) o
      (λ k. elim (member-append y (subterms v) (subterms u) k) [
        | inl a ↦ member-append_left x (subterms v) (subterms u) (subterms-closed y v o a)
        | inr b ↦ member-append_right x (subterms v) (subterms u) (subterms-closed y u o b)
      ])
      (λ e. let here : IsOperand x (Multiplied v u) = rw e at o in
      elim here [
        | inl f ↦ member-append_left x (subterms v) (subterms u) (rw f (subterms-itself v))
        | inr f ↦ member-append_right x (subterms v) (subterms u) (rw f (subterms-itself u))
      ]) m
  subterms-closed y (Scaled c v) o m =
      at_top y (Scaled c v) (subterms v) o (subterms-closed y v o)
      (λ e. let here : IsOperand x (Scaled c v) = rw e at o in rw here (subterms-itself v)) m
  subterms-closed y (Shifted c v) o m =
      at_top y (Shifted c v) (subterms v) o (subterms-closed y v o)
      (λ e. let here : IsOperand x (Shifted c v) = rw e at o in rw here (subterms-itself v)) m
  subterms-closed y (Turned r v) o m =
      at_top y (Turned r v) (subterms v) o (subterms-closed y v o)
      (λ e. let here : IsOperand x (Turned r v) = rw e at o in rw here (subterms-itself v)) m

  pub all_subterms-closed : (y : VectorTerm) (vs : List VectorTerm) → IsOperand x y → Member y (all_subterms vs) → Member x (all_subterms vs)
  all_subterms-closed y [] o m = m
  all_subterms-closed y (v ∷ vs) o m =
      elim (member-append y (subterms v) (all_subterms vs) m) [
        | inl a ↦ member-append_left x (subterms v) (all_subterms vs) (subterms-closed y v o a)
        | inr b ↦ member-append_right x (subterms v) (all_subterms vs) (all_subterms-closed y vs o b)
      ]

pub all_subterms-itself : (v : VectorTerm) (vs : List VectorTerm) → Member v vs → Member v (all_subterms vs)
all_subterms-itself v [] m = m
all_subterms-itself v (u ∷ vs) (inl e) = member-append_left v (subterms u) (all_subterms vs) (rw e (subterms-itself u))
all_subterms-itself v (u ∷ vs) (inr m) = member-append_right v (subterms u) (all_subterms vs) (all_subterms-itself v vs m)

-- what is gathered stood in the list, and is no input
from_gathered : (x : VectorTerm) (vs ps : List VectorTerm) → Member x (gathered ps vs) → Member x ps ⊎ ((is_input x ≡ false) × Member x vs)
from_gathered x [] ps m = inl m
from_gathered x (v ∷ vs) ps m =
    by (is_input v) (list_any (same_vector v) ps) refl (from_gathered x vs (cond (is_input v || list_any (same_vector v) ps) ps (ps ++ v ∷ [])) m)
  where
    by : (s t : Bool) → is_input v ≡ s → Member x (cond (s || t) ps (ps ++ v ∷ [])) ⊎ ((is_input x ≡ false) × Member x vs) → Member x ps ⊎ ((is_input x ≡ false) × Member x (v ∷ vs))
    by s t e (inr b) = inr (b.0, inr b.1)
    by true t e (inl a) = inl a
    by false true e (inl a) = inl a
    by false false e (inl a) =
        elim (member-append x ps (v ∷ []) a) [
          | inl k ↦ inl k
          | inr k ↦ elim k [ inl f ↦ inr (ap is_input f ∙ e, inl f) | inr n ↦ absurd n ]
        ]

pub parts-from : (x : VectorTerm) (vs : List VectorTerm) → Member x (parts vs) → (is_input x ≡ false) × Member x (all_subterms vs)
parts-from x vs m = elim (from_gathered x (all_subterms vs) [] m) [ inl a ↦ absurd a | inr b ↦ b ]

gathered-distinct : (vs ps : List VectorTerm) → Distinct ps → Distinct (gathered ps vs)
gathered-distinct [] ps d = d
gathered-distinct (v ∷ vs) ps d =
    gathered-distinct vs (cond (is_input v || list_any (same_vector v) ps) ps (ps ++ v ∷ [])) (by (is_input v) (list_any (same_vector v) ps) refl)
  where
    by : (s t : Bool) → list_any (same_vector v) ps ≡ t → Distinct (cond (s || t) ps (ps ++ v ∷ []))
    by true t e = d
    by false true e = d
    by false false e = distinct_push v ps d (λ m. let bad : list_any (same_vector v) ps ≡ true = member_found v ps m in cc)

-- each part stands once
pub parts-distinct : (vs : List VectorTerm) → Distinct (parts vs)
parts-distinct vs = gathered-distinct (all_subterms vs) [] tt

-- where the terms are exactly those within the written forms, the cost is theirs
pub cost_is : (xs vs : List VectorTerm) → Distinct xs → ((x : VectorTerm) → Member x xs → Member x (all_subterms vs)) → ((x : VectorTerm) → Member x (all_subterms vs) → Member x xs)
    → total gates xs ≡ cost vs
cost_is xs vs d into from =
    let low : total gates xs ≤ cost vs = cost_bound xs vs d into in
    let high : total gates (parts vs) ≤ total gates xs =
    total_within gates (parts vs) xs (parts-distinct vs) (λ x m. inr (from x ((parts-from x vs m).1))) in
    let same : total gates_of (parts vs) ≡ total gates (parts vs) = total-same (parts vs) (λ x m. (parts-from x vs m).0) in
    omega (arith, low, high, same, is_sum_by (total gates_of) gates_of refl (λ x xs. refl) (parts vs))

-- terms that are exactly those within the written forms have each total that the parts have
pub totals_agree : (f : VectorTerm → ℕ) → ((a : ℕ) → f (Input a) ≡ 0) → (xs vs : List VectorTerm) → Distinct xs
    → ((x : VectorTerm) → Member x xs → Member x (all_subterms vs)) → ((x : VectorTerm) → Member x (all_subterms vs) → Member x xs)
    → total f xs ≡ total f (parts vs)
totals_agree f zero_at xs vs d into from =
    let low : total f xs ≤ total f (parts vs) =
    total_within f xs (parts vs) d (λ x m. elim (by x) [ inl e ↦ inl e | inr i ↦ inr (parts-have x vs i (into x m)) ]) in
    let high : total f (parts vs) ≤ total f xs = total_within f (parts vs) xs (parts-distinct vs) (λ x m. inr (from x ((parts-from x vs m).1))) in
    omega (arith, low, high)
  where
    by : (x : VectorTerm) → (f x ≡ 0) ⊎ (is_input x ≡ false)
    by (Input a) = inl (zero_at a)
    by x = inr refl
