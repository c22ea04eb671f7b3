-- Distinct terms that are exactly the subterms of written forms, and inputs, have their cost, late cost and needs.
use Rattle.std.proofs.Common.{◌≡◌, ℕ, ◌+◌, List, [], ◌∷◌, refl, arith, length, ap, ◌∙◌, sym, inl, inr, Bool, true, false, cond, ◌||◌, ◌&&◌}
use Rattle.std.specs.List.{list_any, sum_by}
use Rattle.std.proofs.lemmas.List.Recursion.{is_sum_by}
use Rattle.heco_written.specs.VectorTerm.{VectorTerm, Input, same_vector}
use Rattle.heco_written.specs.Cost.{is_input, all_subterms, parts, gates, cost, is_long, turns_or_multiplies, is_due, late_cost, late_gates}
use Rattle.heco_written.specs.Needs.{is_product, turns_by, needs_relinearisation, needs_turn}
use Rattle.heco_written.proofs.Members.{Member, Distinct, total}
use Rattle.heco_written.proofs.Parts.{cost_is, totals_agree, parts-have, parts-from}

any_member : (p : VectorTerm → Bool) (xs : List VectorTerm) → list_any p xs ≡ true → (x : VectorTerm) × Member x xs × (p x ≡ true)
any_member p [] h = cc
any_member p (y ∷ xs) h = by (p y) refl h (any_member p xs)
  where
    by : (t : Bool) → p y ≡ t → (t || list_any p xs) ≡ true → (list_any p xs ≡ true → (x : VectorTerm) × Member x xs × (p x ≡ true))
        → (x : VectorTerm) × Member x (y ∷ xs) × (p x ≡ true)
    by true e g rest = (y, inl refl, e)
    by false e g rest = let (x, m, q) = rest g in (x, inr m, q)

member_any : (p : VectorTerm → Bool) (x : VectorTerm) (xs : List VectorTerm) → Member x xs → p x ≡ true → list_any p xs ≡ true
member_any p x [] m h = absurd m
member_any p x (y ∷ xs) (inl e) h = let s : p y ≡ true = ap p (sym e) ∙ h in rw s refl
member_any p x (y ∷ xs) (inr m) h = by (p y) (member_any p x xs m h)
  where
    by : (t : Bool) → list_any p xs ≡ true → (t || list_any p xs) ≡ true
    by true e = refl
    by false e = e

equal : (a b : Bool) → (a ≡ true → b ≡ true) → (b ≡ true → a ≡ true) → a ≡ b
equal true b f g = sym (f refl)
equal false true f g = g refl
equal false false f g = refl

no_input : (p : VectorTerm → Bool) → ((a : ℕ) → p (Input a) ≡ false) → (x : VectorTerm) → p x ≡ true → is_input x ≡ false
no_input p none (Input a) h = let bad : p (Input a) ≡ false = none a in cc
no_input p none x h = refl

late_at : (ts qs vs : List VectorTerm) (v : VectorTerm) → is_input v ≡ false → is_due ts vs v ≡ is_due qs vs v
    → late_gates ts vs v ≡ 1 + cond (is_due qs vs v) 1 0
late_at ts qs vs (Input a) i d = cc
late_at ts qs vs v i d = ap (λ t. 1 + cond t 1 0) d

total-late : (ts qs vs ps : List VectorTerm) → ((x : VectorTerm) → Member x ps → (is_input x ≡ false) × (is_due ts vs x ≡ is_due qs vs x))
    → total (late_gates ts vs) ps ≡ length ps + total (λ x. cond (is_due qs vs x) 1 0) ps
total-late ts qs vs [] h = refl
total-late ts qs vs (p ∷ ps) h =
    let (i, d) = h p (inl refl) in
    omega (arith, late_at ts qs vs p i d, total-late ts qs vs ps (λ x m. h x (inr m)))

sum_by-total : (f : VectorTerm → ℕ) (xs : List VectorTerm) → total f xs ≡ sum_by f xs
sum_by-total f xs = is_sum_by (total f) f refl (λ x xs. refl) xs

module _ (xs vs : List VectorTerm) (distinct : Distinct xs)
    (into : (x : VectorTerm) → Member x xs → Member x (all_subterms vs)) (from : (x : VectorTerm) → Member x (all_subterms vs) → Member x xs) where
  any_agrees : (p : VectorTerm → Bool) → ((a : ℕ) → p (Input a) ≡ false) → list_any p xs ≡ list_any p (parts vs)
  any_agrees p none =
      equal _ _
      (λ h. let (x, m, e) = any_member p xs h in member_any p x (parts vs) (parts-have x vs (no_input p none x e) (into x m)) e)
      (λ h. let (x, m, e) = any_member p (parts vs) h in member_any p x xs (from x ((parts-from x vs m).1)) e)

  due_agrees : (x : VectorTerm) → is_due xs vs x ≡ is_due (parts vs) vs x
  due_agrees x = ap (λ t. is_long x && (t || list_any (same_vector x) vs)) (any_agrees (turns_or_multiplies x) (λ a. refl))

  pub gates-cost : sum_by gates xs ≡ cost vs
  gates-cost = sym (sum_by-total gates xs) ∙ cost_is xs vs distinct into from

  pub late_gates-late_cost : sum_by (late_gates xs vs) xs ≡ late_cost vs
  late_gates-late_cost =
      sym (sum_by-total (late_gates xs vs) xs)
      ∙ totals_agree (late_gates xs vs) (λ a. refl) xs vs distinct into from
      ∙ total-late xs (parts vs) vs (parts vs) (λ x m. ((parts-from x vs m).0, due_agrees x))
      ∙ ap (λ k. length (parts vs) + k) (sum_by-total (λ x. cond (is_due (parts vs) vs x) 1 0) (parts vs))

  pub products-needed : list_any is_product xs ≡ needs_relinearisation vs
  products-needed = any_agrees is_product (λ a. refl)

  pub turns-needed : (r : ℕ) → list_any (turns_by r) xs ≡ needs_turn vs r
  turns-needed r = any_agrees (turns_by r) (λ a. refl)
