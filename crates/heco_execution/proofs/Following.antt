-- Two executions side by side: what comes out over secrets in a store corresponds to what comes out over secrets that
-- need none.
use Rattle.std.proofs.Common.{◌≡◌, refl, subst, ℕ, List, [], ◌∷◌, Ok, Err}
use Rattle.heco_lex.specs.declared.place.Place.{Place}
use Rattle.heco_execution.specs.declared.progress.Progress.{Progress}
use Rattle.heco_execution.specs.Outcomes.{Outcome, after, counted}
use Rattle.heco_execution.specs.Steps.{Step, give, then, test, count, make}

-- each of the one list corresponds to that of the other at its place
abbrev pub AllLike : {A B : Type 0} → (A → B → Type 0) → List A → List B → Type 0
AllLike Q [] [] = Unit {0}
AllLike Q (x ∷ xs) (y ∷ ys) = Q x y × AllLike Q xs ys
AllLike Q [] (y ∷ ys) = ⊥
AllLike Q (x ∷ xs) [] = ⊥

-- the same rule is broken, or corresponding results come out
abbrev pub Agree : {A B : Type 0} → (A → B → Type 0) → Outcome A → Outcome B → Type 0
Agree Q (Ok x) (Ok y) = Q x y
Agree Q (Err e) (Err f) = e ≡ f
Agree Q (Ok x) (Err f) = ⊥
Agree Q (Err e) (Ok y) = ⊥

-- what comes after the same outcome
pub agree_same : {A C D : Type 0} (Q : C → D → Type 0) (o : Outcome A) (next : A → Outcome C) (next' : A → Outcome D)
    → ((x : A) → Agree Q (next x) (next' x)) → Agree Q (after o next) (after o next')
agree_same Q (Ok x) next next' h = h x
agree_same Q (Err e) next next' h = refl

-- how a store grows, and which secrets correspond in it, and stay so
pub record IsGrowth {S V W : Type 0} (Grows : S → S → Type 0) (R : S → V → W → Type 0) : Type 0 where
  pub stays : (s : S) → Grows s s
  pub further : (s t u : S) → Grows s t → Grows t u → Grows s u
  pub kept : (s t : S) (v : V) (w : W) → Grows s t → R s v w → R t v w

module _ {S : Type 0} (Grows : S → S → Type 0) where
  -- the steps are the same, the store has grown, and the results correspond in it; or the same rule is broken
  abbrev pub Comes : {A B : Type 0} → (S → A → B → Type 0) → S → Outcome (A × Progress S) → Outcome (B × Progress (Unit {0})) → Type 0
  Comes Q s (Ok x) (Ok y) = (x.1.steps ≡ y.1.steps) × Grows s x.1.store × Q x.1.store x.0 y.0
  Comes Q s (Err e) (Err f) = e ≡ f
  Comes Q s (Ok x) (Err f) = ⊥
  Comes Q s (Err e) (Ok y) = ⊥

  -- the one step follows the other from each store that this one grows to
  abbrev pub Follows : {A B : Type 0} → (S → A → B → Type 0) → S → Step S A → Step (Unit {0}) B → Type 0
  Follows Q s f g = (p : Progress S) (q : Progress (Unit {0})) → Grows s p.store → p.steps ≡ q.steps → Comes Q p.store (f p) (g q)

  -- what corresponds stays so as the store grows
  abbrev pub Lasts : {A B : Type 0} → (S → A → B → Type 0) → Type 0
  Lasts {A = A} {B = B} Q = (s t : S) (x : A) (y : B) → Grows s t → Q s x y → Q t x y

module _ {S V W : Type 0} (Grows : S → S → Type 0) (R : S → V → W → Type 0) (growth : IsGrowth Grows R) where
  wider : {A B : Type 0} (Q : S → A → B → Type 0) (s t : S) (o : Outcome (A × Progress S)) (u : Outcome (B × Progress (Unit {0})))
      → Grows s t → Comes Grows Q t o u → Comes Grows Q s o u
  wider Q s t (Ok x) (Ok y) grown c = (c.0, growth.further s t x.1.store grown c.1, c.2)
  wider Q s t (Err e) (Err f) grown c = c
  wider Q s t (Ok x) (Err f) grown c = c
  wider Q s t (Err e) (Ok y) grown c = c

  joined : {A B C D : Type 0} (Q : S → A → B → Type 0) (P : S → C → D → Type 0) (s : S) (o : Outcome (A × Progress S)) (u : Outcome (B × Progress (Unit {0})))
      (next : A → Step S C) (next' : B → Step (Unit {0}) D) → Comes Grows Q s o u
      → ((t : S) (x : A) (y : B) → Grows s t → Q t x y → Follows Grows P t (next x) (next' y))
      → Comes Grows P s (after o (λ r. next r.0 r.1)) (after u (λ r. next' r.0 r.1))
  joined Q P s (Ok x) (Ok y) next next' c k =
      wider P s x.1.store (next x.0 x.1) (next' y.0 y.1) c.1 (k x.1.store x.0 y.0 c.1 c.2 x.1 y.1 (growth.stays x.1.store) c.0)
  joined Q P s (Err e) (Err f) next next' c k = c
  joined Q P s (Ok x) (Err f) next next' c k = absurd c
  joined Q P s (Err e) (Ok y) next next' c k = absurd c

  -- steps one after another
  pub then_follows : {A B C D : Type 0} (Q : S → A → B → Type 0) (P : S → C → D → Type 0) (s : S) (f : Step S A) (g : Step (Unit {0}) B)
      (next : A → Step S C) (next' : B → Step (Unit {0}) D) → Follows Grows Q s f g
      → ((t : S) (x : A) (y : B) → Grows s t → Q t x y → Follows Grows P t (next x) (next' y))
      → Follows Grows P s (then f next) (then g next')
  then_follows Q P s f g next next' h k p q grown same =
      joined Q P p.store (f p) (g q) next next' (h p q grown same) (λ t x y more c. k t x y (growth.further s p.store t grown more) c)

  pub give_follows : {A B : Type 0} (Q : S → A → B → Type 0) (lasts : Lasts Grows Q) (s : S) (x : A) (y : B) → Q s x y → Follows Grows Q s (give x) (give y)
  give_follows Q lasts s x y c p q grown same = (same, growth.stays p.store, lasts s p.store x y grown c)

  tested : {A B : Type 0} (Q : S → A → B → Type 0) (o : Outcome A) (u : Outcome B) (p : Progress S) (q : Progress (Unit {0})) → p.steps ≡ q.steps
      → Agree (Q p.store) o u → Comes Grows Q p.store (test o p) (test u q)
  tested Q (Ok x) (Ok y) p q same c = (same, growth.stays p.store, c)
  tested Q (Err e) (Err f) p q same c = c
  tested Q (Ok x) (Err f) p q same c = c
  tested Q (Err e) (Ok y) p q same c = c

  pub test_follows : {A B : Type 0} (Q : S → A → B → Type 0) (s : S) (o : Outcome A) (u : Outcome B)
      → ((t : S) → Grows s t → Agree (Q t) o u) → Follows Grows Q s (test o) (test u)
  test_follows Q s o u h p q grown same = tested Q o u p q same (h p.store grown)

  abbrev Any : S → Unit {0} → Unit {0} → Type 0
  Any s x y = Unit {0}

  counted_comes : (o : Outcome ℕ) (p : Progress S) (q : Progress (Unit {0}))
      → Comes Grows Any p.store (after o (λ n. Ok (tt, record { steps = n; store = p.store }))) (after o (λ n. Ok (tt, record { steps = n; store = q.store })))
  counted_comes (Ok n) p q = (refl, growth.stays p.store, tt)
  counted_comes (Err e) p q = refl

  pub count_follows : (s : S) (more : ℕ) (at : Place) → Follows Grows Any s (count more at) (count more at)
  count_follows s more at p q grown same =
      subst (λ n. Comes Grows Any p.store (count more at p) (after (counted more at n) (λ k. Ok (tt, record { steps = k; store = q.store })))) same
      (counted_comes (counted more at p.steps) p q)

  -- a step is counted first
  pub counted_follows : {C D : Type 0} (P : S → C → D → Type 0) (s : S) (more : ℕ) (at : Place) (next : Step S C) (next' : Step (Unit {0}) D)
      → ((t : S) → Grows s t → Follows Grows P t next next') → Follows Grows P s (then (count more at) (λ _. next)) (then (count more at) (λ _. next'))
  counted_follows P s more at next next' k = then_follows Any P s (count more at) (count more at) (λ _. next) (λ _. next') (count_follows s more at) (λ t x y grown c. k t grown)

  pub make_follows : {A B : Type 0} (Q : S → A → B → Type 0) (s : S) (f : S → A × S) (y : B)
      → ((t : S) → Grows s t → Grows t (f t).1 × Q (f t).1 (f t).0 y) → Follows Grows Q s (make f) (make (λ u. (y, u)))
  make_follows Q s f y h p q grown same = (same, (h p.store grown).0, (h p.store grown).1)
