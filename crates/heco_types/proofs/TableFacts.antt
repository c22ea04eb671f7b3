-- The earliest broken rule of the table.
use Rattle.std.proofs.Common.{◌≡◌, ◌∙◌, refl, sym, ap, subst, ℕ, ◌+◌, ◌≤◌, ◌⊎◌, inl, inr, Bool, true, false, cond, List, [], ◌∷◌, Option, Some, None, arith}
use Rattle.std.specs.List.{find}
use Rattle.heco_lex.specs.declared.rule.Rule.{Rule}
use Rattle.heco_lex.specs.declared.rule.Rule.TheVariants as rule
use Rattle.heco_types.specs.Table.{Role, is_broken, table, row, earliest}
use Rattle.heco_types.specs.declared.name.Entity.{Entity}

abbrev In : Rule → List Rule → Type 0
In r [] = ⊥
In r (x ∷ xs) = (x ≡ r) ⊎ In r xs

-- each row is above those behind it
abbrev Ordered : List Rule → Type 0
Ordered [] = Unit {0}
Ordered (x ∷ xs) = ((r : Rule) → In r xs → row x ≤ row r) × Ordered xs

taken : (b : Bool) (x : Rule) (rest : Option Rule) (r : Rule) → cond b (Some x) rest ≡ Some r → ((b ≡ true) × (x ≡ r)) ⊎ ((b ≡ false) × (rest ≡ Some r))
taken true x rest r e = inl (refl, cc)
taken false x rest r e = inr (refl, e)

passed : (b : Bool) (x : Rule) (rest : Option Rule) → cond b (Some x) rest ≡ None → (b ≡ false) × (rest ≡ None)
passed true x rest e = absurd (cc)
passed false x rest e = (refl, e)

true_or_false : (b : Bool) → b ≡ true → b ≡ false → ⊥
true_or_false b e f = cc

find-none : (p : Rule → Bool) (xs : List Rule) → find p xs ≡ None → (r : Rule) → In r xs → p r ≡ true → ⊥
find-none p [] e r i t = i
find-none p (x ∷ xs) e r i t =
    let h = passed (p x) x (find p xs) e in
    elim i [ inl s ↦ true_or_false (p r) t (subst (λ z. p z ≡ false) s h.0) | inr j ↦ find-none p xs h.1 r j t ]

find-holds : (p : Rule → Bool) (xs : List Rule) (r : Rule) → find p xs ≡ Some r → p r ≡ true
find-holds p [] r e = absurd (cc)
find-holds p (x ∷ xs) r e = elim (taken (p x) x (find p xs) r e) [ inl h ↦ subst (λ z. p z ≡ true) h.1 h.0 | inr h ↦ find-holds p xs r h.1 ]

find-in : (p : Rule → Bool) (xs : List Rule) (r : Rule) → find p xs ≡ Some r → In r xs
find-in p [] r e = absurd (cc)
find-in p (x ∷ xs) r e = elim (taken (p x) x (find p xs) r e) [ inl h ↦ inl h.1 | inr h ↦ inr (find-in p xs r h.1) ]

find-least : (p : Rule → Bool) (xs : List Rule) (r : Rule) → Ordered xs → find p xs ≡ Some r → (s : Rule) → In s xs → p s ≡ true → row r ≤ row s
find-least p [] r o e s i t = absurd i
find-least p (x ∷ xs) r o e s i t =
    elim (taken (p x) x (find p xs) r e) [
      | inl h ↦ elim i [ inl j ↦ (let same : row r ≡ row s = ap row (sym h.1 ∙ j) in omega arith) | inr j ↦ subst (λ z. row z ≤ row s) h.1 (o.0 s j) ]
      | inr h ↦ elim i [ inl j ↦ absurd (true_or_false (p s) t (subst (λ z. p z ≡ false) j h.0)) | inr j ↦ find-least p xs r o.1 h.1 s j t ]
    ]

in_table : (r : Rule) (role : Role) (found : Option Entity) → is_broken r role found ≡ true → In r table
in_table rule.BadByte role found e = absurd (cc)
in_table rule.Syntax role found e = absurd (cc)
in_table rule.TooNested role found e = inr (inr (inr (inr (inr (inr (inr (inr (inr (inl refl)))))))))
in_table rule.UnknownParams role found e = inl refl
in_table rule.UnknownName role found e = inr (inl refl)
in_table rule.Redeclared role found e = inr (inr (inl refl))
in_table rule.NotAssignable role found e = inr (inr (inr (inl refl)))
in_table rule.Kind role found e = inr (inr (inr (inr (inl refl))))
in_table rule.SecretIndex role found e = inr (inr (inr (inr (inr (inl refl)))))
in_table rule.SecretBound role found e = inr (inr (inr (inr (inr (inr (inl refl))))))
in_table rule.SecretToPublic role found e = inr (inr (inr (inr (inr (inr (inr (inl refl)))))))
in_table rule.Length role found e = inr (inr (inr (inr (inr (inr (inr (inr (inl refl))))))))
in_table rule.IndexRange role found e = absurd (cc)
in_table rule.PublicRange role found e = absurd (cc)
in_table rule.TooLarge role found e = absurd (cc)

-- the rows from a number on
abbrev Counted : ℕ → List Rule → Type 0
Counted n [] = Unit {0}
Counted n (x ∷ xs) = (row x ≡ n) × Counted (n + 1) xs

above : (n m : ℕ) (xs : List Rule) → m ≤ n → Counted n xs → (r : Rule) → In r xs → m ≤ row r
above n m [] h c r i = absurd i
above n m (x ∷ xs) h c r i =
    elim i [ inl e ↦ (let a : row x ≡ n = c.0 in let b : row x ≡ row r = ap row e in omega arith) | inr j ↦ above (n + 1) m xs (omega arith) c.1 r j ]

ordered : (n : ℕ) (xs : List Rule) → Counted n xs → Ordered xs
ordered n [] c = tt
ordered n (x ∷ xs) c = ((λ r i. let a : row x ≡ n = c.0 in above (n + 1) (row x) xs (omega arith) c.1 r i), ordered (n + 1) xs c.1)

table_counted : Counted 0 table
table_counted = (refl, (refl, (refl, (refl, (refl, (refl, (refl, (refl, (refl, (refl, tt))))))))))

table_ordered : Ordered table
table_ordered = ordered 0 table table_counted

pub earliest-none : (role : Role) (found : Option Entity) → earliest role found ≡ None → (r : Rule) → is_broken r role found ≡ true → ⊥
earliest-none role found e r t = find-none (λ s. is_broken s role found) table e r (in_table r role found t) t

pub earliest-breaks : (role : Role) (found : Option Entity) (r : Rule) → earliest role found ≡ Some r → is_broken r role found ≡ true
earliest-breaks role found r e = find-holds (λ s. is_broken s role found) table r e

pub earliest-least : (role : Role) (found : Option Entity) (r : Rule) → earliest role found ≡ Some r → (s : Rule) → is_broken s role found ≡ true → row r ≤ row s
earliest-least role found r e s t = find-least (λ z. is_broken z role found) table r table_ordered e s (in_table s role found t) t

behind : (n : ℕ) (x : Rule) (xs : List Rule) → Counted n (x ∷ xs) → (r : Rule) → In r xs → row x ≡ row r → ⊥
behind n x xs c r i e = (let a : row x ≡ n = c.0 in let b : n + 1 ≤ row r = above (n + 1) (n + 1) xs (omega arith) c.1 r i in omega arith)

one_row : (n : ℕ) (xs : List Rule) → Counted n xs → (r s : Rule) → In r xs → In s xs → row r ≡ row s → r ≡ s
one_row n [] c r s i j e = absurd i
one_row n (x ∷ xs) c r s (inl a) (inl b) e = sym a ∙ b
one_row n (x ∷ xs) c r s (inl a) (inr j) e = absurd (behind n x xs c s j (ap row a ∙ e))
one_row n (x ∷ xs) c r s (inr i) (inl b) e = absurd (behind n x xs c r i (ap row b ∙ sym e))
one_row n (x ∷ xs) c r s (inr i) (inr j) e = one_row (n + 1) xs c.1 r s i j e

-- broken rules of one row are one rule
pub same_row : (r s : Rule) (role other : Role) (found known : Option Entity) → is_broken r role found ≡ true → is_broken s other known ≡ true → row r ≡ row s → r ≡ s
same_row r s role other found known a b e = one_row 0 table table_counted r s (in_table r role found a) (in_table s other known b) e
