-- A text has one split, or one first byte that begins no token, and never both.
use Rattle.std.proofs.Common.{◌≡◌, ◌⊎◌, inl, inr, sym, subst, refl, ℕ, zero, suc, ◌+◌, ◌<◌, ◌≤◌, true, false, List, [], ◌∷◌, Some, None, arith, take, drop}
use Rattle.std.proofs.lemmas.Bool.Decides.{nat_tests}
use Rattle.heco_lex.specs.Kinds.{is_blank, kind_of}
use Rattle.heco_lex.specs.Splits.{IsLongest, IsBad, begins_comment, Splits, BadAt, nothing, blank, comment, token, here, after_blank, after_comment, after_token}
use Rattle.heco_lex.specs.declared.token.Token.{Token}
use Rattle.heco_lex.specs.declared.token.TokenKind.{TokenKind}

cases_lt : (a b : ℕ) → (a < b) ⊎ (b ≤ a)
cases_lt zero zero = inr (omega arith)
cases_lt zero (suc b) = inl (omega arith)
cases_lt (suc a) zero = inr (omega arith)
cases_lt (suc a) (suc b) = elim (cases_lt a b) [ inl h ↦ inl (omega arith) | inr h ↦ inr (omega arith) ]

slash_none : (m : ℕ) (w : List ℕ) → kind_of (take m (47 ∷ w)) ≡ None
slash_none zero w = refl
slash_none (suc zero) w = refl
slash_none (suc (suc m)) [] = refl
slash_none (suc (suc zero)) (d ∷ w) = refl
slash_none (suc (suc (suc m))) (d ∷ []) = refl
slash_none (suc (suc (suc m))) (d ∷ e ∷ w) = refl

comment_is : (c : ℕ) (cs : List ℕ) → begins_comment (c ∷ cs) ≡ true → c ≡ 47
comment_is c [] h = cc
comment_is c (d ∷ cs) h = grind (arith, nat_tests)

comment_none : (cs : List ℕ) → begins_comment cs ≡ true → (m : ℕ) → kind_of (take m cs) ≡ None
comment_none [] h m = cc
comment_none (c ∷ cs) h m = subst (λ x. kind_of (take m (x ∷ cs)) ≡ None) (sym (comment_is c cs h)) (slash_none m cs)

module _ (c : ℕ) (h : (c ≡ 32) ⊎ ((c ≡ 9) ⊎ ((c ≡ 13) ⊎ (c ≡ 10)))) where
  by_blank : (P : ℕ → Type 0) → P 32 → P 9 → P 13 → P 10 → P c
  by_blank P a b d e = elim h [
    | inl x ↦ subst P (sym x) a
    | inr u ↦ elim u [ inl x ↦ subst P (sym x) b | inr v ↦ elim v [ inl x ↦ subst P (sym x) d | inr x ↦ subst P (sym x) e ] ]
  ]

blank_is : (c : ℕ) → is_blank c ≡ true → (c ≡ 32) ⊎ ((c ≡ 9) ⊎ ((c ≡ 13) ⊎ (c ≡ 10)))
blank_is c h = grind (arith, nat_tests)

space_none : (m : ℕ) (w : List ℕ) → kind_of (take m (32 ∷ w)) ≡ None
space_none zero w = refl
space_none (suc zero) w = refl
space_none (suc (suc m)) [] = refl
space_none (suc (suc zero)) (d ∷ w) = refl
space_none (suc (suc (suc m))) (d ∷ []) = refl
space_none (suc (suc (suc m))) (d ∷ e ∷ w) = refl

tab_none : (m : ℕ) (w : List ℕ) → kind_of (take m (9 ∷ w)) ≡ None
tab_none zero w = refl
tab_none (suc zero) w = refl
tab_none (suc (suc m)) [] = refl
tab_none (suc (suc zero)) (d ∷ w) = refl
tab_none (suc (suc (suc m))) (d ∷ []) = refl
tab_none (suc (suc (suc m))) (d ∷ e ∷ w) = refl

return_none : (m : ℕ) (w : List ℕ) → kind_of (take m (13 ∷ w)) ≡ None
return_none zero w = refl
return_none (suc zero) w = refl
return_none (suc (suc m)) [] = refl
return_none (suc (suc zero)) (d ∷ w) = refl
return_none (suc (suc (suc m))) (d ∷ []) = refl
return_none (suc (suc (suc m))) (d ∷ e ∷ w) = refl

line_none : (m : ℕ) (w : List ℕ) → kind_of (take m (10 ∷ w)) ≡ None
line_none zero w = refl
line_none (suc zero) w = refl
line_none (suc (suc m)) [] = refl
line_none (suc (suc zero)) (d ∷ w) = refl
line_none (suc (suc (suc m))) (d ∷ []) = refl
line_none (suc (suc (suc m))) (d ∷ e ∷ w) = refl

blank_none : (c : ℕ) (cs : List ℕ) → is_blank c ≡ true → (m : ℕ) → kind_of (take m (c ∷ cs)) ≡ None
blank_none c cs h m = by_blank c (blank_is c h) (λ x. kind_of (take m (x ∷ cs)) ≡ None) (space_none m cs) (tab_none m cs) (return_none m cs) (line_none m cs)

blank_no_comment : (c : ℕ) (cs : List ℕ) → is_blank c ≡ true → begins_comment (c ∷ cs) ≡ true → ⊥
blank_no_comment c cs h g = let e : c ≡ 47 = comment_is c cs g in let bad : false ≡ true = rw e at h in cc

not_both : (cs : List ℕ) (n : ℕ) (kind : TokenKind) → IsLongest cs n kind → ((m : ℕ) → kind_of (take m cs) ≡ None) → ⊥
not_both cs n kind l none = let a : kind_of (take n cs) ≡ Some kind = l.is_token in let b : kind_of (take n cs) ≡ None = none n in cc

same_length : (cs : List ℕ) (n m : ℕ) (x y : TokenKind) → IsLongest cs n x → IsLongest cs m y → n ≡ m
same_length cs n m x y l r = elim (cases_lt n m) [
  | inl lt ↦ absurd (let a : kind_of (take m cs) ≡ Some y = r.is_token in let b : kind_of (take m cs) ≡ None = l.longest m lt r.within in cc)
  | inr le ↦ elim (cases_lt m n) [
    | inl lt ↦ absurd (let a : kind_of (take n cs) ≡ Some x = l.is_token in let b : kind_of (take n cs) ≡ None = r.longest n lt l.within in cc)
    | inr ge ↦ omega arith
  ]
]

same_kind : (cs : List ℕ) (n m : ℕ) (x y : TokenKind) → IsLongest cs n x → IsLongest cs m y → n ≡ m → x ≡ y
same_kind cs n m x y l r e =
    let a : kind_of (take n cs) ≡ Some x = l.is_token in
    let b : kind_of (take n cs) ≡ Some y = subst (λ k. kind_of (take k cs) ≡ Some y) (sym e) r.is_token in cc

pub one_split : {at : ℕ} {cs : List ℕ} {ts us : List Token} → Splits at cs ts → Splits at cs us → ts ≡ us
one_split nothing nothing = refl
one_split nothing (comment h s) = cc
one_split nothing (token l s) = absurd (not_both [] _ _ l (λ m. grind arith))
one_split (blank h s) (blank g r) = one_split s r
one_split (blank {c = c} {cs = cs} h s) (comment g r) = absurd (blank_no_comment c cs h g)
one_split (blank h s) (token l r) = absurd (not_both _ _ _ l (blank_none _ _ h))
one_split (comment h s) nothing = cc
one_split (comment h s) (blank {c = c} {cs = cs} g r) = absurd (blank_no_comment c cs g h)
one_split (comment h s) (comment g r) = one_split s r
one_split (comment h s) (token l r) = absurd (not_both _ _ _ l (comment_none _ h))
one_split (token l s) nothing = absurd (not_both [] _ _ l (λ m. grind arith))
one_split (token l s) (blank g r) = absurd (not_both _ _ _ l (blank_none _ _ g))
one_split (token l s) (comment g r) = absurd (not_both _ _ _ l (comment_none _ g))
one_split {at} {cs} (token {n = n} {ts = ts} {kind = x} l s) (token {n = m} {ts = us} {kind = y} k r) =
    let e : n ≡ m = same_length cs n m x y l k in
    let f : x ≡ y = same_kind cs n m x y l k e in
    let r' : Splits (at + n) (drop n cs) us = subst (λ i. Splits (at + i) (drop i cs) us) (sym e) r in
    let g : ts ≡ us = one_split s r' in
    cc

bad_blank : (c : ℕ) (cs : List ℕ) → IsBad (c ∷ cs) → is_blank c ≡ true → ⊥
bad_blank c cs i h = let e : is_blank c ≡ false = i.no_blank c cs refl in cc

bad_comment : (cs : List ℕ) → IsBad cs → begins_comment cs ≡ true → ⊥
bad_comment cs i h = let e : begins_comment cs ≡ false = i.no_comment in cc

bad_token : (cs : List ℕ) (n : ℕ) (kind : TokenKind) → IsBad cs → IsLongest cs n kind → ⊥
bad_token cs n kind i l = not_both cs n kind l i.no_token

pub no_split_bad : {at bad : ℕ} {cs : List ℕ} {ts : List Token} → Splits at cs ts → BadAt at cs bad → ⊥
no_split_bad nothing (here i) = (let e : 0 < 0 = i.some in omega arith)
no_split_bad nothing (after_comment g r) = cc
no_split_bad nothing (after_token l r) = not_both [] _ _ l (λ m. grind arith)
no_split_bad (blank {c = c} {cs = cs} h s) (here i) = bad_blank c cs i h
no_split_bad (blank h s) (after_blank g r) = no_split_bad s r
no_split_bad (blank {c = c} {cs = cs} h s) (after_comment g r) = blank_no_comment c cs h g
no_split_bad (blank h s) (after_token l r) = not_both _ _ _ l (blank_none _ _ h)
no_split_bad (comment h s) (here i) = bad_comment _ i h
no_split_bad (comment h s) (after_blank {c = c} {cs = cs} g r) = blank_no_comment c cs g h
no_split_bad (comment h s) (after_comment g r) = no_split_bad s r
no_split_bad (comment h s) (after_token l r) = not_both _ _ _ l (comment_none _ h)
no_split_bad (token l s) (here i) = bad_token _ _ _ i l
no_split_bad (token l s) (after_blank g r) = not_both _ _ _ l (blank_none _ _ g)
no_split_bad (token l s) (after_comment g r) = not_both _ _ _ l (comment_none _ g)
no_split_bad {at} {bad} {cs} (token {n = n} {kind = x} l s) (after_token {n = m} {kind = y} k r) =
    let e : n ≡ m = same_length cs n m x y l k in
    no_split_bad s (subst (λ i. BadAt (at + i) (drop i cs) bad) (sym e) r)

pub one_bad : {at bad other : ℕ} {cs : List ℕ} → BadAt at cs bad → BadAt at cs other → bad ≡ other
one_bad (here i) (here j) = refl
one_bad (here i) (after_blank {c = c} {cs = cs} g r) = absurd (bad_blank c cs i g)
one_bad (here i) (after_comment g r) = absurd (bad_comment _ i g)
one_bad (here i) (after_token l r) = absurd (bad_token _ _ _ i l)
one_bad (after_blank {c = c} {cs = cs} h s) (here i) = absurd (bad_blank c cs i h)
one_bad (after_blank h s) (after_blank g r) = one_bad s r
one_bad (after_blank {c = c} {cs = cs} h s) (after_comment g r) = absurd (blank_no_comment c cs h g)
one_bad (after_blank h s) (after_token l r) = absurd (not_both _ _ _ l (blank_none _ _ h))
one_bad (after_comment h s) (here i) = absurd (bad_comment _ i h)
one_bad (after_comment h s) (after_blank {c = c} {cs = cs} g r) = absurd (blank_no_comment c cs g h)
one_bad (after_comment h s) (after_comment g r) = one_bad s r
one_bad (after_comment h s) (after_token l r) = absurd (not_both _ _ _ l (comment_none _ h))
one_bad (after_token l s) (here i) = absurd (bad_token _ _ _ i l)
one_bad (after_token l s) (after_blank g r) = absurd (not_both _ _ _ l (blank_none _ _ g))
one_bad (after_token l s) (after_comment g r) = absurd (not_both _ _ _ l (comment_none _ g))
one_bad {at} {bad} {other} {cs} (after_token {n = n} {kind = x} l s) (after_token {n = m} {kind = y} k r) =
    let e : n ≡ m = same_length cs n m x y l k in
    one_bad s (subst (λ i. BadAt (at + i) (drop i cs) other) (sym e) r)
