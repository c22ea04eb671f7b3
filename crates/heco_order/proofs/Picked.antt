-- What a tree keeps is picked from its tokens, in their order.
use Rattle.std.proofs.Common.{◌≡◌, ◌∙◌, sym, ap, subst, refl, ℕ, List, [], ◌∷◌, ◌++◌, Some, None, Option, append_assoc, append-nil, ◌⊎◌, inl, inr}
use Rattle.std.specs.List.{flat_map}
use Rattle.heco_lex.specs.declared.token.TokenKind.{TokenKind}
use Rattle.heco_lex.specs.declared.token.TokenKind.TheVariants as k
use Rattle.heco_syntax.specs.Kept.{Kept, kept_ident, kept_num}
use Rattle.heco_syntax.specs.Parts.{ident_of, num_of}
use Rattle.heco_syntax.specs.Productions.{Spells, IsOne, IsKnown, IsNothing, Then, Many, none, more}
use Rattle.heco_syntax.specs.declared.lexeme.Lexeme.{Lexeme}

-- the place of the token, and of a word its text
pub record Keeps (t : Lexeme) (x : Kept) : Type 0 where
  pub at : x.at ≡ t.at
  pub name : (text : List ℕ) → x.name ≡ Some text → (t.kind ≡ k.Word) × (t.text ≡ text)

pub data Picks : List Lexeme → List Kept → Type 0 where
  ended : Picks [] []
  skip : {t : Lexeme} {ts : List Lexeme} {xs : List Kept} → Picks ts xs → Picks (t ∷ ts) xs
  pick : {t : Lexeme} {x : Kept} {ts : List Lexeme} {xs : List Kept} → Keeps t x → Picks ts xs → Picks (t ∷ ts) (x ∷ xs)

pub behind : {ts us : List Lexeme} {xs ys : List Kept} → Picks ts xs → Picks us ys → Picks (ts ++ us) (xs ++ ys)
behind ended q = q
behind (skip p) q = skip (behind p q)
behind (pick h p) q = pick h (behind p q)

pub place_kept : (t : Lexeme) → Keeps t (record { name = None; at = t.at })
place_kept t = record { at = refl; name = λ text e. cc }

pub word_kept : (t : Lexeme) → t.kind ≡ k.Word → Keeps t (record { name = Some t.text; at = t.at })
word_kept t h = record { at = refl; name = λ text e. (h, cc) }

pub passed : {ts : List Lexeme} {xs : List Kept} (t : Lexeme) → Picks ts xs → Picks (ts ++ t ∷ []) xs
passed {ts} {xs} t p = subst (λ v. Picks (ts ++ t ∷ []) v) (append-nil xs) (behind p (skip {t = t} ended))

-- behind tokens from which the list is picked, tokens of the relation leave what the function says
pub record Carries {A : Type 0} (xs : List Kept) (Is : Spells A) (f : A → List Kept) : Type 0 where
  pub carries : (pre ts : List Lexeme) (x : A) → Picks pre xs → Is ts x → Picks (pre ++ ts) (f x)

-- what is kept of the tokens themselves
abbrev pub Leaves : {A : Type 0} → Spells A → (A → List Kept) → Type 0
Leaves Is f = Carries [] Is f

pub leaves : {A : Type 0} {Is : Spells A} {f : A → List Kept} → ((ts : List Lexeme) (x : A) → Is ts x → Picks ts (f x)) → Leaves Is f
leaves {f = f} h = record { carries = λ pre ts x p i. behind p (h ts x i) }

pub picked : {A : Type 0} {Is : Spells A} {f : A → List Kept} → Leaves Is f → (ts : List Lexeme) (x : A) → Is ts x → Picks ts (f x)
picked l ts x i = l.carries [] ts x ended i

pub adds : {A : Type 0} {Is : Spells A} {f : A → List Kept} (xs : List Kept) → Leaves Is f → Carries xs Is (λ x. xs ++ f x)
adds xs l = record { carries = λ pre ts x p i. behind p (picked l ts x i) }

pub then_carries : {A B : Type 0} {xs : List Kept} {P : Spells A} {Q : A → Spells B} {f : A → List Kept} {g : B → List Kept} → Carries xs P f → ((x : A) → Carries (f x) (Q x) g) → Carries xs (Then P Q) g
then_carries {g = g} p q = record {
  carries = λ pre ts y h i. subst (λ v. Picks v (g y)) (append_assoc pre i.front i.back ∙ ap (λ v. pre ++ v) (sym i.all)) ((q i.x).carries (pre ++ i.front) i.back y (p.carries pre i.front i.x h i.first) i.second);
}

pub or_carries : {A : Type 0} {xs : List Kept} {P Q : Spells A} {f : A → List Kept} → Carries xs P f → Carries xs Q f → Carries xs (λ ts x. P ts x ⊎ Q ts x) f
or_carries {xs = xs} {P = P} {Q = Q} {f = f} p q = record { carries = λ pre ts x h i. by pre ts x h i }
  where
    by : (pre ts : List Lexeme) (x : _) → Picks pre xs → P ts x ⊎ Q ts x → Picks (pre ++ ts) (f x)
    by pre ts x h (inl i) = p.carries pre ts x h i
    by pre ts x h (inr i) = q.carries pre ts x h i

pub yields_carries : {A : Type 0} {xs : List Kept} {f : A → List Kept} (x : A) → xs ≡ f x → Carries xs (IsNothing x) f
yields_carries {xs = xs} {f = f} x e = record {
  carries = λ pre ts y h i. subst (λ v. Picks v (f y)) (sym (ap (λ v. pre ++ v) i.all ∙ append-nil pre)) (subst (λ v. Picks pre v) (e ∙ ap f (sym i.is)) h);
}

-- a token of which nothing is kept
pub one_passed : {A : Type 0} {xs : List Kept} (kept : Lexeme → A) (kind : TokenKind) → Carries xs (IsOne kept kind) (λ x. xs)
one_passed {xs = xs} kept kind = record { carries = λ pre ts x h i. subst (λ v. Picks (pre ++ v) xs) (sym i.all) (passed i.t h) }

pub known_passed : {A : Type 0} {xs : List Kept} (known : Lexeme → Option A) → Carries xs (IsKnown known) (λ x. xs)
known_passed {xs = xs} known = record { carries = λ pre ts x h i. subst (λ v. Picks (pre ++ v) xs) (sym i.all) (passed i.t h) }

pub known_leaves : {A : Type 0} (known : Lexeme → Option A) (f : A → List Kept) → ((t : Lexeme) (x : A) → known t ≡ Some x → Picks (t ∷ []) (f x)) → Leaves (IsKnown known) f
known_leaves known f h = leaves (λ ts x i. subst (λ v. Picks v (f x)) (sym i.all) (h i.t x i.is))

pub word_leaves : Leaves (IsOne ident_of k.Word) kept_ident
word_leaves = leaves (λ ts x i. subst (λ v. Picks v (kept_ident x)) (sym i.all) (subst (λ v. Picks (i.t ∷ []) (kept_ident v)) (sym i.keeps) (pick (word_kept i.t i.is) ended)))

pub number_leaves : Leaves (IsOne num_of k.Number) kept_num
number_leaves = leaves (λ ts x i. subst (λ v. Picks v (kept_num x)) (sym i.all) (subst (λ v. Picks (i.t ∷ []) (kept_num v)) (sym i.keeps) (pick (place_kept i.t) ended)))

many_picked : {A : Type 0} {Is : Spells A} {f : A → List Kept} → Leaves Is f → {ts : List Lexeme} {xs : List A} → Many Is ts xs → Picks ts (flat_map f xs)
many_picked l none = ended
many_picked l (more {ts = ts} {x = x} i m) = behind (picked l ts x i) (many_picked l m)

pub many_leaves : {A : Type 0} {Is : Spells A} {f : A → List Kept} → Leaves Is f → Leaves (Many Is) (flat_map f)
many_leaves l = leaves (λ ts xs m. many_picked l m)
