-- What an outcome tells of the tokens: what was taken is spelled so, and what was taken before a stop can be completed.
use Rattle.std.proofs.Common.{◌≡◌, ◌∙◌, sym, ap, subst, refl, ℕ, zero, suc, List, [], ◌∷◌, ◌++◌, Bool, true, false, Some, None, Option, append_assoc, append-nil, eq-eqb, arith}
use Rattle.std.specs.Prelude.{◌==◌, if◌then◌else◌}
use Rattle.std.proofs.lemmas.Bool.Decides.{nat_tests}
use Rattle.heco_lex.specs.declared.token.TokenKind.{TokenKind}
use Rattle.heco_lex.specs.declared.token.TokenKind.TheVariants as k
use Rattle.heco_syntax.specs.declared.lexeme.Lexeme.{Lexeme}
use Rattle.heco_expressions.specs.Reading.{Outcome, found, syntax, nested, Parser, and_then, gives, take_one, same_kind, kind_number, parts_from, parts_by, behind}

pub data Verdict {A : Type 0} (Is : ℕ → List Lexeme → A → Type 0) (n : ℕ) (ts : List Lexeme) : Outcome A → Type 0 where
  was_found : (pre rest : List Lexeme) (x : A) → ts ≡ pre ++ rest → Is n pre x → Verdict Is n ts (found x rest)
  was_syntax : (pre rest more : List Lexeme) (x : A) → ts ≡ pre ++ rest → Is n (pre ++ more) x → Verdict Is n ts (syntax rest)
  was_nested : (pre : List Lexeme) (t : Lexeme) (rest more others : List Lexeme) (x y : A) → ts ≡ pre ++ t ∷ rest → Is n (pre ++ more) x → Is (suc n) (pre ++ t ∷ others) y
      → Verdict Is n ts (nested (t ∷ rest))

-- some tokens spell something
abbrev pub Filled : {A : Type 0} → (ℕ → List Lexeme → A → Type 0) → ℕ → Type 0
Filled {A} Is n = (us : List Lexeme) × (y : A) × Is n us y

module _ {A B : Type 0} (IsA : ℕ → List Lexeme → A → Type 0) (IsB : A → ℕ → List Lexeme → B → Type 0) (IsC : ℕ → List Lexeme → B → Type 0)
    (join : (n : ℕ) (pre us : List Lexeme) (x : A) (y : B) → IsA n pre x → IsB x n us y → IsC n (pre ++ us) y)
    (fill : (n : ℕ) (x : A) → Filled (IsB x) n)
    (weak : (n : ℕ) (pre : List Lexeme) (x : A) → IsA n pre x → IsA (suc n) pre x) where
  joined : (ts pre mid pre2 rest : List Lexeme) → ts ≡ pre ++ mid → mid ≡ pre2 ++ rest → ts ≡ (pre ++ pre2) ++ rest
  joined ts pre mid pre2 rest e f = e ∙ ap (λ v. pre ++ v) f ∙ sym (append_assoc pre pre2 rest)

  after : (n : ℕ) (ts pre mid : List Lexeme) (x : A) (o : Outcome B) → ts ≡ pre ++ mid → IsA n pre x → Verdict (IsB x) n mid o → Verdict IsC n ts o
  after n ts pre mid x o e i (was_found pre2 rest y f j) = was_found (pre ++ pre2) rest y (joined ts pre mid pre2 rest e f) (join n pre pre2 x y i j)
  after n ts pre mid x o e i (was_syntax pre2 rest more y f j) =
      was_syntax (pre ++ pre2) rest more y (joined ts pre mid pre2 rest e f) (subst (λ v. IsC n v y) (sym (append_assoc pre pre2 more)) (join n pre (pre2 ++ more) x y i j))
  after n ts pre mid x o e i (was_nested pre2 t rest more others y z f j w) =
      was_nested (pre ++ pre2) t rest more others y z (joined ts pre mid pre2 (t ∷ rest) e f) (subst (λ v. IsC n v y) (sym (append_assoc pre pre2 more)) (join n pre (pre2 ++ more) x y i j))
      (subst (λ v. IsC (suc n) v z) (sym (append_assoc pre pre2 (t ∷ others))) (join (suc n) pre (pre2 ++ t ∷ others) x z (weak n pre x i) w))

  pub then_verdict : (n : ℕ) (ts : List Lexeme) (o : Outcome A) (f : A → Parser B) → Verdict IsA n ts o → ((x : A) (mid : List Lexeme) → Verdict (IsB x) n mid (f x mid)) → Verdict IsC n ts (and_then o f)
  then_verdict n ts o f (was_found pre rest x e i) g = after n ts pre rest x (f x rest) e i (g x rest)
  then_verdict n ts o f (was_syntax pre rest more x e i) g =
      let b = fill n x in
      was_syntax pre rest (more ++ b.0) b.1 e (subst (λ v. IsC n v b.1) (append_assoc pre more b.0) (join n (pre ++ more) b.0 x b.1 i b.2))
  then_verdict n ts o f (was_nested pre t rest more others x y e i j) g =
      let b = fill n x in
      let d = fill (suc n) y in
      was_nested pre t rest (more ++ b.0) (others ++ d.0) b.1 d.1 e (subst (λ v. IsC n v b.1) (append_assoc pre more b.0) (join n (pre ++ more) b.0 x b.1 i b.2))
      (subst (λ v. IsC (suc n) v d.1) (append_assoc pre (t ∷ others) d.0) (join (suc n) (pre ++ t ∷ others) d.0 y d.1 j d.2))

module _ {A : Type 0} (IsA IsC : ℕ → List Lexeme → A → Type 0) where
  pub same_verdict : ((n : ℕ) (us : List Lexeme) (x : A) → IsA n us x → IsC n us x) → (n : ℕ) (ts : List Lexeme) (o : Outcome A) → Verdict IsA n ts o → Verdict IsC n ts o
  same_verdict h n ts o (was_found pre rest x e i) = was_found pre rest x e (h n pre x i)
  same_verdict h n ts o (was_syntax pre rest more x e i) = was_syntax pre rest more x e (h n (pre ++ more) x i)
  same_verdict h n ts o (was_nested pre t rest more others x y e i j) = was_nested pre t rest more others x y e (h n (pre ++ more) x i) (h (suc n) (pre ++ t ∷ others) y j)

  pub deeper_verdict : ((n : ℕ) (us : List Lexeme) (x : A) → IsA n us x → IsC (suc n) us x) → (n : ℕ) (ts : List Lexeme) (o : Outcome A) → Verdict IsA n ts o → Verdict IsC (suc n) ts o
  deeper_verdict h n ts o (was_found pre rest x e i) = was_found pre rest x e (h n pre x i)
  deeper_verdict h n ts o (was_syntax pre rest more x e i) = was_syntax pre rest more x e (h n (pre ++ more) x i)
  deeper_verdict h n ts o (was_nested pre t rest more others x y e i j) = was_nested pre t rest more others x y e (h n (pre ++ more) x i) (h (suc n) (pre ++ t ∷ others) y j)

  pub front_verdict : (c : Lexeme) → ((n : ℕ) (us : List Lexeme) (x : A) → IsA n us x → IsC n (c ∷ us) x) → (n : ℕ) (ts : List Lexeme) (o : Outcome A) → Verdict IsA n ts o → Verdict IsC n (c ∷ ts) o
  front_verdict c h n ts o (was_found pre rest x e i) = was_found (c ∷ pre) rest x (ap (λ v. c ∷ v) e) (h n pre x i)
  front_verdict c h n ts o (was_syntax pre rest more x e i) = was_syntax (c ∷ pre) rest more x (ap (λ v. c ∷ v) e) (h n (pre ++ more) x i)
  front_verdict c h n ts o (was_nested pre t rest more others x y e i j) =
      was_nested (c ∷ pre) t rest more others x y (ap (λ v. c ∷ v) e) (h n (pre ++ more) x i) (h (suc n) (pre ++ t ∷ others) y j)

-- a token of the kind
abbrev pub plain : TokenKind → Lexeme
plain is = record { kind = is; text = []; value = 0; at = record { line = 1; col = 1 } }

of_number : ℕ → TokenKind
of_number n = if n == 0 then k.Word
    else if n == 1 then k.Number
    else if n == 2 then k.Params
    else if n == 3 then k.Fn
    else if n == 4 then k.In
    else if n == 5 then k.Out
    else if n == 6 then k.Int
    else if n == 7 then k.Secret
    else if n == 8 then k.For
    else if n == 9 then k.Def
    else if n == 10 then k.If
    else if n == 11 then k.Else
    else if n == 12 then k.Open
    else if n == 13 then k.Close
    else if n == 14 then k.OpenBrace
    else if n == 15 then k.CloseBrace
    else if n == 16 then k.OpenBracket
    else if n == 17 then k.CloseBracket
    else if n == 18 then k.Comma
    else if n == 19 then k.Semi
    else if n == 20 then k.Range
    else if n == 21 then k.Assign
    else if n == 22 then k.AddAssign
    else if n == 23 then k.SubAssign
    else if n == 24 then k.MulAssign
    else if n == 25 then k.Plus
    else if n == 26 then k.Minus else k.Star

kind_back : (a : TokenKind) → of_number (kind_number a) ≡ a
unfolding of_number
kind_back k.Word = refl
kind_back k.Number = refl
kind_back k.Params = refl
kind_back k.Fn = refl
kind_back k.In = refl
kind_back k.Out = refl
kind_back k.Int = refl
kind_back k.Secret = refl
kind_back k.For = refl
kind_back k.Def = refl
kind_back k.If = refl
kind_back k.Else = refl
kind_back k.Open = refl
kind_back k.Close = refl
kind_back k.OpenBrace = refl
kind_back k.CloseBrace = refl
kind_back k.OpenBracket = refl
kind_back k.CloseBracket = refl
kind_back k.Comma = refl
kind_back k.Semi = refl
kind_back k.Range = refl
kind_back k.Assign = refl
kind_back k.AddAssign = refl
kind_back k.SubAssign = refl
kind_back k.MulAssign = refl
kind_back k.Plus = refl
kind_back k.Minus = refl
kind_back k.Star = refl

number_same : (a b : ℕ) → (a == b) ≡ true → a ≡ b
number_same a b h = grind (arith, nat_tests)

pub kinds_same : (a b : TokenKind) → same_kind a b ≡ true → a ≡ b
kinds_same a b h = sym (kind_back a) ∙ ap of_number (number_same (kind_number a) (kind_number b) h) ∙ kind_back b

pub same_self : (a : TokenKind) → same_kind a a ≡ true
same_self a = eq-eqb (kind_number a) (kind_number a) refl

-- one token of the kind, and what is kept of it
pub record IsOne {A : Type 0} (f : Lexeme → A) (kind : TokenKind) (n : ℕ) (ts : List Lexeme) (x : A) : Type 0 where
  pub t : Lexeme
  pub all : ts ≡ t ∷ []
  pub is : t.kind ≡ kind
  pub kept : x ≡ f t

pub one_verdict : {A : Type 0} (f : Lexeme → A) (kind : TokenKind) (n : ℕ) (ts : List Lexeme) → Verdict (IsOne f kind) n ts (take_one f kind ts)
one_verdict f kind n [] = was_syntax [] [] (plain kind ∷ []) (f (plain kind)) refl (record { t = plain kind; all = refl; is = refl; kept = refl })
one_verdict f kind n (c ∷ ts) = by (same_kind c.kind kind) refl
  where
    by : (b : Bool) → same_kind c.kind kind ≡ b → Verdict (IsOne f kind) n (c ∷ ts) (if b then found (f c) ts else syntax (c ∷ ts))
    by true e = was_found (c ∷ []) ts (f c) refl (record { t = c; all = refl; is = kinds_same c.kind kind e; kept = refl })
    by false e = was_syntax [] (c ∷ ts) (plain kind ∷ []) (f (plain kind)) refl (record { t = plain kind; all = refl; is = refl; kept = refl })

pub weak_one : {A : Type 0} (f : Lexeme → A) (kind : TokenKind) (n : ℕ) (ts : List Lexeme) (x : A) → IsOne f kind n ts x → IsOne f kind (suc n) ts x
weak_one f kind n ts x i = record { t = i.t; all = i.all; is = i.is; kept = i.kept }

-- nothing more, and the value by a function
pub record IsEnd {B : Type 0} (y : B) (n : ℕ) (ts : List Lexeme) (z : B) : Type 0 where
  pub all : ts ≡ []
  pub is : z ≡ y

pub end_verdict : {A B : Type 0} (f : A → B) (n : ℕ) (x : A) (ts : List Lexeme) → Verdict (IsEnd (f x)) n ts (gives f x ts)
end_verdict f n x ts = was_found [] ts (f x) refl (record { all = refl; is = refl })

module _ {S P A : Type 0} (sign : Lexeme → Option S) (make : S → A → P) (item : Parser A) (IsItem : ℕ → List Lexeme → A → Type 0) (Are : ℕ → List Lexeme → List P → Type 0)
    (weak : (n : ℕ) (pre : List Lexeme) (x : A) → IsItem n pre x → IsItem (suc n) pre x)
    (none : (n : ℕ) → Are n [] [])
    (more : (n : ℕ) (t : Lexeme) (s : S) (ts us : List Lexeme) (x : A) (ps : List P) → sign t ≡ Some s → IsItem n ts x → Are n us ps → Are n (t ∷ (ts ++ us)) (make s x ∷ ps)) where
  pub record Behind (before : List P) (n : ℕ) (us : List Lexeme) (all : List P) : Type 0 where
    pub ps : List P
    pub is : all ≡ before ++ ps
    pub are : Are n us ps

  nothing : (n : ℕ) (before : List P) (ts : List Lexeme) → Verdict (Behind before) n ts (found before ts)
  nothing n before ts = was_found [] ts before refl (record { ps = []; is = sym (append-nil before); are = none n })

  pub parts_verdict : (n : ℕ) → ((ts : List Lexeme) → Verdict IsItem n ts (item ts)) → (turns : ℕ) (before : List P) (ts : List Lexeme) → Verdict (Behind before) n ts (parts_from sign make item turns before ts)
  unfolding parts_from
  parts_verdict n each zero before ts = nothing n before ts
  parts_verdict n each (suc turns) before [] = nothing n before []
  parts_verdict n each (suc turns) before (t ∷ ts) = by (parts_verdict n each turns) (sign t) refl
    where
      by : ((before : List P) (ts : List Lexeme) → Verdict (Behind before) n ts (parts_from sign make item turns before ts)) → (o : Option S) → sign t ≡ o
          → Verdict (Behind before) n (t ∷ ts) (parts_by sign make item (parts_from sign make item turns) before (t ∷ ts) (behind ts o))
      by next None e = nothing n before (t ∷ ts)
      by next (Some s) e = front_verdict (λ m us all. Behind before m (t ∷ us) all) (Behind before) t (λ m us all i. i) n ts (and_then (item ts) (λ x. parts_from sign make item turns (before ++ make s x ∷ [])))
          (then_verdict IsItem (λ x. Behind (before ++ make s x ∷ [])) (λ m us all. Behind before m (t ∷ us) all)
          (λ m pre us x all i b. record { ps = make s x ∷ b.ps; is = b.is ∙ append_assoc before (make s x ∷ []) b.ps; are = more m t s pre us x b.ps e i b.are })
          (λ m x. ([], before ++ make s x ∷ [], record { ps = []; is = sym (append-nil (before ++ make s x ∷ [])); are = none m }))
          weak n ts (item ts) (λ x. parts_from sign make item turns (before ++ make s x ∷ [])) (each ts) (λ x mid. next (before ++ make s x ∷ []) mid))
