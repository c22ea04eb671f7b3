-- What a reader's answer says, from the law of its format and the length of its texts.
use Rattle.std.proofs.Common.{◌≡◌, ◌≢◌, ℕ, Bool, true, false, cond, eqb, List, [], length, Result, Ok, Err, refl, sym, ap, subst, ◌∙◌, min}
use Rattle.std.specs.Prelude.{IfOk, IfErr}
use Rattle.std.proofs.lemmas.Bool.{eqb-true, eqb-false, eq-eqb, ne_eqb}
use Rattle.heco_fields.specs.Formats.{Format, BreaksAt}
use Rattle.heco_fields.specs.Readings.{reading, judged}
use Rattle.heco_fields.proofs.FirstBroken.{judged_breaks, breaks_judged}
use Rattle.heco_fields.proofs.Laws.{IsBytes, Law}
use Rattle.heco_fields.proofs.FileLaws.{judged_text, text_judged}
use Rattle.heco_material.specs.declared.error.MatErr.{MatErr}
use Rattle.heco_material.specs.declared.error.MatErr.TheVariants.{Length, Bounds, Memory}
use Rattle.heco_material.specs.MaterialFile.{bounded, read_as, Answers, HasCause}

abbrev value : {A : Type 0} → A → Result A MatErr
value x = Ok x

abbrev refusal : {A : Type 0} → MatErr → Result A MatErr
refusal e = Err e

value_is : {A : Type 0} (x y : A) → value x ≡ value y → x ≡ y
value_is x y e = cc

refusal_is : {A : Type 0} (d e : MatErr) → refusal {A = A} d ≡ refusal e → d ≡ e
refusal_is d e h = cc

-- ---- of Ok

bounded_ok : {A : Type 0} (j : Result A ℕ) (x : A) → bounded j ≡ Ok x → j ≡ Ok x
bounded_ok (Ok y) x e = ap (λ z. Ok z) (value_is y x e)
bounded_ok (Err at) x e = absurd cc

chosen_ok : {A : Type 0} (b : Bool) (j : Result A ℕ) (l : ℕ) (x : A) → cond b (bounded j) (Err (Length l)) ≡ Ok x → (b ≡ true) × (j ≡ Ok x)
chosen_ok true j l x e = (refl, bounded_ok j x e)
chosen_ok false j l x e = absurd cc

-- a value that is read has its text in the file, and fits
pub read_text : {A : Type 0} (f : Format A) (stated : ℕ) (spell : A → List ℕ) (Fits : A → Type 0) → Law f spell Fits → (bytes : List ℕ) (x : A) → IsBytes bytes → read_as f stated bytes ≡ Ok x → Fits x × (bytes ≡ spell x)
unfolding read_as
read_text f stated spell Fits law bytes x fits e =
    let c = chosen_ok (eqb (length bytes) stated) (judged bytes [] (reading f bytes)) (min (length bytes) stated) x e in
    let t = judged_text f spell Fits law bytes [] x fits c.1 in
    (t.2, t.0)

pub spelled : {X A : Type 0} (view : X → A) (f : Format A) (stated : ℕ) (spell : A → List ℕ) (Fits : A → Type 0) → Law f spell Fits → (bytes : List ℕ) (r : Result X MatErr) → IsBytes bytes → Answers view r (read_as f stated bytes) → IfOk r (λ x. Fits (view x) × (bytes ≡ spell (view x)))
spelled view f stated spell Fits law bytes (Ok x) fits a = read_text f stated spell Fits law bytes (view x) fits a
spelled view f stated spell Fits law bytes (Err e) fits a = tt

-- the text of a value that fits is read as that value
pub text_read : {A : Type 0} (f : Format A) (stated : ℕ) (spell : A → List ℕ) (Fits : A → Type 0) → Law f spell Fits → (x : A) → Fits x → length (spell x) ≡ stated → read_as f stated (spell x) ≡ Ok x
unfolding read_as
text_read f stated spell Fits law x fits len =
    let same = eq-eqb (length (spell x)) stated len in
    let whole = text_judged f spell Fits law x fits in
    rw (same, whole) refl

pub answers : {X A : Type 0} (view : X → A) (r : Result X MatErr) (a b : Result A MatErr) → Answers view r a → a ≡ b → Answers view r b
answers view r a b h e = subst (Answers view r) e h

pub only : {X A : Type 0} (view : X → A) (f : Format A) (stated : ℕ) (spell : A → List ℕ) (Fits : A → Type 0) → Law f spell Fits → ((x : A) → Fits x → length (spell x) ≡ stated)
    → (bytes : List ℕ) (r : Result X MatErr) → Answers view r (read_as f stated bytes) → (x : A) → Fits x → bytes ≡ spell x → Answers view r (Ok x)
only view f stated spell Fits law long bytes r a x fits text =
    answers view r (read_as f stated bytes) (Ok x) a (ap (read_as f stated) text ∙ text_read f stated spell Fits law x fits (long x fits))

-- ---- of Err

bounded_err : {A : Type 0} (f : Format A) (stated : ℕ) (bytes : List ℕ) (j : Result A ℕ) (e : MatErr) → judged bytes [] (reading f bytes) ≡ j → length bytes ≡ stated → bounded j ≡ Err e → HasCause f stated bytes e
bounded_err f stated bytes (Ok x) e is len h = absurd cc
bounded_err {A = A} f stated bytes (Err at) e is len h = subst (HasCause f stated bytes) (refusal_is {A = A} (Bounds at) e h) (len, judged_breaks f bytes [] at is)

chosen_err : {A : Type 0} (f : Format A) (stated : ℕ) (bytes : List ℕ) (b : Bool) (e : MatErr) → eqb (length bytes) stated ≡ b → cond b (bounded (judged bytes [] (reading f bytes))) (Err (Length (min (length bytes) stated))) ≡ Err e → HasCause f stated bytes e
chosen_err f stated bytes true e is h = bounded_err f stated bytes (judged bytes [] (reading f bytes)) e refl (eqb-true _ _ is) h
chosen_err {A = A} f stated bytes false e is h = subst (HasCause f stated bytes) (refusal_is {A = A} (Length (min (length bytes) stated)) e h) (eqb-false _ _ is, refl)

pub caused : {X A : Type 0} (view : X → A) (f : Format A) (stated : ℕ) (bytes : List ℕ) (r : Result X MatErr) → Answers view r (read_as f stated bytes) → IfErr r (HasCause f stated bytes)
unfolding read_as
caused view f stated bytes (Ok x) a = tt
caused view f stated bytes (Err Memory) a = tt
caused view f stated bytes (Err (Length at)) a = chosen_err f stated bytes (eqb (length bytes) stated) (Length at) refl a
caused view f stated bytes (Err (Bounds at)) a = chosen_err f stated bytes (eqb (length bytes) stated) (Bounds at) refl a

-- another length is refused as such
pub long : {X A : Type 0} (view : X → A) (f : Format A) (stated : ℕ) (bytes : List ℕ) (r : Result X MatErr) → Answers view r (read_as f stated bytes) → length bytes ≢ stated → Answers view r (Err (Length (min (length bytes) stated)))
unfolding read_as
long view f stated bytes r a other =
    let no = ne_eqb (length bytes) stated other in
    answers view r (read_as f stated bytes) (Err (Length (min (length bytes) stated))) a (rw no refl)

-- a word out of bounds is refused by its place
pub broken : {X A : Type 0} (view : X → A) (f : Format A) (stated : ℕ) (bytes : List ℕ) (r : Result X MatErr) → Answers view r (read_as f stated bytes) → (at : ℕ) → length bytes ≡ stated → BreaksAt f bytes [] at → Answers view r (Err (Bounds at))
unfolding read_as
broken view f stated bytes r a at len breaks =
    let same = eq-eqb (length bytes) stated len in
    let bad = breaks_judged f bytes [] at breaks in
    answers view r (read_as f stated bytes) (Err (Bounds at)) a (rw (same, bad) refl)

-- ---- of a writer

pub read_back : {E A : Type 0} (f : Format A) (stated : ℕ) (spell : A → List ℕ) (Fits : A → Type 0) → Law f spell Fits → ((x : A) → Fits x → length (spell x) ≡ stated)
    → (x : A) (r : Result (List ℕ) E) → IfOk r (λ bytes. bytes ≡ spell x) → Fits x → IfOk r (λ bytes. read_as f stated bytes ≡ Ok x)
read_back f stated spell Fits law long x (Ok bytes) text fits = ap (read_as f stated) text ∙ text_read f stated spell Fits law x fits (long x fits)
read_back f stated spell Fits law long x (Err e) text fits = tt

-- two values that share a text are one
pub one_value : {A : Type 0} (f : Format A) (spell : A → List ℕ) (Fits : A → Type 0) → Law f spell Fits → (x y : A) → Fits x → Fits y → spell x ≡ spell y → x ≡ y
one_value f spell Fits law x y p q same =
    let a = text_judged f spell Fits law x p in
    let b = text_judged f spell Fits law y q in
    same_value x y (sym a ∙ ap (λ t. judged t [] (reading f t)) same ∙ b)
  where
    same_value : {A : Type 0} (x y : A) → ◌≡◌ {A = Result A ℕ} (Ok x) (Ok y) → x ≡ y
    same_value x y e = cc

pub own_text : {E A : Type 0} (f : Format A) (spell : A → List ℕ) (Fits : A → Type 0) → Law f spell Fits → (x : A) (r : Result (List ℕ) E) → IfOk r (λ bytes. bytes ≡ spell x) → (y : A) → Fits x → Fits y → IfOk r (λ bytes. bytes ≡ spell y → x ≡ y)
own_text f spell Fits law x (Ok bytes) text y p q = λ other. one_value f spell Fits law x y p q (sym text ∙ other)
own_text f spell Fits law x (Err e) text y p q = tt
