-- A whole file, from the law of its format.
use Rattle.std.proofs.Common.{◌≡◌, ℕ, ◌+◌, ◌-◌, ◌≤◌, Bool, true, false, cond, eqb, List, [], ◌++◌, length, take, drop, Ok, Err, refl, sym, ap, ◌∙◌, arith}
use Rattle.std.proofs.lemmas.Bool.{eqb-true}
use Rattle.std.proofs.lemmas.List.{append-nil, nil_from_length, length-drop, take-append-drop}
use Rattle.heco_fields.specs.Formats.{Format}
use Rattle.heco_fields.specs.Readings.{Reading, reading, judged}
use Rattle.heco_fields.proofs.Laws.{IsBytes, Law, done, ok_is}

pub drop_all : (n : ℕ) (xs : List ℕ) → length xs ≤ n → drop n xs ≡ []
drop_all n xs le = nil_from_length (drop n xs) (omega (arith, length-drop n xs))

pub take_all : (n : ℕ) (xs : List ℕ) → length xs ≤ n → take n xs ≡ xs
take_all n xs le = sym (append-nil (take n xs)) ∙ ap (λ r. take n xs ++ r) (sym (drop_all n xs le)) ∙ take-append-drop n xs

ends_well : {A : Type 0} (b : Bool) (x y : A) (at : ℕ) → cond b (Ok x) (Err at) ≡ Ok y → (b ≡ true) × (x ≡ y)
ends_well true x y at e = (refl, ok_is x y e)
ends_well false x y at e = absurd cc

pair : {A : Type 0} (a : A) (r : List ℕ) (x : A) → a ≡ x → r ≡ [] → ◌≡◌ {A = A × List ℕ} (a, r) (x, [])
pair a r x e f = cc

-- a judgement of Ok tells what was read
pub read_whole : {A : Type 0} (bytes beyond : List ℕ) (read : Reading A) (x : A) → judged bytes beyond read ≡ Ok x → (read ≡ Ok (x, [])) × (beyond ≡ [])
read_whole bytes beyond (Ok y) x e =
    let w = ends_well (eqb (length y.1 + length beyond) 0) y.0 x (length bytes - length y.1) e in
    let none : length y.1 + length beyond ≡ 0 = eqb-true _ _ w.0 in
    let rest : y.1 ≡ [] = nil_from_length y.1 (omega arith) in
    (ap done (pair y.0 y.1 x w.1 rest), nil_from_length beyond (omega arith))
read_whole bytes beyond (Err left) x e = absurd cc

-- a file that is read has the text of its value, which fits
pub judged_text : {A : Type 0} (f : Format A) (spell : A → List ℕ) (Fits : A → Type 0) → Law f spell Fits → (bytes beyond : List ℕ) (x : A) → IsBytes bytes → judged bytes beyond (reading f bytes) ≡ Ok x → (bytes ≡ spell x) × (beyond ≡ []) × Fits x
judged_text f spell Fits law bytes beyond x fits e =
    let w = read_whole bytes beyond (reading f bytes) x e in
    let t = law.takes bytes x [] fits w.0 in
    (t.0.parts ∙ append-nil (spell x), w.1, t.1)

-- the text of a value that fits is read as that value
pub text_judged : {A : Type 0} (f : Format A) (spell : A → List ℕ) (Fits : A → Type 0) → Law f spell Fits → (x : A) → Fits x → judged (spell x) [] (reading f (spell x)) ≡ Ok x
text_judged f spell Fits law x fits =
    let read : reading f (spell x) ≡ Ok (x, []) = ap (reading f) (sym (append-nil (spell x))) ∙ law.again x [] fits in
    rw read refl
