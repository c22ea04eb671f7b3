-- What is read is what was spelled, and what is spelled is read, part by part of a format.
use Rattle.std.proofs.Common.{◌≡◌, ℕ, ◌+◌, ◌<◌, List, [], ◌++◌, get_or, take, drop, Result, Ok, Err, refl, sym, ap, subst, ◌∙◌, append_assoc, arith, inl, inr}
use Rattle.std.proofs.lemmas.Bool.{cases_lt}
use Rattle.std.proofs.lemmas.List.{append-nil, length-take, get_or-drop, get_or-take, get_or_past}
use Rattle.heco_fields.specs.Formats.{Format, Value, ◌>>=◌ as ◌then◌}
use Rattle.heco_fields.specs.Readings.{reading, ◌>>=◌}
use Rattle.heco_fields.proofs.Steps.{reading_then}

abbrev pub IsBytes : List ℕ → Type 0
IsBytes bytes = (i : ℕ) → get_or bytes i 0 < 256

pub IsBytes-drop : (n : ℕ) (bytes : List ℕ) → IsBytes bytes → IsBytes (drop n bytes)
IsBytes-drop n bytes h i = rw get_or-drop (h (n + i))

pub IsBytes-take : (n : ℕ) (bytes : List ℕ) → IsBytes bytes → IsBytes (take n bytes)
IsBytes-take n bytes h i =
    elim (cases_lt i n) [
      | inl lt ↦ rw (get_or-take n bytes i 0 lt) (h i)
      | inr le ↦ rw (get_or_past (take n bytes) i 0 (omega (arith, length-take n bytes))) (omega arith)
    ]

-- what was taken from the front
pub record Takes (bytes text rest : List ℕ) : Type 0 where
  pub parts : bytes ≡ text ++ rest
  pub rest_fits : IsBytes rest

pub Takes-then : (a x b y c : List ℕ) → Takes a x b → Takes b y c → Takes a (x ++ y) c
Takes-then a x b y c p q = record { parts = p.parts ∙ ap (λ (t : List ℕ). x ++ t) q.parts ∙ sym (append_assoc x y c); rest_fits = q.rest_fits }

-- The format reads what spell gives, for exactly the values that fit.
pub record Law {A : Type 0} (format : Format A) (spell : A → List ℕ) (Fits : A → Type 0) : Type 0 where
  pub takes : (bytes : List ℕ) (x : A) (rest : List ℕ) → IsBytes bytes → reading format bytes ≡ Ok (x, rest) → Takes bytes (spell x) rest × Fits x
  pub again : (x : A) (rest : List ℕ) → Fits x → reading format (spell x ++ rest) ≡ Ok (x, rest)

pub bind_ok : {A B : Type 0} (r : Result A ℕ) (f : A → Result B ℕ) (y : B) → (r >>= f) ≡ Ok y → (x : A) × (r ≡ Ok x) × (f x ≡ Ok y)
bind_ok (Ok x) f y e = (x, refl, e)
bind_ok (Err d) f y e = absurd cc

abbrev pub done : {A : Type 0} → A → Result A ℕ
done x = Ok x

pub ok_is : {A : Type 0} (x y : A) → done x ≡ done y → x ≡ y
ok_is x y e = cc

-- ---- a value that is no field

pub value_law : {A : Type 0} (v : A) → Law (Value v) (λ _. []) (λ x. v ≡ x)
unfolding reading
value_law v = record {
  takes = λ bytes x rest fits e. let p = ok_is (v, bytes) (x, rest) e in (record { parts = ap (λ q. q.1) p; rest_fits = subst (λ q. IsBytes q.1) p fits }, ap (λ q. q.0) p);
  again = λ x rest e. ap (λ y. Ok (y, rest)) e;
}

-- ---- one format after another, whose value shows that of the first

pub then_law : {A B : Type 0} (f : Format A) (k : A → Format B) (spell : A → List ℕ) (more : B → List ℕ) (Fits : A → Type 0) (FitsNext : A → B → Type 0) (first : B → A)
    → Law f spell Fits → ((x : A) → Fits x → Law (k x) more (FitsNext x)) → ((x : A) (y : B) → FitsNext x y → first y ≡ x)
    → Law (f then k) (λ y. spell (first y) ++ more y) (λ y. Fits (first y) × FitsNext (first y) y)
then_law {A = A} {B = B} f k spell more Fits FitsNext first law next is_first = record {
  takes = λ bytes y rest fits e.
      let b = bind_ok (reading f bytes) (λ x. reading (k x.0) x.1) (y, rest) (sym (reading_then f k bytes) ∙ e) in
      let t = law.takes bytes b.0.0 b.0.1 fits b.1 in
      let u = (next b.0.0 t.1).takes b.0.1 y rest t.0.rest_fits b.2 in
      let same = sym (is_first b.0.0 y u.1) in
      let whole : Takes bytes (spell b.0.0 ++ more y) rest × (Fits b.0.0 × FitsNext b.0.0 y) = (Takes-then bytes (spell b.0.0) b.0.1 (more y) rest t.0 u.0, (t.1, u.1)) in
      subst (λ (x : A). Takes bytes (spell x ++ more y) rest × (Fits x × FitsNext x y)) same whole;
  again = λ y rest fits.
      let x = first y in
      let one = law.again x (more y ++ rest) fits.0 in
      let two = (next x fits.0).again y rest fits.1 in
      ap (reading (f then k)) (append_assoc (spell x) (more y) rest) ∙ reading_then f k (spell x ++ (more y ++ rest)) ∙ ap (λ r. r >>= λ z. reading (k z.0) z.1) one ∙ two;
}

-- the same values, spelled and limited in other words
pub same_law : {A : Type 0} (f : Format A) (spell other : A → List ℕ) (Fits OtherFits : A → Type 0) → Law f spell Fits → ((x : A) → Fits x → spell x ≡ other x) → ((x : A) → Fits x → OtherFits x) → ((x : A) → OtherFits x → Fits x) → Law f other OtherFits
same_law f spell other Fits OtherFits law same to from = record {
  takes = λ bytes x rest fits e. let t = law.takes bytes x rest fits e in (subst (λ s. Takes bytes s rest) (same x t.1) t.0, to x t.1);
  again = λ x rest fits. subst (λ s. reading f (s ++ rest) ≡ Ok (x, rest)) (same x (from x fits)) (law.again x rest (from x fits));
}

-- ---- a field whose value tells nothing

pub skip_law : {A B : Type 0} (f : Format A) (k : Format B) (text : List ℕ) (v : A) (spell : B → List ℕ) (Fits : B → Type 0) → Law f (λ _. text) (λ x. v ≡ x) → Law k spell Fits → Law (f then λ _. k) (λ y. text ++ spell y) Fits
skip_law {A = A} {B = B} f k text v spell Fits skipped law =
    same_law (f then λ _. k) (λ y. text ++ spell y) (λ y. text ++ spell y) (λ (y : B). (v ≡ v) × ((v ≡ v) × Fits y)) Fits
    (then_law f (λ _. k) (λ _. text) spell (λ (x : A). v ≡ x) (λ (x : A) (y : B). (v ≡ x) × Fits y) (λ _. v) skipped
    (λ x h. same_law k spell spell Fits (λ y. (v ≡ x) × Fits y) law (λ y _. refl) (λ y g. (h, g)) (λ y g. g.1)) (λ x y h. h.0))
    (λ y _. refl) (λ y h. h.1.1) (λ y g. (refl, (refl, g)))

-- a last part x, and then a value made of it
pub last_law : {A B : Type 0} (f : Format A) (make : A → B) (part : B → A) (spell : A → List ℕ) (Fits : A → Type 0) → Law f spell Fits → ((x : A) → part (make x) ≡ x) → Law (f then λ x. Value (make x)) (λ y. spell (part y)) (λ y. Fits (part y) × (make (part y) ≡ y))
last_law {A = A} {B = B} f make part spell Fits law again =
    same_law (f then λ x. Value (make x)) (λ y. spell (part y) ++ []) (λ y. spell (part y)) (λ (y : B). Fits (part y) × (make (part y) ≡ y)) (λ (y : B). Fits (part y) × (make (part y) ≡ y))
    (then_law f (λ x. Value (make x)) spell (λ _. []) Fits (λ (x : A) (y : B). make x ≡ y) part law (λ x _. value_law (make x)) (λ x y e. ap part (sym e) ∙ again x))
    (λ y _. append-nil (spell (part y))) (λ y h. h) (λ y h. h)
