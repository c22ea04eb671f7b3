-- A reading fails exactly at the first broken field, for every format.
use Rattle.std.proofs.Common.{◌≡◌, ℕ, ◌+◌, ◌-◌, ◌<◌, ◌≤◌, Bool, true, false, cond, ◌&&◌, eqb, leb, List, [], ◌∷◌, ◌++◌, length, take, drop, Option, Some, None, Result, Ok, Err, refl, sym, ap, subst, ◌∙◌, append_assoc, arith, inl, inr, ◌⊎◌}
use Rattle.std.proofs.lemmas.Bool.{eqb-true, eqb-false, ne_eqb, eq-eqb, leb-true, leb-false, le-leb, lt-leb}
use Rattle.std.proofs.lemmas.List.{take_at, drop_at, take-append-drop, length-take, length-append, append-nil, nil_from_length}
use Rattle.heco_fields.specs.Formats.{Format, Value, Field, after, joined, IsBroken, IsSpelledBy, BreaksAt}
use Rattle.heco_fields.specs.Readings.{Reading, reading, judged}
use Rattle.heco_fields.proofs.Bools.{both_true}

one_false : (a b : Bool) → (a && b) ≡ false → (a ≡ false) ⊎ (b ≡ false)
one_false true b e = inr e
one_false false b e = inl refl

which : (b : Bool) → (b ≡ true) ⊎ (b ≡ false)
which true = inl refl
which false = inr refl

some_is : {A : Type 0} (x y : A) → Option.Some x ≡ Some y → x ≡ y
some_is x y e = cc

chosen : {A : Type 0} (b : Bool) (x : Option A) (y : A) → cond b x None ≡ Some y → (b ≡ true) × (x ≡ Some y)
chosen true x y e = (refl, e)
chosen false x y e = absurd cc

-- a field that is whole and allowed is passed
passes : {A : Type 0} (w : ℕ) (allowed : List ℕ → Bool) (f : List ℕ → Format A) (b more : List ℕ) → length b ≡ w → allowed b ≡ true → reading (Field w allowed f) (b ++ more) ≡ reading (f b) more
unfolding reading
passes w allowed f b more len ok =
    let long : leb w (length (b ++ more)) ≡ true = le-leb _ _ (omega (arith, length-append b more)) in
    rw (long, take_at b more w len, ok, drop_at b more w len) refl

-- reading goes on behind fields that are whole and allowed
pub reading-after : {A : Type 0} (f : Format A) (fields : List (List ℕ)) (rest : List ℕ) (next : Format A) → after f fields ≡ Some next → reading f (joined fields ++ rest) ≡ reading next rest
unfolding after
reading-after f [] rest next e = ap (λ g. reading g rest) (some_is f next e)
reading-after (Value x) (b ∷ fields) rest next e = absurd cc
reading-after (Field w allowed f) (b ∷ fields) rest next e =
    let c = chosen (eqb (length b) w && allowed b) (after (f b) fields) next e in
    let t = both_true (eqb (length b) w) (allowed b) c.0 in
    ap (reading (Field w allowed f)) (append_assoc b (joined fields) rest) ∙ passes w allowed f b (joined fields ++ rest) (eqb-true _ _ t.0) t.1 ∙ reading-after (f b) fields rest next c.1

abbrev IsStop : {A : Type 0} → Format A → List ℕ → Reading A → Type 0
IsStop (Value x) rest read = read ≡ Ok (x, rest)
IsStop (Field w allowed f) rest read = (read ≡ Err (length rest)) × ((length rest < w) ⊎ (allowed (take w rest) ≡ false))

-- where reading stops
record Stop {A : Type 0} (format : Format A) (bytes : List ℕ) : Type 0 where
  fields : List (List ℕ)
  rest : List ℕ
  next : Format A
  parts : bytes ≡ joined fields ++ rest
  taken : after format fields ≡ Some next
  stop : IsStop next rest (reading format bytes)

stops_at : {A : Type 0} (w : ℕ) (allowed : List ℕ → Bool) (f : List ℕ → Format A) (bytes : List ℕ) → (leb w (length bytes) && allowed (take w bytes)) ≡ false → Stop (Field w allowed f) bytes
unfolding after reading
stops_at w allowed f bytes e =
    let broken : (length bytes < w) ⊎ (allowed (take w bytes) ≡ false) = elim (one_false (leb w (length bytes)) (allowed (take w bytes)) e) [ inl short ↦ inl (leb-false _ _ short) | inr bad ↦ inr bad ] in
    record { fields = []; rest = bytes; next = Field w allowed f; parts = refl; taken = refl; stop = (rw e refl, broken) }

goes_on : {A : Type 0} (w : ℕ) (allowed : List ℕ → Bool) (f : List ℕ → Format A) (bytes : List ℕ) → (leb w (length bytes) && allowed (take w bytes)) ≡ true → Stop (f (take w bytes)) (drop w bytes) → Stop (Field w allowed f) bytes
unfolding after reading
goes_on w allowed f bytes e s =
    let t = both_true (leb w (length bytes)) (allowed (take w bytes)) e in
    let long : w ≤ length bytes = leb-true _ _ t.0 in
    let same : eqb (length (take w bytes)) w ≡ true = eq-eqb _ _ (omega (arith, length-take w bytes)) in
    let read : reading (f (take w bytes)) (drop w bytes) ≡ reading (Field w allowed f) bytes = rw e refl in
    record {
      fields = take w bytes ∷ s.fields;
      rest = s.rest;
      next = s.next;
      parts = sym (take-append-drop w bytes) ∙ ap (λ more. take w bytes ++ more) s.parts ∙ sym (append_assoc (take w bytes) (joined s.fields) s.rest);
      taken = rw (same, t.1) s.taken;
      stop = subst (IsStop s.next s.rest) read s.stop;
    }

stops : {A : Type 0} (f : Format A) (bytes : List ℕ) → Stop f bytes
unfolding after reading
stops (Value x) bytes = record { fields = []; rest = bytes; next = Value x; parts = refl; taken = refl; stop = refl }
stops (Field w allowed f) bytes =
    elim (which (leb w (length bytes) && allowed (take w bytes))) [
      | inl e ↦ goes_on w allowed f bytes e (stops (f (take w bytes)) (drop w bytes))
      | inr e ↦ stops_at w allowed f bytes e
    ]

-- what a file is judged to be where reading stops there
abbrev Ends : {A : Type 0} → Format A → List (List ℕ) → List ℕ → List ℕ → Result A ℕ → Type 0
Ends (Value x) fields rest beyond result = result ≡ cond (eqb (length rest + length beyond) 0) (Ok x) (Err (length (joined fields)))
Ends (Field w allowed f) fields rest beyond result = (result ≡ Err (length (joined fields))) × IsBroken (Field w allowed f) rest beyond

left_of : (bytes front rest : List ℕ) → bytes ≡ front ++ rest → length bytes - length rest ≡ length front
left_of bytes front rest e = omega (arith, ap length e, length-append front rest)

ends : {A : Type 0} (next : Format A) (fields : List (List ℕ)) (bytes rest beyond : List ℕ) (read : Reading A) → bytes ≡ joined fields ++ rest → IsStop next rest read → Ends next fields rest beyond (judged bytes beyond read)
ends (Value x) fields bytes rest beyond read parts stop = rw (stop, left_of bytes (joined fields) rest parts) refl
ends (Field w allowed f) fields bytes rest beyond read parts stop = (rw (stop.0, left_of bytes (joined fields) rest parts) refl, stop.1)

abbrev failed : {A : Type 0} → ℕ → Result A ℕ
failed n = Err n

abbrev done : {A : Type 0} → A → Result A ℕ
done x = Ok x

fault_is : {A : Type 0} (m n : ℕ) → failed {A = A} m ≡ failed n → m ≡ n
fault_is m n e = cc

value_is : {A : Type 0} (x y : A) → done x ≡ done y → x ≡ y
value_is x y e = cc

ends_badly : {A : Type 0} (b : Bool) (x : A) (place at : ℕ) → cond b (Ok x) (Err place) ≡ Err at → (b ≡ false) × (place ≡ at)
ends_badly {A} true x place at e = absurd cc
ends_badly {A} false x place at e = (refl, fault_is {A = A} place at e)

ends_well : {A : Type 0} (b : Bool) (x y : A) (place : ℕ) → cond b (Ok x) (Err place) ≡ Ok y → (b ≡ true) × (x ≡ y)
ends_well true x y place e = (refl, value_is x y e)
ends_well false x y place e = absurd cc

not_zero : (n : ℕ) → eqb n 0 ≡ false → 0 < n
not_zero n e = let no = eqb-false n 0 e in omega arith

nonzero : (n : ℕ) → 0 < n → eqb n 0 ≡ false
nonzero n lt = ne_eqb n 0 (λ e. omega arith)

breaks : {A : Type 0} (next : Format A) (fields : List (List ℕ)) (rest beyond : List ℕ) (result : Result A ℕ) (at : ℕ) → Ends next fields rest beyond result → result ≡ Err at → (at ≡ length (joined fields)) × IsBroken next rest beyond
breaks (Value x) fields rest beyond result at ends e =
    let b = ends_badly (eqb (length rest + length beyond) 0) x (length (joined fields)) at (sym ends ∙ e) in
    (sym b.1, not_zero _ b.0)
breaks {A} (Field w allowed f) fields rest beyond result at ends e = (sym (fault_is {A = A} _ _ (sym ends.0 ∙ e)), ends.1)

-- a file that is not read breaks there
pub judged_breaks : {A : Type 0} (f : Format A) (bytes beyond : List ℕ) (at : ℕ) → judged bytes beyond (reading f bytes) ≡ Err at → BreaksAt f bytes beyond at
judged_breaks f bytes beyond at e =
    let s = stops f bytes in
    let b = breaks s.next s.fields s.rest beyond (judged bytes beyond (reading f bytes)) at (ends s.next s.fields bytes s.rest beyond (reading f bytes) s.parts s.stop) e in
    record { fields = s.fields; rest = s.rest; next = s.next; parts = s.parts; place = b.0; taken = s.taken; broken = b.1 }

refused : (a b : Bool) → (a ≡ false) ⊎ (b ≡ false) → (a && b) ≡ false
refused true b (inl e) = absurd cc
refused true b (inr e) = e
refused false b e = refl

stops_here : {A : Type 0} (next : Format A) (rest beyond : List ℕ) → IsBroken next rest beyond → IsStop next rest (reading next rest)
unfolding reading
stops_here (Value x) rest beyond broken = refl
stops_here (Field w allowed f) rest beyond broken =
    let e : (leb w (length rest) && allowed (take w rest)) ≡ false = refused (leb w (length rest)) (allowed (take w rest)) (elim broken [ inl short ↦ inl (lt-leb _ _ short) | inr bad ↦ inr bad ]) in
    (rw e refl, broken)

ended : {A : Type 0} (next : Format A) (fields : List (List ℕ)) (rest beyond : List ℕ) (result : Result A ℕ) → IsBroken next rest beyond → Ends next fields rest beyond result → result ≡ Err (length (joined fields))
ended (Value x) fields rest beyond result broken ends = let no : eqb (length rest + length beyond) 0 ≡ false = nonzero _ broken in ends ∙ rw no refl
ended (Field w allowed f) fields rest beyond result broken ends = ends.0

-- a file that breaks there is not read
pub breaks_judged : {A : Type 0} (f : Format A) (bytes beyond : List ℕ) (at : ℕ) → BreaksAt f bytes beyond at → judged bytes beyond (reading f bytes) ≡ Err at
breaks_judged f bytes beyond at b =
    let read : reading f bytes ≡ reading b.next b.rest = ap (reading f) b.parts ∙ reading-after f b.fields b.rest b.next b.taken in
    let stop = subst (IsStop b.next b.rest) (sym read) (stops_here b.next b.rest beyond b.broken) in
    ended b.next b.fields b.rest beyond (judged bytes beyond (reading f bytes)) b.broken (ends b.next b.fields bytes b.rest beyond (reading f bytes) b.parts stop) ∙ ap (λ n. Err n) (sym b.place)

spelled : {A : Type 0} (next : Format A) (fields : List (List ℕ)) (rest beyond : List ℕ) (result : Result A ℕ) (x : A) → Ends next fields rest beyond result → result ≡ Ok x → (next ≡ Value x) × (rest ≡ []) × (beyond ≡ [])
spelled (Value y) fields rest beyond result x ends e =
    let b = ends_well (eqb (length rest + length beyond) 0) y x (length (joined fields)) (sym ends ∙ e) in
    let none : length rest + length beyond ≡ 0 = eqb-true _ _ b.0 in
    (ap (λ z. Value z) b.1, nil_from_length rest (omega arith), nil_from_length beyond (omega arith))
spelled (Field w allowed f) fields rest beyond result x ends e = let no = sym ends.0 ∙ e in absurd cc

-- what is read is spelled by fields of the format, and by nothing else
pub judged_spelled : {A : Type 0} (f : Format A) (bytes beyond : List ℕ) (x : A) → judged bytes beyond (reading f bytes) ≡ Ok x → (fields : List (List ℕ)) × ((bytes ≡ joined fields) × (beyond ≡ []) × IsSpelledBy f fields x)
judged_spelled f bytes beyond x e =
    let s = stops f bytes in
    let t = spelled s.next s.fields s.rest beyond (judged bytes beyond (reading f bytes)) x (ends s.next s.fields bytes s.rest beyond (reading f bytes) s.parts s.stop) e in
    (s.fields, (s.parts ∙ ap (λ r. joined s.fields ++ r) t.1 ∙ append-nil (joined s.fields), t.2, s.taken ∙ ap (λ g. Some g) t.0))

-- what fields of the format spell is read
pub spelled_judged : {A : Type 0} (f : Format A) (fields : List (List ℕ)) (x : A) → IsSpelledBy f fields x → judged (joined fields) [] (reading f (joined fields)) ≡ Ok x
unfolding reading
spelled_judged f fields x e =
    let read : reading f (joined fields) ≡ Ok (x, []) = ap (reading f) (sym (append-nil (joined fields))) ∙ reading-after f fields [] (Value x) e in
    rw read refl
