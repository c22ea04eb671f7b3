-- How many bytes the fields of a format may take, and what its values have.
use Rattle.std.proofs.Common.{◌≡◌, ◌≤◌, ◌<◌, ◌+◌, ◌-◌, ◌*◌, ◌∙◌, ℕ, zero, suc, Bool, true, false, cond, ◌&&◌, eqb, List, [], ◌∷◌, ◌++◌, length, take, drop, leb, Option, Some, None, Ok, Err, refl, sym, ap, subst, inl, inr, arith, append_assoc}
use Rattle.std.specs.Int.{Width, byte_len, from_be_bytes}
use Rattle.std.proofs.lemmas.Bool.{and_parts, leb-true, cases_lt, eqb-true}
use Rattle.std.proofs.lemmas.List.{length-append, length-drop, length-take-le, take-append-drop, take_all, take-append-le}
use Rattle.heco_fields.specs.Readings.{Reading, reading}
use Rattle.heco_fields.proofs.Laws.{Law, ok_is}
use Rattle.heco_fields.specs.Formats.{Format, Value, Field, ◌>>=◌ as ◌then◌, many, within, after, joined, BreaksAt, IsBroken}

-- whatever is spelled takes at most so many bytes, and its value has the property
unfoldable pub Spans : {A : Type 0} → ℕ → (A → Type 0) → Format A → Type 0
Spans most Has (Value x) = Has x
Spans most Has (Field w allowed f) = (w ≤ most) × ((b : List ℕ) → length b ≡ w → allowed b ≡ true → Spans (most - w) Has (f b))

abbrev pub Any : {A : Type 0} → A → Type 0
Any x = Unit {0}

pub spans_more : {A : Type 0} (most more : ℕ) (Has : A → Type 0) (f : Format A) → most ≤ more → Spans most Has f → Spans more Has f
unfolding Spans
spans_more most more Has (Value x) le h = h
spans_more most more Has (Field w allowed f) le h = (omega (arith, h.0), λ b long ok. spans_more (most - w) (more - w) Has (f b) (omega arith) (h.1 b long ok))

pub spans_then : {A B : Type 0} (f : Format A) (k : A → Format B) (first second : ℕ) (Has : A → Type 0) (HasNext : B → Type 0) → Spans first Has f → ((x : A) → Has x → Spans second HasNext (k x)) → Spans (first + second) HasNext (f then k)
unfolding Spans ◌then◌
spans_then (Value x) k first second Has HasNext h next = spans_more second (first + second) HasNext (k x) (omega arith) (next x h)
spans_then (Field w allowed f) k first second Has HasNext h next = (
  omega (arith, h.0),
  λ b long ok.
      let le : w ≤ first = h.0 in
      subst (λ n. Spans n HasNext (f b then k)) (omega arith) (spans_then (f b) k (first - w) second Has HasNext (h.1 b long ok) next),
)

-- one field
pub spans_field : {A : Type 0} (w : ℕ) (allowed : List ℕ → Bool) (view : List ℕ → A) (Has : A → Type 0) → ((b : List ℕ) → allowed b ≡ true → Has (view b)) → Spans w Has (Field w allowed (λ b. Value (view b)))
unfolding Spans
spans_field w allowed view Has has = (omega arith, λ b long ok. has b ok)

pub spans_within : (w : Width) (low high : ℕ) → Spans (byte_len w) (λ n. n ≤ high) (within w low high)
spans_within w low high = spans_field (byte_len w) _ (from_be_bytes w) (λ n. n ≤ high) (λ b ok. leb-true _ _ (and_parts _ _ ok).1)

-- so many, each of at most so many bytes
pub spans_many : {S A : Type 0} (format : S → Format A) (next : S → A → S) (each : ℕ) → ((s : S) → Spans each Any (format s)) → (n : ℕ) (s : S) → Spans (n * each) (λ xs. length xs ≡ n) (many format next n s)
unfolding many Spans
spans_many {S = S} {A = A} format next each h zero s = refl
spans_many {S = S} {A = A} format next each h (suc n) s =
    subst (λ m. Spans m (λ xs. length xs ≡ suc n) (many format next (suc n) s)) (omega arith)
    (spans_then (format s) (λ x. many format next n (next s x) then λ xs. Value (x ∷ xs)) each (n * each + 0) Any (λ xs. length xs ≡ suc n) (h s)
    (λ x _. spans_then (many format next n (next s x)) (λ xs. Value (x ∷ xs)) (n * each) 0 (λ xs. length xs ≡ n) (λ xs. length xs ≡ suc n) (spans_many format next each h n (next s x)) (λ xs long. ap (λ k. suc k) long)))

-- ---- behind fields

-- what these fields leave
record Left {A : Type 0} (most : ℕ) (Has : A → Type 0) (fields : List (List ℕ)) (next : Format A) : Type 0 where
  taken : length (joined fields) ≤ most
  spans : Spans (most - length (joined fields)) Has next

is_some : {A : Type 0} (x y : A) → Option.Some x ≡ Some y → x ≡ y
is_some x y e = cc

left_behind : {A : Type 0} (most : ℕ) (Has : A → Type 0) (w : ℕ) (b : List ℕ) (fields : List (List ℕ)) (next : Format A) → length b ≡ w → w ≤ most → Left (most - w) Has fields next → Left most Has (b ∷ fields) next
left_behind most Has w b fields next long le l =
    let sum : length (joined (b ∷ fields)) ≡ w + length (joined fields) = length-append b (joined fields) ∙ ap (λ n. n + length (joined fields)) long in
    record {
      taken = omega (arith, sum, l.taken);
      spans = subst (λ n. Spans n Has next) (omega (arith, sum)) l.spans;
    }

chosen : {A : Type 0} (b : Bool) (x : Option A) (y : A) → cond b x None ≡ Some y → (b ≡ true) × (x ≡ Some y)
chosen true x y e = (refl, e)
chosen false x y e = absurd cc

left_after : {A : Type 0} (most : ℕ) (Has : A → Type 0) (f : Format A) (fields : List (List ℕ)) (next : Format A) → Spans most Has f → after f fields ≡ Some next → Left most Has fields next
unfolding Spans after
left_after most Has f [] next h e = record { taken = omega arith; spans = subst (λ n. Spans n Has next) (omega arith) (subst (Spans most Has) (is_some f next e) h) }
left_after most Has (Value x) (b ∷ fields) next h e = absurd cc
left_after most Has (Field w allowed f) (b ∷ fields) next h e =
    let c = chosen (eqb (length b) w && allowed b) (after (f b) fields) next e in
    let parts = and_parts _ _ c.0 in
    let long : length b ≡ w = eqb-true _ _ parts.0 in
    left_behind most Has w b fields next long h.0 (left_after (most - w) Has (f b) fields next (h.1 b long parts.1) c.1)

-- ---- the first bytes, more than a file may have, break where the whole file does

broken_whole : {A : Type 0} (most : ℕ) (Has : A → Type 0) (next : Format A) (rest more : List ℕ) → Spans most Has next → most < length rest → IsBroken next rest [] → IsBroken next (rest ++ more) []
unfolding Spans
broken_whole most Has (Value x) rest more h long b = omega (arith, length-append rest more)
broken_whole most Has (Field w allowed f) rest more h long (inl short) = absurd (let le : w ≤ most = h.0 in omega arith)
broken_whole most Has (Field w allowed f) rest more h long (inr bad) =
    let le : w ≤ length rest = omega (arith, h.0) in
    inr (ap allowed (take-append-le w rest more le) ∙ bad)

breaks_behind : {A : Type 0} (most : ℕ) (Has : A → Type 0) (f : Format A) (bytes more : List ℕ) (at : ℕ) → Spans most Has f → most < length bytes → BreaksAt f bytes [] at → BreaksAt f (bytes ++ more) [] at
breaks_behind most Has f bytes more at h long b =
    let left = left_after most Has f b.fields b.next h b.taken in
    let sum : length bytes ≡ length (joined b.fields) + length b.rest = ap length b.parts ∙ length-append (joined b.fields) b.rest in
    record {
      fields = b.fields;
      rest = b.rest ++ more;
      next = b.next;
      parts = ap (λ (t : List ℕ). t ++ more) b.parts ∙ append_assoc (joined b.fields) b.rest more;
      place = b.place;
      taken = b.taken;
      broken = broken_whole (most - length (joined b.fields)) Has b.next b.rest more left.spans (omega (arith, left.taken)) b.broken;
    }

pub breaks_whole : {A : Type 0} (most limit : ℕ) (Has : A → Type 0) (f : Format A) (text bytes : List ℕ) (at : ℕ) → Spans most Has f → most < limit → take limit text ≡ bytes → BreaksAt f bytes [] at → BreaksAt f text [] at
breaks_whole most limit Has f text bytes at h more cut b = elim (cases_lt (length text) limit) [
  | inl short ↦ subst (λ t. BreaksAt f t [] at) (sym cut ∙ take_all limit text (omega arith)) b
  | inr long ↦ (
      let there : length bytes ≡ limit = sym (ap length cut) ∙ length-take-le limit text long in
      let whole : bytes ++ drop limit text ≡ text = ap (λ (t : List ℕ). t ++ drop limit text) (sym cut) ∙ take-append-drop limit text in
      subst (λ t. BreaksAt f t [] at) whole (breaks_behind most Has f bytes (drop limit text) at h (omega arith) b))
]

-- ---- what is spelled is no longer

read_chosen : {A : Type 0} (b : Bool) (r : Reading A) (left : ℕ) (x : A × List ℕ) → cond b r (Err left) ≡ Ok x → (b ≡ true) × (r ≡ Ok x)
read_chosen true r left x e = (refl, e)
read_chosen false r left x e = absurd cc

read_span : {A : Type 0} (most : ℕ) (Has : A → Type 0) (f : Format A) (bytes : List ℕ) (x : A) (rest : List ℕ) → Spans most Has f → reading f bytes ≡ Ok (x, rest) → length bytes ≤ most + length rest
unfolding Spans reading
read_span most Has (Value y) bytes x rest h e = let same : bytes ≡ rest = ap (λ p. p.1) (ok_is (y, bytes) (x, rest) e) in omega (arith, ap length same)
read_span most Has (Field w allowed f) bytes x rest h e =
    let c = read_chosen (leb w (length bytes) && allowed (take w bytes)) (reading (f (take w bytes)) (drop w bytes)) (length bytes) (x, rest) e in
    let parts = and_parts _ _ c.0 in
    let le : w ≤ length bytes = leb-true _ _ parts.0 in
    let more = read_span (most - w) Has (f (take w bytes)) (drop w bytes) x rest (h.1 (take w bytes) (length-take-le w bytes le) parts.1) c.1 in
    omega (arith, more, h.0, length-drop w bytes)

pub text_short : {A : Type 0} (most : ℕ) (Has : A → Type 0) (f : Format A) (spell : A → List ℕ) (Fits : A → Type 0) (x : A) → Law f spell Fits → Spans most Has f → Fits x → length (spell x) ≤ most
text_short most Has f spell Fits x law h fits =
    let read = read_span most Has f (spell x ++ []) x [] h (law.again x [] fits) in
    omega (arith, read, length-append (spell x) [])
