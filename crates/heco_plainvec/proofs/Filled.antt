-- A vector that is filled by what is asked, constant by constant.
use Rattle.std.proofs.Common.{◌≡◌, ℕ, zero, suc, ◌+◌, ◌<◌, ◌≤◌, List, [], ◌∷◌, ◌++◌, length, map, take, refl, ap, sym, ◌∙◌, arith, Bool, true, false, ◌&&◌, ◌||◌, not, cond, eqb, inl, inr, get_or, replicate, subst}
use Rattle.std.specs.Prelude.{Some, slice_get, All}
use Rattle.std.specs.List.{list_any, range_with_len, slice_set}
use Rattle.std.proofs.lemmas.Bool.{cases_eq, eqb-true, eq-eqb, ne_eqb}
use Rattle.std.proofs.lemmas.List.{take_more, ext_get_or, length-set, get_or-set_same, get_or-set_other}
use Rattle.std.proofs.lemmas.List.FromFn.{get_or-map-range_with_len, length-map-range_with_len}
use Rattle.heco_nums.specs.Presets.{slots_of}
use Rattle.heco_fields.proofs.Bools.{both_true}
use Rattle.heco_plainvec.specs.declared.multiple.Asked.{Asked}
use Rattle.heco_plainvec.specs.Gathering.{differs, agree, at_slot, vector_of}
use Rattle.heco_plainvec.specs.inside.Finding.{IsAsk}

-- constants of multiples
abbrev pub AreConstants : List Asked → Type 0
AreConstants xs = (i : ℕ) (x : Asked) → slice_get xs i ≡ Some x → 1 ≤ x.by

later : (x : Asked) (xs : List Asked) → AreConstants (x ∷ xs) → AreConstants xs
later x xs h = λ i z e. h (suc i) z e

some : (n : ℕ) → 1 ≤ n → eqb n 0 ≡ false
some n l = ne_eqb n 0 (λ q. omega (arith, l, q))

swapped : (a b : ℕ) → eqb a b ≡ eqb b a
swapped a b = elim (cases_eq a b) [ inl q ↦ eq-eqb a b q ∙ sym (eq-eqb b a (sym q)) | inr n ↦ ne_eqb a b n ∙ sym (ne_eqb b a (λ q. n (sym q))) ]

-- ---- one constant more
pub agree_more : (xs : List Asked) (y : Asked) → agree (xs ++ y ∷ []) ≡ (agree xs && not (list_any (λ x. differs x y) xs))
agree_more [] y = refl
agree_more (x ∷ xs) y =
    ap (λ b. not b && agree (xs ++ y ∷ [])) (any_more (differs x) xs)
    ∙ ap (λ b. not (list_any (differs x) xs || differs x y) && b) (agree_more xs y)
    ∙ tests (list_any (differs x) xs) (differs x y) (agree xs) (list_any (λ z. differs z y) xs)
  where
    any_more : (test : Asked → Bool) (zs : List Asked) → list_any test (zs ++ y ∷ []) ≡ (list_any test zs || test y)
    any_more test [] = right (test y)
      where
        right : (b : Bool) → (b || false) ≡ b
        right true = refl
        right false = refl
    any_more test (z ∷ zs) = by_test (test z) (any_more test zs)
      where
        by_test : (b : Bool) → list_any test (zs ++ y ∷ []) ≡ (list_any test zs || test y) → (b || list_any test (zs ++ y ∷ [])) ≡ ((b || list_any test zs) || test y)
        by_test true e = refl
        by_test false e = e

    tests : (a d g b : Bool) → (not (a || d) && (g && not b)) ≡ ((not a && g) && not (d || b))
    tests true d g b = refl
    tests false true true b = refl
    tests false true false b = refl
    tests false false g b = refl

pub slot_more : (xs : List Asked) (y : Asked) (j : ℕ) → AreConstants xs → at_slot (xs ++ y ∷ []) j ≡ cond (eqb (at_slot xs j) 0) (cond (eqb y.slot j) y.by 0) (at_slot xs j)
slot_more [] y j h = refl
slot_more (x ∷ xs) y j h = by_test (eqb x.slot j) (slot_more xs y j (later x xs h))
  where
    by_test : (b : Bool) → at_slot (xs ++ y ∷ []) j ≡ cond (eqb (at_slot xs j) 0) (cond (eqb y.slot j) y.by 0) (at_slot xs j)
        → cond b x.by (at_slot (xs ++ y ∷ []) j) ≡ cond (eqb (cond b x.by (at_slot xs j)) 0) (cond (eqb y.slot j) y.by 0) (cond b x.by (at_slot xs j))
    by_test true e = sym (ap (λ t. cond t (cond (eqb y.slot j) y.by 0) x.by) (some x.by (h 0 x refl)))
    by_test false e = e

-- the new constant agrees with those before it where its slot has none, or itself
abbrev pub agrees : List Asked → Asked → Bool
agrees xs y = eqb (at_slot xs y.slot) 0 || eqb (at_slot xs y.slot) y.by

pub agrees_is : (xs : List Asked) (y : Asked) → AreConstants xs → agree xs ≡ true → agrees xs y ≡ not (list_any (λ x. differs x y) xs)
agrees_is [] y h g = refl
agrees_is (x ∷ xs) y h g =
    by_slot (eqb x.slot y.slot) refl (agrees_is xs y (later x xs h) u.1)
  where
    u : (not (list_any (differs x) xs) ≡ true) × (agree xs ≡ true)
    u = both_true (not (list_any (differs x) xs)) (agree xs) g

    none : (b : Bool) → not b ≡ true → b ≡ false
    none true e = absurd cc
    none false e = refl

    same_any : (f k : Asked → Bool) (zs : List Asked) → ((z : Asked) → f z ≡ k z) → list_any f zs ≡ list_any k zs
    same_any f k [] e = refl
    same_any f k (z ∷ zs) e = ap (λ b. b || list_any f zs) (e z) ∙ ap (λ b. k z || b) (same_any f k zs e)

    turned : x.slot ≡ y.slot → x.by ≡ y.by → (z : Asked) → differs z y ≡ differs x z
    turned s q z =
        ap (λ b. b && not (eqb z.by y.by)) (swapped z.slot y.slot ∙ ap (λ k. eqb k z.slot) (sym s))
        ∙ ap (λ b. eqb x.slot z.slot && not b) (swapped z.by y.by ∙ ap (λ k. eqb k z.by) (sym q))

    by_by : (b : Bool) → eqb x.by y.by ≡ b → x.slot ≡ y.slot → (false || b) ≡ not (not b || list_any (λ z. differs z y) xs)
    by_by true t s = sym (ap not (same_any (λ z. differs z y) (differs x) xs (turned s (eqb-true x.by y.by t)) ∙ none (list_any (differs x) xs) u.0))
    by_by false t s = refl

    by_slot : (b : Bool) → eqb x.slot y.slot ≡ b → agrees xs y ≡ not (list_any (λ z. differs z y) xs)
        → (eqb (cond b x.by (at_slot xs y.slot)) 0 || eqb (cond b x.by (at_slot xs y.slot)) y.by) ≡ not ((b && not (eqb x.by y.by)) || list_any (λ z. differs z y) xs)
    by_slot true t e = ap (λ k. k || eqb x.by y.by) (some x.by (h 0 x refl)) ∙ by_by (eqb x.by y.by) refl (eqb-true x.slot y.slot t)
    by_slot false t e = e

-- ---- a constant that does not agree
agree_front : (k : ℕ) (xs : List Asked) → agree xs ≡ true → agree (take k xs) ≡ true
agree_front zero xs h = refl
agree_front (suc k) [] h = refl
agree_front (suc k) (x ∷ xs) h =
    let u = both_true (not (list_any (differs x) xs)) (agree xs) h in
    fewer (list_any (differs x) (take k xs)) (list_any (differs x) xs) (any_front k xs) u.0 (agree_front k xs u.1)
  where
    any_front : (k : ℕ) (zs : List Asked) → list_any (differs x) (take k zs) ≡ true → list_any (differs x) zs ≡ true
    any_front zero zs e = absurd cc
    any_front (suc k) [] e = absurd cc
    any_front (suc k) (z ∷ zs) e = by_test (differs x z) e (any_front k zs)
      where
        by_test : (b : Bool) → (b || list_any (differs x) (take k zs)) ≡ true → (list_any (differs x) (take k zs) ≡ true → list_any (differs x) zs ≡ true) → (b || list_any (differs x) zs) ≡ true
        by_test true e f = refl
        by_test false e f = f e

    fewer : (a b : Bool) → (a ≡ true → b ≡ true) → not b ≡ true → agree (take k xs) ≡ true → (not a && agree (take k xs)) ≡ true
    fewer true true f n g = absurd cc
    fewer true false f n g = absurd (let z : false ≡ true = f refl in cc)
    fewer false b f n g = g

pub disagree : (k : ℕ) (xs : List Asked) → agree (take k xs) ≡ false → agree xs ≡ false
disagree k xs h = by_test (agree xs) refl
  where
    by_test : (b : Bool) → agree xs ≡ b → b ≡ false
    by_test true t = let z : true ≡ false = sym (agree_front k xs t) ∙ h in absurd cc
    by_test false t = refl

-- ---- the vector
pub slot_of_vector : (id : ℕ) (xs : List Asked) (j : ℕ) → j < slots_of id → get_or (vector_of id xs) j 0 ≡ at_slot xs j
slot_of_vector id xs j l = get_or-map-range_with_len (at_slot xs) 0 (slots_of id) j j 0 l (omega arith)

pub length-vector : (id : ℕ) (xs : List Asked) → length (vector_of id xs) ≡ slots_of id
length-vector id xs = length-map-range_with_len (at_slot xs) 0 (slots_of id)

pub vector_more : (id : ℕ) (xs : List Asked) (y : Asked) → AreConstants xs → y.slot < slots_of id → agrees xs y ≡ true → vector_of id (xs ++ y ∷ []) ≡ slice_set (vector_of id xs) y.slot y.by
vector_more id xs y h l a =
    let n = length-vector id xs in
    let m = length-vector id (xs ++ y ∷ []) in
    let s = length-set (vector_of id xs) y.slot y.by in
    ext_get_or 0 (vector_of id (xs ++ y ∷ [])) (slice_set (vector_of id xs) y.slot y.by) (omega (arith, n, m, s)) (λ j k.
    slot_of_vector id (xs ++ y ∷ []) j (omega (arith, m, k)) ∙ slot_more xs y j h ∙ by_slot j (omega (arith, m, k)))
  where
    own : (n : ℕ) → (eqb n 0 || eqb n y.by) ≡ true → cond (eqb n 0) y.by n ≡ y.by
    own n e = by_test (eqb n 0) e
      where
        by_test : (b : Bool) → (b || eqb n y.by) ≡ true → cond b y.by n ≡ y.by
        by_test true e = refl
        by_test false e = eqb-true n y.by e

    none : (n : ℕ) → cond (eqb n 0) 0 n ≡ n
    none n = by_test (eqb n 0) refl
      where
        by_test : (b : Bool) → eqb n 0 ≡ b → cond b 0 n ≡ n
        by_test true t = sym (eqb-true n 0 t)
        by_test false t = refl

    by_slot : (j : ℕ) → j < slots_of id → cond (eqb (at_slot xs j) 0) (cond (eqb y.slot j) y.by 0) (at_slot xs j) ≡ get_or (slice_set (vector_of id xs) y.slot y.by) j 0
    by_slot j k = elim (cases_eq y.slot j) [
      | inl q ↦ (let e : eqb y.slot j ≡ true = eq-eqb y.slot j q in
          let n = length-vector id xs in
          ap (λ b. cond (eqb (at_slot xs j) 0) (cond b y.by 0) (at_slot xs j)) e
          ∙ ap (λ i. cond (eqb (at_slot xs i) 0) y.by (at_slot xs i)) (sym q) ∙ own (at_slot xs y.slot) a
          ∙ sym (ap (λ i. get_or (slice_set (vector_of id xs) y.slot y.by) i 0) (sym q) ∙ get_or-set_same (vector_of id xs) y.slot y.by 0 (omega (arith, n, l))))
      | inr ne ↦ (ap (λ b. cond (eqb (at_slot xs j) 0) (cond b y.by 0) (at_slot xs j)) (ne_eqb y.slot j ne) ∙ none (at_slot xs j)
          ∙ sym (get_or-set_other (vector_of id xs) y.slot j y.by 0 (λ q. ne (sym q)) ∙ slot_of_vector id xs j k))
    ]

pub zeros : (id : ℕ) → replicate (slots_of id) 0 ≡ vector_of id []
zeros id = some_zeros 0 (slots_of id)
  where
    some_zeros : (a n : ℕ) → replicate n 0 ≡ map (at_slot []) (range_with_len a n)
    some_zeros a zero = refl
    some_zeros a (suc n) = ap (λ xs. 0 ∷ xs) (some_zeros (a + 1) n)

-- ---- what is asked of a preset
get_is : (xs : List Asked) (i : ℕ) (x d : Asked) → slice_get xs i ≡ Some x → (i < length xs) × (get_or xs i d ≡ x)
get_is [] i x d e = absurd cc
get_is (y ∷ xs) zero x d e = (omega arith, (let f : Some y ≡ Some x = e in cc))
get_is (y ∷ xs) (suc i) x d e = let r = get_is xs i x d e in let l = r.0 in (omega (arith, l), r.1)

get_front : (k : ℕ) (xs : List Asked) (i : ℕ) (x : Asked) → slice_get (take k xs) i ≡ Some x → slice_get xs i ≡ Some x
get_front zero xs i x e = absurd cc
get_front (suc k) [] i x e = absurd cc
get_front (suc k) (y ∷ xs) zero x e = e
get_front (suc k) (y ∷ xs) (suc i) x e = get_front k xs i x e

pub constants_before : (id k : ℕ) (xs : List Asked) → All (IsAsk id) xs → AreConstants (take k xs)
constants_before id k xs h = λ i x e.
    let r = get_is xs i x x (get_front k xs i x e) in
    let a : IsAsk id (get_or xs i x) = h i x r.0 in
    subst (λ z. 1 ≤ z.by) r.1 a.1

pub ask_is : (id : ℕ) (xs : List Asked) (i : ℕ) (d : Asked) → All (IsAsk id) xs → i < length xs → IsAsk id (get_or xs i d)
ask_is id xs i d h l = h i d l

-- ---- one step, over a vector that is filled by the first of what is asked
abbrev pub test_of : List ℕ → Asked → Bool
test_of v y = eqb (get_or v y.slot 0) 0 || eqb (get_or v y.slot 0) y.by

pub record IsFilled (id : ℕ) (asks : List Asked) (i : ℕ) (v : List ℕ) : Type 0 where
  pub asks_are : All (IsAsk id) asks
  pub below : i < length asks
  pub agreed : agree (take i asks) ≡ true
  pub value : v ≡ vector_of id (take i asks)

test_is : (id : ℕ) (asks : List Asked) (i : ℕ) (v : List ℕ) (d : Asked) → IsFilled id asks i v → test_of v (get_or asks i d) ≡ agrees (take i asks) (get_or asks i d)
test_is id asks i v d f =
    let y : Asked = get_or asks i d in
    let a : IsAsk id y = ask_is id asks i d f.asks_are f.below in
    ap (λ k. eqb k 0 || eqb k y.by) (ap (λ w. get_or w y.slot 0) f.value ∙ slot_of_vector id (take i asks) y.slot a.0)

next_agree : (id : ℕ) (asks : List Asked) (i : ℕ) (v : List ℕ) (d : Asked) → IsFilled id asks i v → agree (take (i + 1) asks) ≡ test_of v (get_or asks i d)
next_agree id asks i v d f =
    let y : Asked = get_or asks i d in
    ap agree (take_more asks i d f.below) ∙ agree_more (take i asks) y ∙ ap (λ b. b && not (list_any (λ x. differs x y) (take i asks))) f.agreed
    ∙ sym (agrees_is (take i asks) y (constants_before id i asks f.asks_are) f.agreed) ∙ sym (test_is id asks i v d f)

pub one_agrees : (id : ℕ) (asks : List Asked) (i : ℕ) (v w : List ℕ) (d : Asked) → IsFilled id asks i v → test_of v (get_or asks i d) ≡ true → w ≡ slice_set v (get_or asks i d).slot (get_or asks i d).by
    → (agree (take (i + 1) asks) ≡ true) × (w ≡ vector_of id (take (i + 1) asks))
one_agrees id asks i v w d f t e =
    let y : Asked = get_or asks i d in
    let a : IsAsk id y = ask_is id asks i d f.asks_are f.below in (
      next_agree id asks i v d f ∙ t,
      e ∙ ap (λ u. slice_set u y.slot y.by) f.value
          ∙ sym (ap (vector_of id) (take_more asks i d f.below)
          ∙ vector_more id (take i asks) y (constants_before id i asks f.asks_are) a.0 (sym (test_is id asks i v d f) ∙ t)),
    )

pub one_disagrees : (id : ℕ) (asks : List Asked) (i : ℕ) (v : List ℕ) (d : Asked) → IsFilled id asks i v → test_of v (get_or asks i d) ≡ false → agree asks ≡ false
one_disagrees id asks i v d f t = disagree (i + 1) asks (next_agree id asks i v d f ∙ t)
