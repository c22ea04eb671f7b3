-- What is found of a list's elements that are numbered in a row.
use Rattle.std.proofs.Common.{◌≡◌, ℕ, zero, suc, ◌+◌, ◌-◌, ◌<◌, ◌≤◌, List, [], ◌∷◌, ◌++◌, length, map, refl, ap, sym, ◌∙◌, arith, Bool, true, false, ◌||◌, cond, ltb, get_or, take}
use Rattle.std.specs.Prelude.{Option, Some, None, slice_get, slice_index, filter_map, flat_map}
use Rattle.std.specs.List.{list_any, enumerate_from, cons_option}
use Rattle.std.proofs.lemmas.Bool.{lt-ltb, le-ltb, ltb-false}
use Rattle.heco_circuit.specs.declared.gate.Gate.{Gate}
use Rattle.heco_rewrites.specs.Wires.{maker}

-- ---- an element at its place
pub get-length : {X : Type 0} (xs : List X) (k : ℕ) (x : X) → slice_get xs k ≡ Some x → k < length xs
get-length [] k x e = absurd cc
get-length (y ∷ xs) zero x e = omega arith
get-length (y ∷ xs) (suc k) x e = let l = get-length xs k x e in omega (arith, l)

pub get_is : {X : Type 0} (xs : List X) (k : ℕ) → k < length xs → (x : X) × (slice_get xs k ≡ Some x)
get_is [] k l = absurd (omega (arith, l))
get_is (x ∷ xs) zero l = (x, refl)
get_is (x ∷ xs) (suc k) l = get_is xs k (omega (arith, l))

pub get_left : {X : Type 0} (xs ys : List X) (k : ℕ) (x : X) → slice_get xs k ≡ Some x → slice_get (xs ++ ys) k ≡ Some x
get_left [] ys k x e = absurd cc
get_left (z ∷ xs) ys zero x e = e
get_left (z ∷ xs) ys (suc k) x e = get_left xs ys k x e

pub get_right : {X : Type 0} (xs ys : List X) (k : ℕ) (x : X) → slice_get ys k ≡ Some x → slice_get (xs ++ ys) (length xs + k) ≡ Some x
get_right [] ys k x e = let z : 0 + k ≡ k = omega arith in rw z e
get_right (z ∷ xs) ys k x e = let s : suc (length xs) + k ≡ suc (length xs + k) = omega arith in rw s (get_right xs ys k x e)

pub get_flat : {X Y : Type 0} (f : X → List Y) (xs : List X) (i j : ℕ) (x : X) (y : Y) → slice_get xs i ≡ Some x → slice_get (f x) j ≡ Some y → (k : ℕ) × (slice_get (flat_map f xs) k ≡ Some y)
get_flat f [] i j x y e h = absurd cc
get_flat f (z ∷ xs) zero j x y e h = let q : z ≡ x = (let s : Some z ≡ Some x = e in cc) in (j, get_left (f z) (flat_map f xs) j y (rw q h))
get_flat f (z ∷ xs) (suc i) j x y e h = let r = get_flat f xs i j x y e h in (length (f z) + r.0, get_right (f z) (flat_map f xs) r.0 y r.1)

-- ---- tests of a list
pub any_there : {X : Type 0} (test : X → Bool) (xs : List X) (k : ℕ) (x : X) → slice_get xs k ≡ Some x → test x ≡ true → list_any test xs ≡ true
any_there test [] k x e h = absurd cc
any_there test (y ∷ xs) zero x e h = let q : y ≡ x = (let s : Some y ≡ Some x = e in cc) in rw (q, h) refl
any_there test (y ∷ xs) (suc k) x e h = or_right (test y) (list_any test xs) (any_there test xs k x e h)
  where
    or_right : (b c : Bool) → c ≡ true → (b || c) ≡ true
    or_right true c h = refl
    or_right false c h = h

pub any_found : {X : Type 0} (test : X → Bool) (xs : List X) → list_any test xs ≡ true → (k : ℕ) × (x : X) × (slice_get xs k ≡ Some x) × (test x ≡ true)
any_found test [] h = absurd cc
any_found {X = X} test (y ∷ xs) h = by_test (test y) refl h (any_found test xs)
  where
    by_test : (b : Bool) → test y ≡ b → (b || list_any test xs) ≡ true → (list_any test xs ≡ true → (k : ℕ) × (x : X) × (slice_get xs k ≡ Some x) × (test x ≡ true)) → (k : ℕ) × (x : X) × (slice_get (y ∷ xs) k ≡ Some x) × (test x ≡ true)
    by_test true t h f = (0, y, refl, t)
    by_test false t h f = let r = f h in (suc r.0, r.1, r.2, r.3)

-- ---- the gate that makes a wire
pub maker_at : (count : ℕ) (gates : List Gate) (k : ℕ) → maker count gates (count + k) ≡ slice_get gates k
maker_at count gates k =
    let f : ltb (count + k) count ≡ false = le-ltb (count + k) count (omega arith) in
    let s : count + k - count ≡ k = omega arith in
    rw (f, s) refl

pub maker_is : (count : ℕ) (gates : List Gate) (a : ℕ) (g : Gate) → maker count gates a ≡ Some g → (k : ℕ) × (a ≡ count + k) × (slice_get gates k ≡ Some g)
maker_is count gates a g e = by_test (ltb a count) refl e
  where
    by_test : (b : Bool) → ltb a count ≡ b → cond b None (slice_get gates (a - count)) ≡ Some g → (k : ℕ) × (a ≡ count + k) × (slice_get gates k ≡ Some g)
    by_test true t e = absurd cc
    by_test false t e = let ge : count ≤ a = ltb-false a count t in (a - count, omega (arith, ge), e)

pub maker_input : (count : ℕ) (gates : List Gate) (a : ℕ) → a < count → maker count gates a ≡ None
maker_input count gates a l = rw (lt-ltb a count l) refl

-- ---- what a function of the number and the element gives
pub found : {X Y : Type 0} (h : ℕ × X → Option Y) (u : ℕ) (xs : List X) (i : ℕ) (y : Y) → slice_get (filter_map h (enumerate_from u xs)) i ≡ Some y → (k : ℕ) × (x : X) × (slice_get xs k ≡ Some x) × (h (u + k, x) ≡ Some y)
found h u [] i y e = absurd cc
found {X = X} {Y = Y} h u (x ∷ xs) i y e = by_answer (h (u, x)) refl i e (λ j q. later (found h (u + 1) xs j y q))
  where
    later : (k : ℕ) × (z : X) × (slice_get xs k ≡ Some z) × (h (u + 1 + k, z) ≡ Some y) → (k : ℕ) × (z : X) × (slice_get (x ∷ xs) k ≡ Some z) × (h (u + k, z) ≡ Some y)
    later r = let s : u + suc r.0 ≡ u + 1 + r.0 = omega arith in (suc r.0, r.1, r.2, rw s (r.3))

    by_answer : (o : Option Y) → h (u, x) ≡ o → (i : ℕ) → slice_get (cons_option o (filter_map h (enumerate_from (u + 1) xs))) i ≡ Some y
        → ((j : ℕ) → slice_get (filter_map h (enumerate_from (u + 1) xs)) j ≡ Some y → (k : ℕ) × (z : X) × (slice_get (x ∷ xs) k ≡ Some z) × (h (u + k, z) ≡ Some y))
        → (k : ℕ) × (z : X) × (slice_get (x ∷ xs) k ≡ Some z) × (h (u + k, z) ≡ Some y)
    by_answer None q i e f = f i e
    by_answer (Some w) q zero e f = let s : u + 0 ≡ u = omega arith in (0, x, refl, rw s (q ∙ e))
    by_answer (Some w) q (suc i) e f = f i e

pub there : {X Y : Type 0} (h : ℕ × X → Option Y) (u : ℕ) (xs : List X) (k : ℕ) (x : X) (y : Y) → slice_get xs k ≡ Some x → h (u + k, x) ≡ Some y → (i : ℕ) × (slice_get (filter_map h (enumerate_from u xs)) i ≡ Some y)
there h u [] k x y e q = absurd cc
there h u (z ∷ xs) zero x y e q =
    let s : u + 0 ≡ u = omega arith in
    let w : z ≡ x = (let r : Some z ≡ Some x = e in cc) in
    let a : h (u, z) ≡ Some y = ap (λ v. h (u, v)) w ∙ (rw s at q) in
    (0, ap (λ o. slice_get (cons_option o (filter_map h (enumerate_from (u + 1) xs))) 0) a)
there {Y = Y} h u (z ∷ xs) (suc k) x y e q = by_answer (h (u, z)) (there h (u + 1) xs k x y e (let s : u + suc k ≡ u + 1 + k = omega arith in rw s at q))
  where
    by_answer : (o : Option Y) → (i : ℕ) × (slice_get (filter_map h (enumerate_from (u + 1) xs)) i ≡ Some y) → (i : ℕ) × (slice_get (cons_option o (filter_map h (enumerate_from (u + 1) xs))) i ≡ Some y)
    by_answer None r = r
    by_answer (Some w) r = (suc r.0, r.1)

-- the first has the least number
pub first_least : {X Y : Type 0} (h : ℕ × X → Option Y) (own : Y → ℕ) → ((n : ℕ) (x : X) (y : Y) → h (n, x) ≡ Some y → own y ≡ n) → (u : ℕ) (xs : List X) (i : ℕ) (y : Y) → slice_get (filter_map h (enumerate_from u xs)) i ≡ Some y
    → slice_index (map own (filter_map h (enumerate_from u xs))) 0 ≤ own y
first_least h own is u [] i y e = absurd cc
first_least {Y = Y} h own is u (x ∷ xs) i y e = by_answer (h (u, x)) refl i e (λ j q. first_least h own is (u + 1) xs j y q)
  where
    by_answer : (o : Option Y) → h (u, x) ≡ o → (i : ℕ) → slice_get (cons_option o (filter_map h (enumerate_from (u + 1) xs))) i ≡ Some y
        → ((j : ℕ) → slice_get (filter_map h (enumerate_from (u + 1) xs)) j ≡ Some y → slice_index (map own (filter_map h (enumerate_from (u + 1) xs))) 0 ≤ own y)
        → slice_index (map own (cons_option o (filter_map h (enumerate_from (u + 1) xs)))) 0 ≤ own y
    by_answer None q i e f = f i e
    by_answer (Some w) q zero e f = let s : w ≡ y = (let r : Some w ≡ Some y = e in cc) in rw s (omega arith)
    by_answer (Some w) q (suc i) e f =
        let r = found h (u + 1) xs i y e in
        let a = is u x w q in
        let b = is (u + 1 + r.0) r.1 y r.3 in omega (arith, a, b)

-- one element more
pub numbered_more : {X Y : Type 0} (h : ℕ × X → Option Y) (n : ℕ) (xs : List X) (i : ℕ) (d : X) → i < length xs
    → filter_map h (enumerate_from n (take (i + 1) xs)) ≡ filter_map h (enumerate_from n (take i xs)) ++ cons_option (h (n + i, get_or xs i d)) []
numbered_more h n [] i d l = absurd (omega (arith, l))
numbered_more h n (x ∷ xs) zero d l = let z : n + 0 ≡ n = omega arith in ap (λ k. cons_option (h (k, x)) []) (sym z)
numbered_more {Y = Y} h n (x ∷ xs) (suc i) d l =
    let s : suc i + 1 ≡ suc (i + 1) = omega arith in
    let k : n + 1 + i ≡ n + suc i = omega arith in
    let r = numbered_more h (n + 1) xs i d (omega (arith, l)) in
    ap (λ m. filter_map h (enumerate_from n (take m (x ∷ xs)))) s
    ∙ ap (cons_option (h (n, x))) (r ∙ ap (λ m. filter_map h (enumerate_from (n + 1) (take i xs)) ++ cons_option (h (m, get_or xs i d)) []) k)
    ∙ moved (h (n, x)) (filter_map h (enumerate_from (n + 1) (take i xs))) (cons_option (h (n + suc i, get_or xs i d)) [])
  where
    moved : (o : Option Y) (ys zs : List Y) → cons_option o (ys ++ zs) ≡ cons_option o ys ++ zs
    moved None ys zs = refl
    moved (Some y) ys zs = refl
