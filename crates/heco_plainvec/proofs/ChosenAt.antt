-- Which wires are chosen, wire by wire.
use Rattle.std.proofs.Common.{◌≡◌, ℕ, zero, suc, ◌+◌, ◌-◌, ◌<◌, ◌≤◌, List, [], ◌∷◌, ◌++◌, length, map, take, refl, ap, sym, ◌∙◌, arith, Bool, true, false, ◌&&◌, ◌||◌, not, cond, eqb, ltb, inl, inr, length-append}
use Rattle.std.specs.Prelude.{Option, Some, None, filter}
use Rattle.std.specs.List.{range_with_len, position_or_len, cons_option}
use Rattle.std.specs.Option.{option_map}
use Rattle.std.proofs.lemmas.Bool.{eq-eqb, ne_eqb, ltb-true, lt-ltb, le-ltb, cases_lt}
use Rattle.std.proofs.lemmas.List.{length-take, length-map, map-append}
use Rattle.std.proofs.lemmas.List.Elements.{filter-append}
use Rattle.heco_thrift.specs.Thrift.{bounds_of}
use Rattle.std.specs.Prelude.{slice_index}
use Rattle.heco_nums.specs.Runs.{along}
use Rattle.heco_circuit.specs.declared.gate.Gate.{Gate}
use Rattle.heco_circuit.specs.Bounds.{bound_of, with_bound, weights_of, fresh_bounds}
use Rattle.heco_circuit.specs.Plans.{Plan}
use Rattle.heco_circuit.proofs.Lengths.{length-fresh_bounds}
use Rattle.heco_rewrites.specs.Needed.{has}
use Rattle.heco_plainvec.specs.declared.multiple.Asked.{Asked}
use Rattle.heco_plainvec.specs.declared.multiple.Multiple.{Multiple}
use Rattle.heco_plainvec.specs.Gathering.{multiples, asked, vector, serves, chosen, most_vectors}
use Rattle.heco_plainvec.specs.Gathered.{first_multiple, vector_number}
use Rattle.heco_plainvec.specs.inside.Finding.{product_by, where_room, numbered_product, product_at}
use Rattle.heco_plainvec.proofs.Leaders.{chosen_serves}

-- the wires below a for which a product serves, and those of them that are chosen
abbrev pub served_below : Plan → ℕ → List ℕ
served_below c a = filter (serves c) (range_with_len 0 a)

abbrev pub room : Plan → ℕ
room c = most_vectors - length c.vectors

abbrev pub chosen_below : Plan → ℕ → List ℕ
chosen_below c a = take (room c) (served_below c a)

-- ---- ranges
split : (a n m : ℕ) → range_with_len a (n + m) ≡ range_with_len a n ++ range_with_len (a + n) m
split a zero m = let z : 0 + m ≡ m = omega arith in let y : a + 0 ≡ a = omega arith in ap (range_with_len a) z ∙ ap (λ k. range_with_len k m) (sym y)
split a (suc n) m =
    let s : suc n + m ≡ suc (n + m) = omega arith in
    let t : a + 1 + n ≡ a + suc n = omega arith in
    ap (range_with_len a) s ∙ ap (λ xs. a ∷ xs) (split (a + 1) n m ∙ ap (λ k. range_with_len (a + 1) n ++ range_with_len k m) t)

none_in : (a n x : ℕ) → a + n ≤ x → has (range_with_len a n) x ≡ false
none_in a zero x l = refl
none_in a (suc n) x l = ap (λ b. b || has (range_with_len (a + 1) n) x) (ne_eqb a x (λ q. omega (arith, q, l))) ∙ none_in (a + 1) n x (omega (arith, l))

none_of : (test : ℕ → Bool) (xs : List ℕ) (x : ℕ) → has xs x ≡ false → has (filter test xs) x ≡ false
none_of test [] x h = refl
none_of test (y ∷ xs) x h = by_test (eqb y x) refl h (none_of test xs x)
  where
    here : (b : Bool) → eqb y x ≡ false → has (filter test xs) x ≡ false → has (cond b (y ∷ filter test xs) (filter test xs)) x ≡ false
    here true e g = ap (λ b. b || has (filter test xs) x) e ∙ g
    here false e g = g

    by_test : (b : Bool) → eqb y x ≡ b → (b || has xs x) ≡ false → (has xs x ≡ false → has (filter test xs) x ≡ false) → has (cond (test y) (y ∷ filter test xs) (filter test xs)) x ≡ false
    by_test true e h f = absurd cc
    by_test false e h f = here (test y) e (f h)

pub served_more : (c : Plan) (a : ℕ) → served_below c (a + 1) ≡ served_below c a ++ cond (serves c a) (a ∷ []) []
served_more c a =
    let z : 0 + a ≡ a = omega arith in
    ap (filter (serves c)) (split 0 a 1) ∙ filter-append (serves c) (range_with_len 0 a) (range_with_len (0 + a) 1)
    ∙ ap (λ k. served_below c a ++ cond (serves c k) (k ∷ []) []) z

take_one : (k : ℕ) (xs : List ℕ) (b : Bool) (x : ℕ) → take k (xs ++ cond b (x ∷ []) []) ≡ take k xs ++ cond (ltb (length xs) k && b) (x ∷ []) []
take_one zero [] true x = refl
take_one zero [] false x = refl
take_one zero (y ∷ xs) b x = ap (λ t. cond (t && b) (x ∷ []) []) (sym (le-ltb (length (y ∷ xs)) 0 (omega arith)))
take_one (suc k) [] true x = ap (λ ys. x ∷ ys) (take_none k) ∙ sym (ap (λ t. cond (t && true) (x ∷ []) []) (lt-ltb 0 (suc k) (omega arith)))
  where
    take_none : (n : ℕ) → take {A = ℕ} n [] ≡ []
    take_none zero = refl
    take_none (suc n) = refl
take_one (suc k) [] false x = sym (ap (λ t. cond (t && false) (x ∷ []) []) (lt-ltb 0 (suc k) (omega arith)))
take_one (suc k) (y ∷ xs) b x = ap (λ zs. y ∷ zs) (take_one k xs b x ∙ ap (λ t. take k xs ++ cond (t && b) (x ∷ []) []) (same (length xs) k))
  where
    same : (m n : ℕ) → ltb m n ≡ ltb (suc m) (suc n)
    same m n = elim (cases_lt m n) [
      | inl l ↦ lt-ltb m n l ∙ sym (lt-ltb (suc m) (suc n) (omega (arith, l)))
      | inr g ↦ le-ltb m n g ∙ sym (le-ltb (suc m) (suc n) (omega (arith, g)))
    ]

pub chosen_more : (c : Plan) (a : ℕ) → chosen_below c (a + 1) ≡ chosen_below c a ++ cond (ltb (length (served_below c a)) (room c) && serves c a) (a ∷ []) []
chosen_more c a = ap (take (room c)) (served_more c a) ∙ take_one (room c) (served_below c a) (serves c a) a

-- there is room for one more where fewer are served so far
pub room_is : (c : Plan) (a : ℕ) → length c.vectors ≤ 256 → ltb (length c.vectors + length (chosen_below c a)) most_vectors ≡ ltb (length (served_below c a)) (room c)
room_is c a l =
    let t = length-take (room c) (served_below c a) in
    elim (cases_lt (length (served_below c a)) (room c)) [
      | inl h ↦ lt-ltb (length c.vectors + length (chosen_below c a)) most_vectors (omega (arith, t, h, l)) ∙ sym (lt-ltb (length (served_below c a)) (room c) h)
      | inr g ↦ le-ltb (length c.vectors + length (chosen_below c a)) most_vectors (omega (arith, t, g, l)) ∙ sym (le-ltb (length (served_below c a)) (room c) g)
    ]

-- ---- one wire among the chosen
has_at : (k : ℕ) (xs ys : List ℕ) (a : ℕ) → has xs a ≡ false → has (take k (xs ++ a ∷ ys)) a ≡ ltb (length xs) k
has_at zero xs ys a h = sym (le-ltb (length xs) 0 (omega arith))
has_at (suc k) [] ys a h = ap (λ b. b || has (take k ys) a) (eqb_self a) ∙ sym (lt-ltb 0 (suc k) (omega arith))
  where
    eqb_self : (n : ℕ) → eqb n n ≡ true
    eqb_self n = eq-eqb n n refl
has_at (suc k) (x ∷ xs) ys a h = by_test (eqb x a) refl h (has_at k xs ys a)
  where
    same : (m n : ℕ) → ltb m n ≡ ltb (suc m) (suc n)
    same m n = elim (cases_lt m n) [
      | inl l ↦ lt-ltb m n l ∙ sym (lt-ltb (suc m) (suc n) (omega (arith, l)))
      | inr g ↦ le-ltb m n g ∙ sym (le-ltb (suc m) (suc n) (omega (arith, g)))
    ]

    by_test : (b : Bool) → eqb x a ≡ b → (b || has xs a) ≡ false → (has xs a ≡ false → has (take k (xs ++ a ∷ ys)) a ≡ ltb (length xs) k) → (eqb x a || has (take k (xs ++ a ∷ ys)) a) ≡ ltb (suc (length xs)) (suc k)
    by_test true e h f = absurd cc
    by_test false e h f = ap (λ b. b || has (take k (xs ++ a ∷ ys)) a) e ∙ f h ∙ same (length xs) k

place_at : (k : ℕ) (xs ys : List ℕ) (a : ℕ) → has xs a ≡ false → length xs < k → position_or_len (λ x. eqb x a) (take k (xs ++ a ∷ ys)) ≡ length xs
place_at zero xs ys a h l = absurd (omega (arith, l))
place_at (suc k) [] ys a h l = ap (λ b. cond (not b) (1 + position_or_len (λ x. eqb x a) (take k ys)) 0) (eq-eqb a a refl)
place_at (suc k) (x ∷ xs) ys a h l = by_test (eqb x a) refl h (λ g. place_at k xs ys a g (omega (arith, l)))
  where
    by_test : (b : Bool) → eqb x a ≡ b → (b || has xs a) ≡ false → (has xs a ≡ false → position_or_len (λ z. eqb z a) (take k (xs ++ a ∷ ys)) ≡ length xs)
        → cond (not (eqb x a)) (1 + position_or_len (λ z. eqb z a) (take k (xs ++ a ∷ ys))) 0 ≡ suc (length xs)
    by_test true e h f = absurd cc
    by_test false e h f = let r = f h in ap (λ b. cond (not b) (1 + position_or_len (λ z. eqb z a) (take k (xs ++ a ∷ ys))) 0) e ∙ omega (arith, r)

-- where a product serves for a, it stands behind those that are served before
chosen_is : (c : Plan) (a : ℕ) → a < length c.inputs + length c.gates → serves c a ≡ true → (ys : List ℕ) × (chosen c ≡ take (room c) (served_below c a ++ a ∷ ys))
unfolding chosen
chosen_is c a l s =
    let r : ℕ = length c.inputs + length c.gates - (a + 1) in
    let z : 0 + a ≡ a = omega arith in
    let e : length c.inputs + length c.gates ≡ a + suc r = omega (arith, l) in (
      filter (serves c) (range_with_len (0 + a + 1) r),
      ap (take (room c)) (ap (λ n. filter (serves c) (range_with_len 0 n)) e ∙ ap (filter (serves c)) (split 0 a (suc r))
          ∙ filter-append (serves c) (range_with_len 0 a) (range_with_len (0 + a) (suc r))
          ∙ ap (λ b. served_below c a ++ cond b ((0 + a) ∷ filter (serves c) (range_with_len (0 + a + 1) r)) (filter (serves c) (range_with_len (0 + a + 1) r))) (ap (serves c) z ∙ s)
          ∙ ap (λ k. served_below c a ++ k ∷ filter (serves c) (range_with_len (0 + a + 1) r)) z),
    )

not_served : (c : Plan) (a : ℕ) → serves c a ≡ false → has (chosen c) a ≡ false
not_served c a s = by_test (has (chosen c) a) refl
  where
    by_test : (b : Bool) → has (chosen c) a ≡ b → b ≡ false
    by_test true t = absurd (let z : true ≡ false = sym (chosen_serves c a t) ∙ s in cc)
    by_test false t = refl

fresh_in : (c : Plan) (a : ℕ) → has (served_below c a) a ≡ false
fresh_in c a = none_of (serves c) (range_with_len 0 a) a (none_in 0 a a (omega arith))

-- ---- the product of a wire
found_is : (c : Plan) (a : ℕ) → product_by c.preset (multiples c a) (asked c a) (slice_index (bounds_of c) a) ≡ cond (serves c a) (Some (vector c a)) None
unfolding serves
found_is c a = refl

abbrev pub found_at : Plan → ℕ → Option (List ℕ)
found_at c a = where_room (length c.vectors + length (chosen_below c a)) (product_by c.preset (multiples c a) (asked c a) (slice_index (bounds_of c) a))

pub found_where : (c : Plan) (a : ℕ) → length c.vectors ≤ 256 → found_at c a ≡ cond (ltb (length (served_below c a)) (room c) && serves c a) (Some (vector c a)) None
found_where c a l =
    ap (λ o. where_room (length c.vectors + length (chosen_below c a)) o) (found_is c a)
    ∙ ap (λ b. cond b (cond (serves c a) (Some (vector c a)) None) None) (room_is c a l)
    ∙ both (ltb (length (served_below c a)) (room c)) (serves c a)
  where
    both : (b s : Bool) → cond b (cond s (Some (vector c a)) None) None ≡ cond (b && s) (Some (vector c a)) None
    both true s = refl
    both false s = refl

pub product_found : (c : Plan) (a : ℕ) → length c.vectors ≤ 256 → a < length c.inputs + length c.gates
    → option_map (numbered_product (length c.vectors + length (chosen_below c a)) (first_multiple c a)) (found_at c a) ≡ product_at c a
product_found c a l below =
    ap (option_map (numbered_product (length c.vectors + length (chosen_below c a)) (first_multiple c a))) (found_where c a l)
    ∙ by_serves (serves c a) refl
  where
    n : ℕ
    n = length c.vectors + length (chosen_below c a)

    by_room : serves c a ≡ true → (b : Bool) → ltb (length (served_below c a)) (room c) ≡ b
        → option_map (numbered_product n (first_multiple c a)) (cond (b && true) (Some (vector c a)) None) ≡ product_at c a
    by_room s true t =
        let r = chosen_is c a below s in
        let k = ltb-true (length (served_below c a)) (room c) t in
        let h : has (chosen c) a ≡ true = ap (λ xs. has xs a) r.1 ∙ has_at (room c) (served_below c a) r.0 a (fresh_in c a) ∙ t in
        let p : position_or_len (λ x. eqb x a) (chosen c) ≡ length (served_below c a) = ap (position_or_len (λ x. eqb x a)) r.1 ∙ place_at (room c) (served_below c a) r.0 a (fresh_in c a) k in
        let m = length-take (room c) (served_below c a) in
        let e : n ≡ vector_number c a = omega (arith, p, m, k) in
        sym (ap (λ b. cond b (Some (record { vector = vector_number c a; first = first_multiple c a })) None) h ∙ ap (λ v. Some (record { vector = v; first = first_multiple c a })) (sym e))
    by_room s false t =
        let r = chosen_is c a below s in
        let h : has (chosen c) a ≡ false = ap (λ xs. has xs a) r.1 ∙ has_at (room c) (served_below c a) r.0 a (fresh_in c a) ∙ t in
        sym (ap (λ b. cond b (Some (record { vector = vector_number c a; first = first_multiple c a })) None) h)

    by_serves : (s : Bool) → serves c a ≡ s
        → option_map (numbered_product n (first_multiple c a)) (cond (ltb (length (served_below c a)) (room c) && s) (Some (vector c a)) None) ≡ product_at c a
    by_serves true s = by_room s (ltb (length (served_below c a)) (room c)) refl
    by_serves false s =
        ap (λ b. option_map (numbered_product n (first_multiple c a)) (cond b (Some (vector c a)) None)) (never (ltb (length (served_below c a)) (room c)))
        ∙ sym (ap (λ b. cond b (Some (record { vector = vector_number c a; first = first_multiple c a })) None) (not_served c a s))
      where
        never : (b : Bool) → (b && false) ≡ false
        never true = refl
        never false = refl

-- the vectors with that of the wire a
pub vectors_more : (c : Plan) (a : ℕ) → length c.vectors ≤ 256
    → (c.vectors ++ map (vector c) (chosen_below c a)) ++ cons_option (found_at c a) [] ≡ c.vectors ++ map (vector c) (chosen_below c (a + 1))
vectors_more c a l =
    ap (λ o. (c.vectors ++ map (vector c) (chosen_below c a)) ++ cons_option o []) (found_where c a l)
    ∙ joined (ltb (length (served_below c a)) (room c) && serves c a)
    ∙ sym (ap (λ xs. c.vectors ++ map (vector c) xs) (chosen_more c a))
  where
    assoc : (xs ys zs : List (List ℕ)) → (xs ++ ys) ++ zs ≡ xs ++ (ys ++ zs)
    assoc [] ys zs = refl
    assoc (x ∷ xs) ys zs = ap (λ ws. x ∷ ws) (assoc xs ys zs)

    one : (b : Bool) → cons_option (cond b (Some (vector c a)) None) [] ≡ map (vector c) (cond b (a ∷ []) [])
    one true = refl
    one false = refl

    joined : (b : Bool) → (c.vectors ++ map (vector c) (chosen_below c a)) ++ cons_option (cond b (Some (vector c a)) None) [] ≡ c.vectors ++ map (vector c) (chosen_below c a ++ cond b (a ∷ []) [])
    joined b =
        assoc c.vectors (map (vector c) (chosen_below c a)) (cons_option (cond b (Some (vector c a)) None) [])
        ∙ ap (λ ws. c.vectors ++ (map (vector c) (chosen_below c a) ++ ws)) (one b)
        ∙ ap (λ ws. c.vectors ++ ws) (sym (map-append (vector c) (chosen_below c a) (cond b (a ∷ []) [])))

pub length-vectors : (c : Plan) (a : ℕ) → length (c.vectors ++ map (vector c) (chosen_below c a)) ≡ length c.vectors + length (chosen_below c a)
length-vectors c a = let l = length-append c.vectors (map (vector c) (chosen_below c a)) in let m = length-map (chosen_below c a) (vector c) in omega (arith, l, m)

pub few_chosen : (c : Plan) (a : ℕ) → length c.vectors ≤ 256 → length c.vectors + length (chosen_below c a) ≤ 256
few_chosen c a l = let t = length-take (room c) (served_below c a) in omega (arith, t, l)

-- ---- what the lists of the wires say
pub length-bounds : (c : Plan) → length (bounds_of c) ≡ length c.inputs + length c.gates
length-bounds c = length-more (fresh_bounds c.preset c.inputs) c.gates ∙ ap (λ n. n + length c.gates) (length-fresh_bounds c.preset c.inputs)
  where
    length-more : (bounds : List ℕ) (gates : List Gate) → length (along (with_bound c.preset (weights_of c.preset c.vectors)) bounds gates) ≡ length bounds + length gates
    length-more bounds [] = omega arith
    length-more bounds (g ∷ gates) =
        let r = length-more (with_bound c.preset (weights_of c.preset c.vectors) bounds g) gates in
        let l = length-append bounds (bound_of c.preset (weights_of c.preset c.vectors) bounds g ∷ []) in
        omega (arith, r, l)

pub all_chosen : (c : Plan) (a : ℕ) → a ≡ length c.inputs + length c.gates → chosen_below c a ≡ chosen c
unfolding chosen
all_chosen c a e = ap (chosen_below c) e

pub found_from : (c : Plan) (a count id bound : ℕ) (ms : List Multiple) (asks : List Asked) → count ≡ length c.vectors + length (chosen_below c a) → id ≡ c.preset → ms ≡ multiples c a → asks ≡ asked c a → bound ≡ slice_index (bounds_of c) a
    → where_room count (product_by id ms asks bound) ≡ found_at c a
found_from c a count id bound ms asks n i m s b =
    ap (λ x. where_room x (product_by id ms asks bound)) n
    ∙ ap (where_room (length c.vectors + length (chosen_below c a)))
    (ap (λ x. product_by x ms asks bound) i ∙ ap (λ x. product_by c.preset x asks bound) m ∙ ap (λ x. product_by c.preset (multiples c a) x bound) s ∙ ap (product_by c.preset (multiples c a) (asked c a)) b)
