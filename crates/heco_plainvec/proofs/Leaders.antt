-- The multiples of a wire, which of them go, and in whose place.
use Rattle.std.proofs.Common.{◌≡◌, ℕ, zero, suc, ◌+◌, ◌-◌, ◌<◌, ◌≤◌, List, [], ◌∷◌, length, map, refl, ap, sym, ◌∙◌, arith, Bool, true, false, ◌&&◌, ◌||◌, not, cond, leb, eqb, subst, take}
use Rattle.std.specs.Prelude.{Option, Some, None, slice_get, slice_index, Contains, filter}
use Rattle.std.specs.List.{list_any}
use Rattle.std.proofs.lemmas.Bool.{eqb-true, eq-eqb, leb-true}
use Rattle.heco_fields.proofs.Bools.{both_true}
use Rattle.heco_circuit.specs.declared.gate.Gate.{Gate}
use Rattle.heco_circuit.specs.declared.gate.Gate.TheVariants.{Scale}
use Rattle.heco_circuit.specs.Plans.{Plan}
use Rattle.heco_noise.specs.Rows.{passes}
use Rattle.heco_rewrites.specs.Wires.{operands, maker}
use Rattle.heco_rewrites.specs.Needed.{has, reads}
use Rattle.heco_rewrites.proofs.Dropping.{has_contained}
use Rattle.heco_plainvec.specs.declared.multiple.Multiple.{Multiple}
use Rattle.heco_plainvec.specs.Gathering.{cell_only, multiple_where, multiple_of, multiples, asked, agree, weighed_bound, serves, chosen, wires, most_vectors}
use Rattle.heco_plainvec.specs.Gathered.{source_where, source, wire_of_multiple, first_multiple, leader_where, leader, stays}
use Rattle.heco_plainvec.proofs.Numbered.{get_is, any_there, maker_at, maker_is, maker_input, found, there, first_least}

-- ---- one gate as a multiple
where_is : (only : Bool) (a wire : ℕ) (g : Gate) (m : Multiple) → multiple_where only a wire g ≡ Some m → (m.wire ≡ wire) × (g ≡ Scale m.by a) × (only ≡ true)
where_is only a wire (Scale k x) m e = by_test (eqb x a) only refl e
  where
    by_test : (b only : Bool) → eqb x a ≡ b → cond (b && only) (Some (record { wire = wire; by = k })) None ≡ Some m → (m.wire ≡ wire) × (Scale k x ≡ Scale m.by a) × (only ≡ true)
    by_test true true t e =
        let q : record { wire = wire; by = k } ≡ m = cc in
        let w : wire ≡ m.wire = ap (λ (z : Multiple). z.wire) q in
        let b : k ≡ m.by = ap (λ (z : Multiple). z.by) q in
        (sym w, rw (b, eqb-true x a t) refl, refl)
    by_test true false t e = absurd cc
    by_test false only t e = absurd cc
where_is only a wire g m e = absurd cc

where_has : (a wire k : ℕ) → multiple_where true a wire (Scale k a) ≡ Some (record { wire = wire; by = k })
where_has a wire k = rw (eq-eqb a a refl) refl

-- ---- the multiples of a wire
pub record IsMultiple (c : Plan) (a : ℕ) (m : Multiple) : Type 0 where
  pub place : ℕ
  pub number : m.wire ≡ length c.inputs + place
  pub gate : slice_get c.gates place ≡ Some (Scale m.by a)
  pub only : cell_only c m.wire ≡ true

pub multiple_is : (c : Plan) (a i : ℕ) (m : Multiple) → slice_get (multiples c a) i ≡ Some m → IsMultiple c a m
multiple_is c a i m e =
    let n : ℕ = length c.inputs in
    let r = found (multiple_of (cell_only c) a) n c.gates i m e in
    let w = where_is (cell_only c (n + r.0)) a (n + r.0) r.1 m r.3 in
    record { place = r.0; number = w.0; gate = rw (← (w.1)) r.2; only = rw (w.0) w.2 }

pub multiple_has : (c : Plan) (a k by : ℕ) → slice_get c.gates k ≡ Some (Scale by a) → cell_only c (length c.inputs + k) ≡ true → (i : ℕ) × (slice_get (multiples c a) i ≡ Some (record { wire = length c.inputs + k; by = by }))
multiple_has c a k by e h =
    let n : ℕ = length c.inputs in
    there (multiple_of (cell_only c) a) n c.gates k (Scale by a) (record { wire = n + k; by = by }) e (rw h (where_has a (n + k) by))

pub own_number : (only : ℕ → Bool) (a n : ℕ) (g : Gate) (m : Multiple) → multiple_of only a (n, g) ≡ Some m → m.wire ≡ n
own_number only a n g m e = (where_is (only n) a n g m e).0

pub first_is_least : (c : Plan) (a i : ℕ) (m : Multiple) → slice_get (multiples c a) i ≡ Some m → first_multiple c a ≤ m.wire
first_is_least c a i m e = first_least (multiple_of (cell_only c) a) wire_of_multiple (own_number (cell_only c) a) (length c.inputs) c.gates i m e

head_wire : (ms : List Multiple) (m : Multiple) → slice_get ms 0 ≡ Some m → slice_index (map wire_of_multiple ms) 0 ≡ m.wire
head_wire [] m e = absurd cc
head_wire (x ∷ ms) m e = let q : x ≡ m = (let s : Some x ≡ Some m = e in cc) in ap wire_of_multiple q

-- ---- which wires are chosen
has_take : (n : ℕ) (xs : List ℕ) (a : ℕ) → has (take n xs) a ≡ true → has xs a ≡ true
has_take zero xs a h = absurd cc
has_take (suc n) [] a h = absurd cc
has_take (suc n) (x ∷ xs) a h = by_test (eqb x a) h (has_take n xs a)
  where
    by_test : (b : Bool) → (b || has (take n xs) a) ≡ true → (has (take n xs) a ≡ true → has xs a ≡ true) → (b || has xs a) ≡ true
    by_test true h f = refl
    by_test false h f = f h

has_filter : (test : ℕ → Bool) (xs : List ℕ) (a : ℕ) → has (filter test xs) a ≡ true → test a ≡ true
has_filter test [] a h = absurd cc
has_filter test (x ∷ xs) a h = by_test (test x) refl h (has_filter test xs a)
  where
    here : (b : Bool) → eqb x a ≡ b → test x ≡ true → (b || has (filter test xs) a) ≡ true → (has (filter test xs) a ≡ true → test a ≡ true) → test a ≡ true
    here true q t h f = subst (λ z. test z ≡ true) (eqb-true x a q) t
    here false q t h f = f h

    by_test : (b : Bool) → test x ≡ b → has (cond b (x ∷ filter test xs) (filter test xs)) a ≡ true → (has (filter test xs) a ≡ true → test a ≡ true) → test a ≡ true
    by_test true t h f = here (eqb x a) refl t h f
    by_test false t h f = f h

pub chosen_serves : (c : Plan) (a : ℕ) → has (chosen c) a ≡ true → serves c a ≡ true
unfolding chosen
chosen_serves c a h = has_filter (serves c) (wires c) a (has_take (most_vectors - length c.vectors) (filter (serves c) (wires c)) a h)

-- at least two multiples, which agree, and their product is quiet
pub record Served (c : Plan) (a : ℕ) : Type 0 where
  pub two : 2 ≤ length (multiples c a)
  pub agreed : agree (asked c a) ≡ true
  pub quiet : passes (weighed_bound c a) ≡ false

pub served : (c : Plan) (a : ℕ) → serves c a ≡ true → Served c a
unfolding serves
served c a h =
    let u = both_true (leb 2 (length (multiples c a))) (agree (asked c a) && not (passes (weighed_bound c a))) h in
    let w = both_true (agree (asked c a)) (not (passes (weighed_bound c a))) u.1 in
    record { two = leb-true 2 (length (multiples c a)) u.0; agreed = w.0; quiet = negated (passes (weighed_bound c a)) w.1 }
  where
    negated : (b : Bool) → not b ≡ true → b ≡ false
    negated true e = absurd cc
    negated false e = refl

-- ---- where a wire's value stands
pub record IsSource (c : Plan) (wire a : ℕ) : Type 0 where
  pub place : ℕ
  pub by : ℕ
  pub number : wire ≡ length c.inputs + place
  pub gate : slice_get c.gates place ≡ Some (Scale by a)
  pub only : cell_only c wire ≡ true
  pub is_chosen : has (chosen c) a ≡ true

of_gate : (among : List ℕ) (only : Bool) (o : Option Gate) (a : ℕ) → source_where among only o ≡ Some a → (by : ℕ) × (o ≡ Some (Scale by a)) × (only ≡ true) × (has among a ≡ true)
of_gate among only (Some (Scale k x)) a e = by_test only (has among x) refl e
  where
    by_test : (only b : Bool) → has among x ≡ b → cond (only && b) (Some x) None ≡ Some a → (by : ℕ) × (Some (Scale k x) ≡ Some (Scale by a)) × (only ≡ true) × (has among a ≡ true)
    by_test true true t e = let q : x ≡ a = cc in (k, rw q refl, refl, subst (λ z. has among z ≡ true) q t)
    by_test true false t e = absurd cc
    by_test false b t e = absurd cc
of_gate among only o a e = absurd cc

pub source_is : (c : Plan) (wire a : ℕ) → source c wire ≡ Some a → IsSource c wire a
source_is c wire a e =
    let r = of_gate (chosen c) (cell_only c wire) (maker (length c.inputs) c.gates wire) a e in
    let m = maker_is (length c.inputs) c.gates wire (Scale r.0 a) r.1 in
    record { place = m.0; by = r.0; number = m.1; gate = m.2; only = r.2; is_chosen = r.3 }

pub source_has : (c : Plan) (a k by : ℕ) → slice_get c.gates k ≡ Some (Scale by a) → cell_only c (length c.inputs + k) ≡ true → has (chosen c) a ≡ true → source c (length c.inputs + k) ≡ Some a
source_has c a k by e o h =
    ap (source_where (chosen c) (cell_only c (length c.inputs + k))) (maker_at (length c.inputs) c.gates k ∙ e)
    ∙ ap (λ b. cond (b && has (chosen c) a) (Some a) None) o ∙ ap (λ b. cond b (Some a) None) h

none_read : (among : List ℕ) (o : Option Gate) → source_where among false o ≡ None
none_read among (Some (Scale k x)) = refl
none_read among o = refl

pub input_stays : (c : Plan) (a : ℕ) → a < length c.inputs → source c a ≡ None
input_stays c a l = ap (source_where (chosen c) (cell_only c a)) (maker_input (length c.inputs) c.gates a l)

-- what a gate reads does not go
pub operand_stays : (c : Plan) (k : ℕ) (g : Gate) (a : ℕ) → slice_get c.gates k ≡ Some g → Contains (operands g) a → source c a ≡ None
operand_stays c k g a e h =
    let r : list_any (λ z. reads z a) c.gates ≡ true = any_there (λ z. reads z a) c.gates k g e (has_contained (operands g) a h) in
    let f : cell_only c a ≡ false = ap not r in
    ap (λ b. source_where (chosen c) b (maker (length c.inputs) c.gates a)) f ∙ none_read (chosen c) (maker (length c.inputs) c.gates a)

pub leader_itself : (c : Plan) (wire : ℕ) → source c wire ≡ None → leader c wire ≡ wire
leader_itself c wire e = ap (leader_where c wire) e

pub leader_of : (c : Plan) (wire a : ℕ) → source c wire ≡ Some a → leader c wire ≡ first_multiple c a
leader_of c wire a e = ap (leader_where c wire) e

pub source_stays : (c : Plan) (wire : ℕ) → source c wire ≡ None → stays c wire ≡ true
source_stays c wire e = eq-eqb (leader c wire) wire (leader_itself c wire e)

-- the first multiple of a chosen wire is one of those that go, and the product stands at it
pub first_source : (c : Plan) (a : ℕ) → has (chosen c) a ≡ true → source c (first_multiple c a) ≡ Some a
first_source c a h =
    let s = served c a (chosen_serves c a h) in
    let two = s.two in
    let r = get_is (multiples c a) 0 (omega (arith, two)) in
    let m : IsMultiple c a r.0 = multiple_is c a 0 r.0 r.1 in
    let w : first_multiple c a ≡ r.0.wire = head_wire (multiples c a) r.0 r.1 in
    let q : source c (length c.inputs + m.place) ≡ Some a = source_has c a m.place r.0.by m.gate (rw (← (m.number)) (m.only)) h in
    rw (w, m.number) q

pub first_stays : (c : Plan) (a : ℕ) → has (chosen c) a ≡ true → stays c (first_multiple c a) ≡ true
first_stays c a h = eq-eqb (leader c (first_multiple c a)) (first_multiple c a) (leader_of c (first_multiple c a) a (first_source c a h))

pub first_below : (c : Plan) (wire a : ℕ) → source c wire ≡ Some a → first_multiple c a ≤ wire
first_below c wire a e =
    let s : IsSource c wire a = source_is c wire a e in
    let r = multiple_has c a s.place s.by s.gate (rw (← (s.number)) (s.only)) in
    let l = first_is_least c a r.0 (record { wire = length c.inputs + s.place; by = s.by }) r.1 in
    let n = s.number in omega (arith, l, n)

-- the place of a value's wire stays, and is no later
pub leader_below : (c : Plan) (wire : ℕ) → leader c wire ≤ wire
leader_below c wire = by_source (source c wire) refl
  where
    by_source : (o : Option ℕ) → source c wire ≡ o → leader c wire ≤ wire
    by_source None e = let q = leader_itself c wire e in omega (arith, q)
    by_source (Some a) e = let q = leader_of c wire a e in let l = first_below c wire a e in omega (arith, q, l)

pub leader_stays : (c : Plan) (wire : ℕ) → stays c (leader c wire) ≡ true
leader_stays c wire = by_source (source c wire) refl
  where
    by_source : (o : Option ℕ) → source c wire ≡ o → stays c (leader c wire) ≡ true
    by_source None e = rw (leader_itself c wire e) (source_stays c wire e)
    by_source (Some a) e = rw (leader_of c wire a e) (first_stays c a (source_is c wire a e).is_chosen)
