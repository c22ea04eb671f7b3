-- Nodes over other ids.
use Rattle.std.proofs.Common.{◌≡◌, ℕ, zero, suc, ◌+◌, ◌<◌, ◌≤◌, List, [], ◌∷◌, ◌++◌, length, map, refl, ap, sym, ◌∙◌, arith, true, get_or, nat_lt}
use Rattle.std.specs.Prelude.{Contains}
use Rattle.std.proofs.lemmas.Bool.{lt-ltb}
use Rattle.std.proofs.lemmas.List.{get_or_append_left}
use Rattle.heco_ir.specs.declared.dialect.NodeId.{NodeId}
use Rattle.heco_ir.specs.declared.scalar.SNode.{SNode}
use Rattle.heco_ir.specs.declared.vector.VNode.{VNode}
use Rattle.heco_ir.specs.declared.vector.VNode.TheVariants.{Input, Neg, Add, Mul, Scale, Shift, Turn}
use Rattle.heco_ir.specs.Values.{all_below, all_earlier, numbers, renamed}
use Rattle.heco_ir.specs.Vectors.{vector_operands}
use Rattle.heco_ir.specs.Ranges.{Fits, AllFit, node_gates}
use Rattle.heco_ir.proofs.Built.{both, left, right}
use Rattle.heco_ir.proofs.Means.{below_more_ids}
use Rattle.heco_ir.proofs.Renaming.{get_or-map-lt}
use Rattle.heco_ir.proofs.Unique.{below_one, below_two}
use Rattle.heco_cse.specs.Dead.{at_id, over_ids}

pub one_id : (v u : NodeId) → v.0 ≡ u.0 → v ≡ u
one_id v u e = ap (λ k. record { 0 = k }) e

pub at_id-number : (ids : List NodeId) (v : NodeId) → v.0 < length ids → (at_id ids v).0 ≡ get_or (numbers ids) v.0 0
at_id-number ids v l = sym (get_or-map-lt (λ x. x.0) ids v.0 v 0 l)

-- its operands are those of the node, renamed
pub operands_over : (ids : List NodeId) (n : VNode) → all_below (length ids) (vector_operands n) ≡ true → vector_operands (over_ids ids n) ≡ renamed ids (vector_operands n)
operands_over ids (Input a) b = refl
operands_over ids (Neg v) b = ap (λ x. x ∷ []) (at_id-number ids v (below_one (length ids) v.0 [] b))
operands_over ids (Add v u) b =
    ap (λ x. x ∷ (at_id ids u).0 ∷ []) (at_id-number ids v (below_one (length ids) v.0 (u.0 ∷ []) b))
    ∙ ap (λ x. get_or (numbers ids) v.0 0 ∷ x ∷ []) (at_id-number ids u (below_two (length ids) v.0 u.0 b))
operands_over ids (Mul v u) b =
    ap (λ x. x ∷ (at_id ids u).0 ∷ []) (at_id-number ids v (below_one (length ids) v.0 (u.0 ∷ []) b))
    ∙ ap (λ x. get_or (numbers ids) v.0 0 ∷ x ∷ []) (at_id-number ids u (below_two (length ids) v.0 u.0 b))
operands_over ids (Scale c v) b = ap (λ x. x ∷ []) (at_id-number ids v (below_one (length ids) v.0 [] b))
operands_over ids (Shift c v) b = ap (λ x. x ∷ []) (at_id-number ids v (below_one (length ids) v.0 [] b))
operands_over ids (Turn r v) b = ap (λ x. x ∷ []) (at_id-number ids v (below_one (length ids) v.0 [] b))

first : (x : ℕ) (xs : List ℕ) → Contains (x ∷ xs) x
first x xs = (0, omega arith, refl)

second : (x y : ℕ) → Contains (x ∷ y ∷ []) y
second x y = (1, omega arith, refl)

-- a node over ids, over ids that lead back, is the node
pub over_back : (back ids : List NodeId) (n : VNode) → ((v : NodeId) → Contains (vector_operands n) v.0 → at_id back (at_id ids v) ≡ v) → over_ids back (over_ids ids n) ≡ n
over_back back ids (Input a) h = refl
over_back back ids (Neg v) h = ap Neg (h v (first v.0 []))
over_back back ids (Add v u) h = ap (λ x. Add x (at_id back (at_id ids u))) (h v (first v.0 (u.0 ∷ []))) ∙ ap (Add v) (h u (second v.0 u.0))
over_back back ids (Mul v u) h = ap (λ x. Mul x (at_id back (at_id ids u))) (h v (first v.0 (u.0 ∷ []))) ∙ ap (Mul v) (h u (second v.0 u.0))
over_back back ids (Scale c v) h = ap (Scale c) (h v (first v.0 []))
over_back back ids (Shift c v) h = ap (Shift c) (h v (first v.0 []))
over_back back ids (Turn r v) h = ap (Turn r) (h v (first v.0 []))

-- further ids do not matter
at_id-more : (ids : List NodeId) (d v : NodeId) → v.0 < length ids → at_id (ids ++ d ∷ []) v ≡ at_id ids v
at_id-more ids d v l = get_or_append_left ids (d ∷ []) v v.0 l

over_more : (ids : List NodeId) (d : NodeId) (n : VNode) → all_below (length ids) (vector_operands n) ≡ true → over_ids (ids ++ d ∷ []) n ≡ over_ids ids n
over_more ids d (Input a) b = refl
over_more ids d (Neg v) b = ap Neg (at_id-more ids d v (below_one (length ids) v.0 [] b))
over_more ids d (Add v u) b = ap (λ x. Add x (at_id (ids ++ d ∷ []) u)) (at_id-more ids d v (below_one (length ids) v.0 (u.0 ∷ []) b)) ∙ ap (Add (at_id ids v)) (at_id-more ids d u (below_two (length ids) v.0 u.0 b))
over_more ids d (Mul v u) b = ap (λ x. Mul x (at_id (ids ++ d ∷ []) u)) (at_id-more ids d v (below_one (length ids) v.0 (u.0 ∷ []) b)) ∙ ap (Mul (at_id ids v)) (at_id-more ids d u (below_two (length ids) v.0 u.0 b))
over_more ids d (Scale c v) b = ap (Scale c) (at_id-more ids d v (below_one (length ids) v.0 [] b))
over_more ids d (Shift c v) b = ap (Shift c) (at_id-more ids d v (below_one (length ids) v.0 [] b))
over_more ids d (Turn r v) b = ap (Turn r) (at_id-more ids d v (below_one (length ids) v.0 [] b))

pub all_over_more : (ids : List NodeId) (d : NodeId) (i : ℕ) (ns : List VNode) → all_earlier vector_operands i ns ≡ true → i + length ns ≤ length ids
    → map (over_ids (ids ++ d ∷ [])) ns ≡ map (over_ids ids) ns
all_over_more ids d i [] h l = refl
all_over_more ids d i (n ∷ ns) h l =
    let here : over_ids (ids ++ d ∷ []) n ≡ over_ids ids n = over_more ids d n (below_more_ids i (length ids) (vector_operands n) (omega arith) (left _ _ h)) in
    let rest : map (over_ids (ids ++ d ∷ [])) ns ≡ map (over_ids ids) ns = all_over_more ids d (i + 1) ns (right (all_below i (vector_operands n)) _ h) (omega arith) in
    rw (here, rest) refl

pub below_each : (m : ℕ) (os : List ℕ) → ((o : ℕ) → Contains os o → o < m) → all_below m os ≡ true
below_each m [] h = refl
below_each m (o ∷ os) h = both _ _ (lt-ltb o m (h o (first o os))) (below_each m os (λ x c. h x (suc c.0, omega (arith, c.1), c.2)))

pub contains_map : {X Y : Type 0} (f : X → Y) (xs : List X) (y : Y) → Contains (map f xs) y → (x : X) × Contains xs x × (f x ≡ y)
contains_map f [] y (k, l, e) = elim l [ ]
contains_map f (x ∷ xs) y (zero, l, e) = (x, (0, omega arith, refl), e)
contains_map f (x ∷ xs) y (suc k, l, e) = let (z, c, g) = contains_map f xs y (k, omega arith, e) in (z, (suc c.0, omega (arith, c.1), c.2), g)

pub contains_below : (m : ℕ) (os : List ℕ) (o : ℕ) → all_below m os ≡ true → Contains os o → o < m
contains_below m [] o b (k, l, e) = elim l [ ]
contains_below m (x ∷ os) o b (zero, l, e) = rw (← e) (below_one m x os b)
contains_below m (x ∷ os) o b (suc k, l, e) = contains_below m os o (right (nat_lt x m) _ b) (k, omega arith, e)

pub map_back : (f g : ℕ → ℕ) (xs : List ℕ) → ((x : ℕ) → Contains xs x → f (g x) ≡ x) → map f (map g xs) ≡ xs
map_back f g [] h = refl
map_back f g (x ∷ xs) h =
    let here : f (g x) ≡ x = h x (first x xs) in
    let rest : map f (map g xs) ≡ xs = map_back f g xs (λ y c. h y (suc c.0, omega (arith, c.1), c.2)) in
    rw (here, rest) refl

-- what a node costs, and whether it fits, does not depend on its operands
pub node_gates-over : (ids : List NodeId) (n : VNode) → node_gates (over_ids ids n) ≡ node_gates n
node_gates-over ids (Input a) = refl
node_gates-over ids (Neg v) = refl
node_gates-over ids (Add v u) = refl
node_gates-over ids (Mul v u) = refl
node_gates-over ids (Scale c v) = refl
node_gates-over ids (Shift c v) = refl
node_gates-over ids (Turn r v) = refl

pub fits-over : (slots modulus : ℕ) (es : List SNode) (ids : List NodeId) (n : VNode) → Fits slots modulus es n → Fits slots modulus es (over_ids ids n)
fits-over slots modulus es ids (Input a) h = h
fits-over slots modulus es ids (Neg v) h = h
fits-over slots modulus es ids (Add v u) h = h
fits-over slots modulus es ids (Mul v u) h = h
fits-over slots modulus es ids (Scale c v) h = h
fits-over slots modulus es ids (Shift c v) h = h
fits-over slots modulus es ids (Turn r v) h = h

pub fit-parts : (slots modulus : ℕ) (es : List SNode) (ns : List VNode) (n : VNode) → AllFit slots modulus es (ns ++ n ∷ []) → AllFit slots modulus es ns × Fits slots modulus es n
fit-parts slots modulus es [] n h = (tt, h.0)
fit-parts slots modulus es (x ∷ ns) n h = let r = fit-parts slots modulus es ns n h.1 in ((h.0, r.0), r.1)
