use Rattle.std.proofs.Common.{◌≡◌, ℕ, zero, suc, ◌+◌, ◌<◌, List, [], ◌∷◌, ◌++◌, refl, arith, length, true, ap, ◌∙◌, sym, get_or, nat_lt, inl, inr}
use Rattle.std.specs.Prelude.{slice_get, Some}
use Rattle.std.proofs.lemmas.Bool.{ltb-true}
use Rattle.heco_written.specs.VectorTerm.{VectorTerm, Input, Negated, Added, Multiplied, Scaled, Shifted, Turned}
use Rattle.heco_written.specs.Cost.{subterms}
use Rattle.heco_written.proofs.Members.{Member, member-append}
use Rattle.heco_ir.specs.declared.dialect.NodeId.{NodeId}
use Rattle.heco_ir.specs.declared.vector.VNode.{VNode}
use Rattle.heco_ir.specs.declared.vector.VNode.TheVariants.{Input as InputNode, Neg, Add, Mul, Scale, Shift, Turn}
use Rattle.heco_ir.specs.Values.{all_below, all_earlier}
use Rattle.heco_ir.specs.Terms.{vector_at, vector_term_over, vector_terms}
use Rattle.heco_ir.specs.Used.{EachOnce}
use Rattle.heco_ir.specs.Vectors.{vector_operands}
use Rattle.heco_ir.proofs.Built.{built-at, left, right}
use Rattle.heco_ir.proofs.Means.{earlier_at}

pub below_one : (m x : ℕ) (xs : List ℕ) → all_below m (x ∷ xs) ≡ true → x < m
below_one m x xs h = ltb-true x m (left _ _ h)

pub below_two : (m x y : ℕ) → all_below m (x ∷ y ∷ []) ≡ true → y < m
below_two m x y h = below_one m y [] (right (nat_lt x m) _ h)

pub vector_local : (xs ys : List VectorTerm) (n : VNode) → all_below (length xs) (vector_operands n) ≡ true
    → ((k : ℕ) → k < length xs → get_or ys k (Input 0) ≡ get_or xs k (Input 0)) → vector_term_over ys n ≡ vector_term_over xs n
vector_local xs ys (InputNode a) h s = refl
vector_local xs ys (Neg v) h s = ap Negated (s v.0 (below_one (length xs) v.0 [] h))
vector_local xs ys (Add v u) h s = ap (λ x. Added x (vector_at ys u)) (s v.0 (below_one (length xs) v.0 (u.0 ∷ []) h)) ∙ ap (Added (vector_at xs v)) (s u.0 (below_two _ v.0 _ h))
vector_local xs ys (Mul v u) h s = ap (λ x. Multiplied x (vector_at ys u)) (s v.0 (below_one (length xs) v.0 (u.0 ∷ []) h)) ∙ ap (Multiplied (vector_at xs v)) (s u.0 (below_two _ v.0 _ h))
vector_local xs ys (Scale c v) h s = ap (Scaled c) (s v.0 (below_one (length xs) v.0 [] h))
vector_local xs ys (Shift c v) h s = ap (Shifted c) (s v.0 (below_one (length xs) v.0 [] h))
vector_local xs ys (Turn r v) h s = ap (Turned r) (s v.0 (below_one (length xs) v.0 [] h))

pub vector_terms-at : (ns : List VNode) (k : ℕ) (e : VNode) → all_earlier vector_operands 0 ns ≡ true → k < length ns
    → get_or (vector_terms ns) k (Input 0) ≡ vector_term_over (vector_terms ns) (get_or ns k e)
vector_terms-at ns k e = built-at vector_term_over vector_operands (Input 0) vector_local ns k e

-- the node of a term, from its outermost operation
module _ (ts : List VectorTerm) where
  pub input_node : (a : ℕ) (n : VNode) → vector_term_over ts n ≡ Input a → n ≡ InputNode a
  input_node a (InputNode b) e = cc
  input_node a n e = cc

  neg_node : (y : VectorTerm) (n : VNode) → vector_term_over ts n ≡ Negated y → (v : NodeId) × (n ≡ Neg v) × (vector_at ts v ≡ y)
  neg_node y (Neg v) e = (v, refl, cc)
  neg_node y n e = cc

  add_node : (y z : VectorTerm) (n : VNode) → vector_term_over ts n ≡ Added y z → (v u : NodeId) × (n ≡ Add v u) × (vector_at ts v ≡ y) × (vector_at ts u ≡ z)
  add_node y z (Add v u) e = (v, u, refl, cc, cc)
  add_node y z n e = cc

  mul_node : (y z : VectorTerm) (n : VNode) → vector_term_over ts n ≡ Multiplied y z → (v u : NodeId) × (n ≡ Mul v u) × (vector_at ts v ≡ y) × (vector_at ts u ≡ z)
  mul_node y z (Mul v u) e = (v, u, refl, cc, cc)
  mul_node y z n e = cc

  scale_node : (c : ℕ) (y : VectorTerm) (n : VNode) → vector_term_over ts n ≡ Scaled c y → (v : NodeId) × (n ≡ Scale c v) × (vector_at ts v ≡ y)
  scale_node c y (Scale d v) e = let same : d ≡ c = cc in (v, ap (λ k. Scale k v) same, cc)
  scale_node c y n e = cc

  shift_node : (c : ℕ) (y : VectorTerm) (n : VNode) → vector_term_over ts n ≡ Shifted c y → (v : NodeId) × (n ≡ Shift c v) × (vector_at ts v ≡ y)
  shift_node c y (Shift d v) e = let same : d ≡ c = cc in (v, ap (λ k. Shift k v) same, cc)
  shift_node c y n e = cc

  turn_node : (r : ℕ) (y : VectorTerm) (n : VNode) → vector_term_over ts n ≡ Turned r y → (v : NodeId) × (n ≡ Turn r v) × (vector_at ts v ≡ y)
  turn_node r y (Turn s v) e = let same : s ≡ r = cc in (v, ap (λ k. Turn k v) same, cc)
  turn_node r y n e = cc

same_id : (v u : NodeId) → v.0 ≡ u.0 → v ≡ u
same_id v u e = ap (λ k. record { 0 = k }) e

-- where no node stands twice, no term does
module _ (ns : List VNode) (earlier : all_earlier vector_operands 0 ns ≡ true)
    (once : EachOnce ns) where
  abbrev term : ℕ → VectorTerm
  term i = get_or (vector_terms ns) i (Input 0)

  abbrev OnePlace : VectorTerm → Type 0
  OnePlace x = (i j : ℕ) → i < length ns → j < length ns → term i ≡ x → term j ≡ x → i ≡ j

  slice_get-get_or : (xs : List VNode) (i : ℕ) (d : VNode) → i < length xs → slice_get xs i ≡ Some (get_or xs i d)
  slice_get-get_or [] i d h = elim h [ ]
  slice_get-get_or (x ∷ xs) zero d h = refl
  slice_get-get_or (x ∷ xs) (suc i) d h = slice_get-get_or xs i d (omega arith)

  place : (i j : ℕ) (n : VNode) → i < length ns → j < length ns → get_or ns i (InputNode 0) ≡ n → get_or ns j (InputNode 0) ≡ n → i ≡ j
  place i j n hi hj ei ej = once i j n (slice_get-get_or ns i (InputNode 0) hi ∙ ap Some ei) (slice_get-get_or ns j (InputNode 0) hj ∙ ap Some ej)

  abbrev node : ℕ → VNode
  node i = get_or ns i (InputNode 0)

  over : (i : ℕ) (x : VectorTerm) → i < length ns → term i ≡ x → vector_term_over (vector_terms ns) (node i) ≡ x
  over i x h e = sym (vector_terms-at ns i (InputNode 0) earlier h) ∙ e

  operands_below : (i : ℕ) (n : VNode) → i < length ns → node i ≡ n → all_below i (vector_operands n) ≡ true
  operands_below i n h e =
      let z : 0 + i ≡ i = omega arith in
      let b : all_below (0 + i) (vector_operands (node i)) ≡ true = earlier_at vector_operands 0 i ns (InputNode 0) earlier h in
      ap (λ m. all_below i (vector_operands m)) (sym e) ∙ ap (λ k. all_below k (vector_operands (node i))) (sym z) ∙ b

  -- a node of one operand is at one place if its operand is
  unary : (y : VectorTerm) (f : NodeId → VNode) → ((v : NodeId) → vector_operands (f v) ≡ v.0 ∷ []) → OnePlace y
      → (i j : ℕ) → i < length ns → j < length ns
      → (v : NodeId) × (node i ≡ f v) × (vector_at (vector_terms ns) v ≡ y)
      → (u : NodeId) × (node j ≡ f u) × (vector_at (vector_terms ns) u ≡ y) → i ≡ j
  unary y f ops one i j hi hj (v, ni, vi) (u, nj, uj) =
      let bv : v.0 < i = below_one i v.0 [] (rw (ops v) at (operands_below i (f v) hi ni)) in
      let bu : u.0 < j = below_one j u.0 [] (rw (ops u) at (operands_below j (f u) hj nj)) in
      let same : v.0 ≡ u.0 = one v.0 u.0 (omega arith) (omega arith) vi uj in
      place i j (f v) hi hj ni (nj ∙ ap f (sym (same_id v u same)))

  binary : (y z : VectorTerm) (f : NodeId → NodeId → VNode) → ((v u : NodeId) → vector_operands (f v u) ≡ v.0 ∷ u.0 ∷ []) → OnePlace y → OnePlace z
      → (i j : ℕ) → i < length ns → j < length ns
      → (v v2 : NodeId) × (node i ≡ f v v2) × (vector_at (vector_terms ns) v ≡ y) × (vector_at (vector_terms ns) v2 ≡ z)
      → (u u2 : NodeId) × (node j ≡ f u u2) × (vector_at (vector_terms ns) u ≡ y) × (vector_at (vector_terms ns) u2 ≡ z) → i ≡ j
  binary y z f ops one two i j hi hj (v, v2, ni, vi, vi2) (u, u2, nj, uj, uj2) =
      let b : all_below i (v.0 ∷ v2.0 ∷ []) ≡ true = rw (ops v v2) at (operands_below i (f v v2) hi ni) in
      let c : all_below j (u.0 ∷ u2.0 ∷ []) ≡ true = rw (ops u u2) at (operands_below j (f u u2) hj nj) in
      let bv : v.0 < i = below_one i v.0 (v2.0 ∷ []) b in
      let bv2 : v2.0 < i = below_two i v.0 v2.0 b in
      let bu : u.0 < j = below_one j u.0 (u2.0 ∷ []) c in
      let bu2 : u2.0 < j = below_two j u.0 u2.0 c in
      let same : v ≡ u = same_id v u (one v.0 u.0 (omega arith) (omega arith) vi uj) in
      let same2 : v2 ≡ u2 = same_id v2 u2 (two v2.0 u2.0 (omega arith) (omega arith) vi2 uj2) in
      place i j (f v v2) hi hj ni (nj ∙ ap (λ k. f k u2) (sym same) ∙ ap (f v) (sym same2))

  pub one_place : (x : VectorTerm) → OnePlace x
  one_place (Input a) i j hi hj ei ej =
      place i j (InputNode a) hi hj (input_node (vector_terms ns) a (node i) (over i (Input a) hi ei)) (input_node (vector_terms ns) a (node j) (over j (Input a) hj ej))
  one_place (Negated y) i j hi hj ei ej =
      unary y Neg (λ v. refl) (one_place y) i j hi hj (neg_node (vector_terms ns) y (node i) (over i (Negated y) hi ei)) (neg_node (vector_terms ns) y (node j) (over j (Negated y) hj ej))
  one_place (Added y z) i j hi hj ei ej =
      binary y z Add (λ v u. refl) (one_place y) (one_place z) i j hi hj (add_node (vector_terms ns) y z (node i) (over i (Added y z) hi ei)) (add_node (vector_terms ns) y z (node j) (over j (Added y z) hj ej))
  one_place (Multiplied y z) i j hi hj ei ej =
      binary y z Mul (λ v u. refl) (one_place y) (one_place z) i j hi hj (mul_node (vector_terms ns) y z (node i) (over i (Multiplied y z) hi ei)) (mul_node (vector_terms ns) y z (node j) (over j (Multiplied y z) hj ej))
  one_place (Scaled c y) i j hi hj ei ej =
      unary y (Scale c) (λ v. refl) (one_place y) i j hi hj (scale_node (vector_terms ns) c y (node i) (over i (Scaled c y) hi ei)) (scale_node (vector_terms ns) c y (node j) (over j (Scaled c y) hj ej))
  one_place (Shifted c y) i j hi hj ei ej =
      unary y (Shift c) (λ v. refl) (one_place y) i j hi hj (shift_node (vector_terms ns) c y (node i) (over i (Shifted c y) hi ei)) (shift_node (vector_terms ns) c y (node j) (over j (Shifted c y) hj ej))
  one_place (Turned r y) i j hi hj ei ej =
      unary y (Turn r) (λ v. refl) (one_place y) i j hi hj (turn_node (vector_terms ns) r y (node i) (over i (Turned r y) hi ei)) (turn_node (vector_terms ns) r y (node j) (over j (Turned r y) hj ej))

  abbrev IsHere : VectorTerm → Type 0
  IsHere x = (i : ℕ) × (i < length ns) × (term i ≡ x)

  -- the terms within a node's term are terms of nodes
  abbrev Covered : VectorTerm → Type 0
  Covered y = (x : VectorTerm) (i : ℕ) → i < length ns → term i ≡ y → Member x (subterms y) → IsHere x

  at_end : (x y : VectorTerm) (ws : List VectorTerm) (i : ℕ) → i < length ns → term i ≡ y → (Member x ws → IsHere x) → Member x (ws ++ y ∷ []) → IsHere x
  at_end x y ws i h e below m =
      elim (member-append x ws (y ∷ []) m) [
        | inl a ↦ below a
        | inr b ↦ elim b [ inl f ↦ (i, h, e ∙ sym f) | inr n ↦ absurd n ]
      ]

  covered_unary : (y : VectorTerm) (f : NodeId → VNode) → ((v : NodeId) → vector_operands (f v) ≡ v.0 ∷ []) → Covered y
      → (x : VectorTerm) (i : ℕ) → i < length ns → (v : NodeId) × (node i ≡ f v) × (vector_at (vector_terms ns) v ≡ y) → Member x (subterms y) → IsHere x
  covered_unary y f ops c x i h (v, ni, vi) m =
      let bv : v.0 < i = below_one i v.0 [] (rw (ops v) at (operands_below i (f v) h ni)) in
      c x v.0 (omega arith) vi m

  covered_binary : (y z : VectorTerm) (f : NodeId → NodeId → VNode) → ((v u : NodeId) → vector_operands (f v u) ≡ v.0 ∷ u.0 ∷ []) → Covered y → Covered z
      → (x : VectorTerm) (i : ℕ) → i < length ns
      → (v u : NodeId) × (node i ≡ f v u) × (vector_at (vector_terms ns) v ≡ y) × (vector_at (vector_terms ns) u ≡ z) → Member x (subterms y ++ subterms z) → IsHere x
  covered_binary y z f ops c d x i h (v, u, ni, vi, ui) m =
      let b : all_below i (v.0 ∷ u.0 ∷ []) ≡ true = rw (ops v u) at (operands_below i (f v u) h ni) in
      let bv : v.0 < i = below_one i v.0 (u.0 ∷ []) b in
      let bu : u.0 < i = below_two i v.0 u.0 b in
      elim (member-append x (subterms y) (subterms z) m) [
        | inl a ↦ c x v.0 (omega arith) vi a
        | inr k ↦ d x u.0 (omega arith) ui k
      ]

  pub covered : (y : VectorTerm) → Covered y
  covered (Input a) x i h e (inl f) = (i, h, e ∙ sym f)
  covered (Input a) x i h e (inr m) = absurd m
  covered (Negated y) x i h e m = at_end x (Negated y) (subterms y) i h e (covered_unary y Neg (λ v. refl) (covered y) x i h (neg_node (vector_terms ns) y (node i) (over i (Negated y) h e))) m
  covered (Added y z) x i h e m = at_end x (Added y z) (subterms y ++ subterms z) i h e (covered_binary y z Add (λ v u. refl) (covered y) (covered z) x i h (add_node (vector_terms ns) y z (node i) (over i (Added y z) h e))) m
  covered (Multiplied y z) x i h e m = at_end x (Multiplied y z) (subterms y ++ subterms z) i h e (covered_binary y z Mul (λ v u. refl) (covered y) (covered z) x i h (mul_node (vector_terms ns) y z (node i) (over i (Multiplied y z) h e))) m
  covered (Scaled c y) x i h e m = at_end x (Scaled c y) (subterms y) i h e (covered_unary y (Scale c) (λ v. refl) (covered y) x i h (scale_node (vector_terms ns) c y (node i) (over i (Scaled c y) h e))) m
  covered (Shifted c y) x i h e m = at_end x (Shifted c y) (subterms y) i h e (covered_unary y (Shift c) (λ v. refl) (covered y) x i h (shift_node (vector_terms ns) c y (node i) (over i (Shifted c y) h e))) m
  covered (Turned r y) x i h e m = at_end x (Turned r y) (subterms y) i h e (covered_unary y (Turn r) (λ v. refl) (covered y) x i h (turn_node (vector_terms ns) r y (node i) (over i (Turned r y) h e))) m

-- the same for a caller
pub one_node : (ns : List VNode) (i j : ℕ) → all_earlier vector_operands 0 ns ≡ true → EachOnce ns → i < length ns → j < length ns
    → get_or (vector_terms ns) i (Input 0) ≡ get_or (vector_terms ns) j (Input 0) → i ≡ j
one_node ns i j earlier once hi hj e = one_place ns earlier once (get_or (vector_terms ns) j (Input 0)) i j hi hj e refl
