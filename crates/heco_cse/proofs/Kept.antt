-- What follows where the nodes that roots use are kept.
use Rattle.std.proofs.Common.{◌≡◌, ℕ, zero, suc, ◌+◌, ◌<◌, ◌≤◌, List, [], ◌∷◌, length, map, refl, ap, sym, ◌∙◌, arith, true, get_or, nat_lt}
use Rattle.std.specs.Prelude.{Some, slice_get, Contains}
use Rattle.std.proofs.lemmas.List.{length-map}
use Rattle.std.proofs.lemmas.List.Elements.{Contains-get_or}
use Rattle.std.proofs.lemmas.Option.{slice_get-get_or}
use Rattle.heco_written.specs.VectorTerm.{Input as InputTerm, Negated, Added, Multiplied, Scaled, Shifted, Turned}
use Rattle.heco_ir.specs.declared.dialect.NodeId.{NodeId}
use Rattle.heco_ir.specs.declared.vector.VNode.{VNode}
use Rattle.heco_ir.specs.declared.vector.VNode.TheVariants.{Input, Neg, Add, Mul, Scale, Shift, Turn}
use Rattle.heco_ir.specs.Values.{all_below, all_earlier, numbers, renamed}
use Rattle.heco_ir.specs.Vectors.{vector_operands}
use Rattle.heco_ir.specs.Terms.{vector_at, vector_term_over, vector_terms, terms_at}
use Rattle.heco_ir.specs.Used.{IsUsed, root, operand, EachOnce, AllUsed}
use Rattle.heco_ir.proofs.Built.{slice_get_below, right}
use Rattle.heco_ir.proofs.Means.{below_more_ids, length-numbers}
use Rattle.heco_ir.proofs.Renaming.{get_or-map-lt}
use Rattle.heco_ir.proofs.Unique.{below_one, below_two, vector_terms-at}
use Rattle.heco_cse.specs.Dead.{at_id, over_ids, nodes_at, KeepsUsed}
use Rattle.heco_cse.proofs.Rising.{rising_once}
use Rattle.heco_cse.proofs.OverIds.{at_id-number, operands_over, contains_map, contains_below}
use Rattle.heco_cse.proofs.Marking.{other_default}
use Rattle.heco_cse.proofs.Copying.{operands_at}

-- a used node is one of the nodes
used_below : (old : List VNode) (roots : List ℕ) → all_earlier vector_operands 0 old ≡ true → all_below (length old) roots ≡ true
    → (i : ℕ) → IsUsed vector_operands old roots i → i < length old
used_below old roots earlier inside i (root i2 c) = contains_below (length old) roots i2 inside c
used_below old roots earlier inside i (operand i2 j n u e c) =
    let l : i2 < j = contains_below j (vector_operands n) i2 (operands_at old j n earlier e) c in
    let k : j < length old = used_below old roots earlier inside j u in
    omega arith

module _ {old : List VNode} {roots : List ℕ} {new : List VNode} {new_roots : List ℕ} (k : KeepsUsed old roots new new_roots)
    (earlier : all_earlier vector_operands 0 old ≡ true) (inside : all_below (length old) roots ≡ true)
    (new_earlier : all_earlier vector_operands 0 new ≡ true) (new_inside : all_below (length new) new_roots ≡ true) where
  abbrev from : ℕ → ℕ
  from i = get_or (numbers k.kept) i 0

  count : length k.kept ≡ length new
  count = sym (length-map k.kept _) ∙ sym (ap length k.nodes_are) ∙ length-map new _

  from_used : (i : ℕ) → i < length new → IsUsed vector_operands old roots (from i)
  from_used i l = (k.used (from i)).0 (Contains-get_or (numbers k.kept) i 0 (omega (arith, length-numbers k.kept, count)))

  from_below : (i : ℕ) → i < length new → from i < length old
  from_below i l = used_below old roots earlier inside (from i) (from_used i l)

  from_once : (i j : ℕ) → i < length new → j < length new → from i ≡ from j → i ≡ j
  from_once i j li lj e = rising_once (numbers k.kept) i j k.rising (omega (arith, length-numbers k.kept, count)) (omega (arith, length-numbers k.kept, count)) e

  -- a new node, over the ids of the kept, is the old node
  node_from : (i : ℕ) (m : VNode) → slice_get new i ≡ Some m → (i < length new) × (slice_get old (from i) ≡ Some (over_ids k.kept m))
  node_from i m g =
      let (l, t) = slice_get_below new i m (Input 0) g in
      let a : get_or (map (over_ids k.kept) new) i (Input 0) ≡ over_ids k.kept (get_or new i (Input 0)) = get_or-map-lt (over_ids k.kept) new i (Input 0) (Input 0) l in
      let zero_id : NodeId = record { 0 = 0 } in
      let b : get_or (nodes_at old k.kept) i (Input 0) ≡ get_or old (get_or k.kept i zero_id).0 (Input 0) = get_or-map-lt (λ d. get_or old d.0 (Input 0)) k.kept i zero_id (Input 0) (omega (arith, count)) in
      let c : from i ≡ (get_or k.kept i zero_id).0 = get_or-map-lt (λ x. x.0) k.kept i zero_id 0 (omega (arith, count)) in
      let e : get_or old (from i) (Input 0) ≡ over_ids k.kept m = ap (λ x. get_or old x (Input 0)) c ∙ sym b ∙ sym (ap (λ x. get_or x i (Input 0)) k.nodes_are) ∙ a ∙ ap (over_ids k.kept) t in
      (l, slice_get-get_or old (from i) (Input 0) (from_below i l) ∙ ap Some e)

  -- no node stands twice where none did
  pub kept_once : EachOnce old → EachOnce new
  kept_once once i j m gi gj =
      let (li, a) = node_from i m gi in
      let (lj, b) = node_from j m gj in
      from_once i j li lj (once (from i) (from j) (over_ids k.kept m) a b)

  new_used : (o : ℕ) → IsUsed vector_operands old roots o → (i : ℕ) → i < length new → from i ≡ o → IsUsed vector_operands new new_roots i
  new_used o (root o2 c) i l e =
      let (r, h, f) = contains_map (λ x. get_or (numbers k.kept) x 0) new_roots o2 (rw (← k.roots_are) at c) in
      let same : r ≡ i = from_once r i (contains_below (length new) new_roots r new_inside h) l (f ∙ sym e) in
      root i (rw same at h)
  new_used o (operand o2 j n u g c) i l e =
      let (q, lq, eq) = (k.used j).1 u in
      let lq2 : q < length new = omega (arith, lq, length-numbers k.kept, count) in
      let m : VNode = get_or new q (Input 0) in
      let gm : slice_get new q ≡ Some m = slice_get-get_or new q (Input 0) lq2 in
      let at_j : from q ≡ j = other_default (numbers k.kept) q 0 j lq ∙ eq in
      let (l2, om) = node_from q m gm in
      let same_node : Some (over_ids k.kept m) ≡ Some n = sym om ∙ ap (slice_get old) at_j ∙ g in
      let over : over_ids k.kept m ≡ n = cc in
      let b : all_below q (vector_operands m) ≡ true = operands_at new q m new_earlier gm in
      let b2 : all_below (length k.kept) (vector_operands m) ≡ true = below_more_ids q (length k.kept) (vector_operands m) (omega (arith, count)) b in
      let c2 : Contains (renamed k.kept (vector_operands m)) o2 = rw (← over, operands_over k.kept m b2) at c in
      let (x, h, f) = contains_map (λ y. get_or (numbers k.kept) y 0) (vector_operands m) o2 c2 in
      let lx : x < q = contains_below q (vector_operands m) x b h in
      let same : x ≡ i = from_once x i (omega arith) l (f ∙ sym e) in
      operand i q m (new_used j u q lq2 at_j) gm (rw same at h)

  id_term : (v : NodeId) (i : ℕ) → v.0 < i → i ≤ length new → ((o : ℕ) → o < i → get_or (vector_terms new) o (InputTerm 0) ≡ get_or (vector_terms old) (from o) (InputTerm 0))
      → vector_at (vector_terms new) v ≡ vector_at (vector_terms old) (at_id k.kept v)
  id_term v i l le h = h v.0 l ∙ ap (λ x. get_or (vector_terms old) x (InputTerm 0)) (sym (at_id-number k.kept v (omega (arith, count))))

  -- a new node's term is the old node's, where those of its operands are
  term_over : (m : VNode) (i : ℕ) → all_below i (vector_operands m) ≡ true → i ≤ length new → ((o : ℕ) → o < i → get_or (vector_terms new) o (InputTerm 0) ≡ get_or (vector_terms old) (from o) (InputTerm 0))
      → vector_term_over (vector_terms new) m ≡ vector_term_over (vector_terms old) (over_ids k.kept m)
  term_over (Input a) i b le h = refl
  term_over (Neg v) i b le h = ap Negated (id_term v i (below_one i v.0 [] b) le h)
  term_over (Add v u) i b le h = ap (λ x. Added x (vector_at (vector_terms new) u)) (id_term v i (below_one i v.0 (u.0 ∷ []) b) le h) ∙ ap (Added (vector_at (vector_terms old) (at_id k.kept v))) (id_term u i (below_two i v.0 u.0 b) le h)
  term_over (Mul v u) i b le h = ap (λ x. Multiplied x (vector_at (vector_terms new) u)) (id_term v i (below_one i v.0 (u.0 ∷ []) b) le h) ∙ ap (Multiplied (vector_at (vector_terms old) (at_id k.kept v))) (id_term u i (below_two i v.0 u.0 b) le h)
  term_over (Scale c v) i b le h = ap (Scaled c) (id_term v i (below_one i v.0 [] b) le h)
  term_over (Shift c v) i b le h = ap (Shifted c) (id_term v i (below_one i v.0 [] b) le h)
  term_over (Turn r v) i b le h = ap (Turned r) (id_term v i (below_one i v.0 [] b) le h)

  term_from : (most i : ℕ) → i < most → i < length new → get_or (vector_terms new) i (InputTerm 0) ≡ get_or (vector_terms old) (from i) (InputTerm 0)
  term_from zero i lm l = absurd (omega arith)
  term_from (suc most) i lm l =
      let m : VNode = get_or new i (Input 0) in
      let gm : slice_get new i ≡ Some m = slice_get-get_or new i (Input 0) l in
      let om : slice_get old (from i) ≡ Some (over_ids k.kept m) = (node_from i m gm).1 in
      let (lo, t) = slice_get_below old (from i) (over_ids k.kept m) (Input 0) om in
      vector_terms-at new i (Input 0) new_earlier l
      ∙ term_over m i (operands_at new i m new_earlier gm) (omega arith) (λ o lt. term_from most o (omega arith) (omega arith))
      ∙ ap (vector_term_over (vector_terms old)) (sym t)
      ∙ sym (vector_terms-at old (from i) (Input 0) earlier lo)

  terms_from : (rs : List ℕ) → all_below (length new) rs ≡ true → terms_at new rs ≡ terms_at old (renamed k.kept rs)
  terms_from [] b = refl
  terms_from (r ∷ rs) b =
      let here : get_or (vector_terms new) r (InputTerm 0) ≡ get_or (vector_terms old) (from r) (InputTerm 0) = term_from (r + 1) r (omega arith) (below_one (length new) r rs b) in
      let rest : terms_at new rs ≡ terms_at old (renamed k.kept rs) = terms_from rs (right (nat_lt r (length new)) _ b) in
      rw (here, rest) refl

  -- the roots keep their terms
  pub kept_terms : terms_at new new_roots ≡ terms_at old roots
  kept_terms = terms_from new_roots new_inside ∙ ap (terms_at old) k.roots_are

  -- what is kept is used by the new roots
  pub kept_used : AllUsed vector_operands new new_roots
  kept_used i l = new_used (from i) (from_used i l) i l refl
