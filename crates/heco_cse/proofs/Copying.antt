-- Copying the nodes that are marked.
use Rattle.std.proofs.Common.{◌≡◌, ℕ, zero, suc, ◌+◌, ◌<◌, List, [], ◌∷◌, ◌++◌, length, map, take, refl, ap, sym, ◌∙◌, arith, Bool, true, get_or, length-append, inl, inr}
use Rattle.std.specs.Prelude.{Some, slice_get, Contains}
use Rattle.std.proofs.lemmas.List.{get_or_append_left, map-append, length-map, take_more}
use Rattle.std.proofs.lemmas.List.Elements.{Contains-append_cases, Contains-get_or}
use Rattle.std.proofs.Math.Seq.{get_or-append_seam}
use native.Mathlib.Decide.{dec_lt}
use Rattle.heco_ir.specs.declared.dialect.NodeId.{NodeId}
use Rattle.heco_ir.specs.declared.vector.VNode.{VNode}
use Rattle.heco_ir.specs.declared.vector.VNode.TheVariants.{Input}
use Rattle.heco_ir.specs.Values.{all_below, all_earlier, numbers, renamed}
use Rattle.heco_ir.specs.Vectors.{vector_operands}
use Rattle.heco_ir.proofs.Built.{slice_get_below}
use Rattle.heco_ir.specs.Ranges.{gates_of_nodes}
use Rattle.heco_ir.proofs.Extended.{gates_of_nodes-append, all_fit-append}
use Rattle.heco_ir.proofs.Earlier.{earlier_append}
use Rattle.heco_ir.proofs.Means.{earlier_at, length-numbers, numbers-append}
use Rattle.heco_cse.specs.Dead.{at_id, over_ids, nodes_at, Marks, Copies, KeepsUsed}
use Rattle.heco_cse.proofs.Rising.{rising_push}
use Rattle.heco_cse.proofs.OverIds.{one_id, at_id-number, operands_over, over_back, all_over_more, below_each, contains_map, contains_below, map_back, node_gates-over, fits-over, fit-parts}
use Rattle.heco_cse.proofs.UsedMarks.{marked_used}

pub copies_start : (old : List VNode) (marks : List Bool) → Copies old marks 0 [] []
copies_start old marks = record {
  kept = [];
  count = refl;
  rising = refl;
  marked = λ j c. absurd (omega (arith, c.1));
  placed = λ j l m. absurd (omega arith);
  nodes_are = refl;
  earlier = refl;
  few = omega arith;
  gates = omega arith;
  fit = λ slots modulus es h. h;
}

pub kept_length : {old : List VNode} {marks : List Bool} {i : ℕ} {new : List VNode} {ids : List NodeId} → (c : Copies old marks i new ids) → length c.kept ≡ length new
kept_length {old} {marks} {i} {new} {ids} c = sym (length-map c.kept _) ∙ sym (ap length c.nodes_are) ∙ length-map new _

-- the operands of a node at i are below i
pub operands_at : (old : List VNode) (i : ℕ) (n : VNode) → all_earlier vector_operands 0 old ≡ true → slice_get old i ≡ Some n → all_below i (vector_operands n) ≡ true
operands_at old i n earlier g =
    let (l, t) = slice_get_below old i n n g in
    let z : 0 + i ≡ i = omega arith in
    rw (z, t) at (earlier_at vector_operands 0 i old n earlier l)

taken : (old : List VNode) (i : ℕ) (n : VNode) → slice_get old i ≡ Some n → take (i + 1) old ≡ take i old ++ n ∷ []
taken old i n g = let (l, t) = slice_get_below old i n n g in take_more old i n l ∙ ap (λ x. take i old ++ x ∷ []) t

-- a node that is not marked is left out
pub copies_skip : {old : List VNode} {marks : List Bool} {i : ℕ} {new : List VNode} {ids ids2 : List NodeId} (d : NodeId) (n : VNode)
    → Copies old marks i new ids → slice_get old i ≡ Some n → (slice_get marks i ≡ Some true → ⊥) → ids2 ≡ ids ++ d ∷ [] → Copies old marks (i + 1) new ids2
copies_skip {old} {marks} {i} {new} {ids} {ids2} d n c g unmarked e = record {
  kept = c.kept;
  count = omega (arith, ap length e, length-append ids (d ∷ []), c.count);
  rising = c.rising;
  marked = λ j h. let m = c.marked j h in (omega (arith, m.0), m.1);
  placed = λ j l m.
      elim (dec_lt j i) [
        | Prim.yes lt ↦
            let same : get_or (numbers ids2) j 0 ≡ get_or (numbers ids) j 0 =
            ap (λ k. get_or (numbers k) j 0) e ∙ ap (λ k. get_or k j 0) (numbers-append ids d) ∙ get_or_append_left (numbers ids) (d.0 ∷ []) 0 j (omega (arith, length-numbers ids, c.count)) in
            rw same (c.placed j lt m)
        | Prim.no ge ↦ let here : j ≡ i = omega arith in absurd (unmarked (rw here at m))
      ];
  nodes_are = c.nodes_are;
  earlier = c.earlier;
  few = omega (arith, c.few);
  gates = omega (arith, c.gates, ap gates_of_nodes (taken old i n g), gates_of_nodes-append (take i old) (n ∷ []));
  fit = λ slots modulus es h. c.fit slots modulus es (fit-parts slots modulus es (take i old) n (rw (taken old i n g) at h)).0;
}

module _ {old : List VNode} {roots : List ℕ} {marks : List Bool} {i : ℕ} {new : List VNode} {ids : List NodeId} (n : VNode)
    (c : Copies old marks i new ids) (m : Marks old roots 0 marks) (earlier : all_earlier vector_operands 0 old ≡ true) (g : slice_get old i ≡ Some n) (here : slice_get marks i ≡ Some true) where
  operand_placed : (o : ℕ) → Contains (vector_operands n) o → (o < i) × (get_or (numbers ids) o 0 < length c.kept) × (get_or (numbers c.kept) (get_or (numbers ids) o 0) 0 ≡ o)
  operand_placed o h =
      let l : o < i = contains_below i (vector_operands n) o (operands_at old i n earlier g) h in
      let p = c.placed o l (m.closed i o n (omega arith) g here h) in
      (l, p.0, p.1)

  -- the copy is over nodes that are copied
  pub copy_below : all_below (length new) (vector_operands (over_ids ids n)) ≡ true
  copy_below =
      let b : all_below (length ids) (vector_operands n) ≡ true = rw c.count (operands_at old i n earlier g) in
      rw (operands_over ids n b) (below_each (length new) (renamed ids (vector_operands n)) (λ o h.
      let (x, k, e) = contains_map (λ p. get_or (numbers ids) p 0) (vector_operands n) o h in
      let p = operand_placed x k in
      omega (arith, p.1, e, kept_length c)))

  copy_back : (d : NodeId) → over_ids (c.kept ++ d ∷ []) (over_ids ids n) ≡ n
  copy_back d = over_back (c.kept ++ d ∷ []) ids n (λ v h.
      let p = operand_placed v.0 h in
      let u : (at_id ids v).0 ≡ get_or (numbers ids) v.0 0 = at_id-number ids v (omega (arith, p.0, c.count)) in
      let lu : (at_id ids v).0 < length c.kept = omega (arith, p.1, u) in
      one_id (at_id (c.kept ++ d ∷ []) (at_id ids v)) v
      (ap (λ k. k.0) (get_or_append_left c.kept (d ∷ []) (at_id ids v) (at_id ids v).0 lu)
      ∙ at_id-number c.kept (at_id ids v) lu
      ∙ ap (λ k. get_or (numbers c.kept) k 0) u
      ∙ p.2))

  pub copies_next : {new2 : List VNode} {ids2 : List NodeId} {d : NodeId} → d.0 ≡ length new → new2 ≡ new ++ over_ids ids n ∷ [] → ids2 ≡ ids ++ d ∷ [] → Copies old marks (i + 1) new2 ids2
  copies_next {new2} {ids2} {d} ed en ei =
      let at : NodeId = record { 0 = i } in
      let long : length c.kept ≡ length new = kept_length c in
      let longer : length (c.kept ++ at ∷ []) ≡ length c.kept + 1 = length-append c.kept (at ∷ []) in
      let (lo, there) = slice_get_below old i n (Input 0) g in
      record {
        kept = c.kept ++ at ∷ [];
        count = omega (arith, ap length ei, length-append ids (d ∷ []), c.count);
        rising = rw (numbers-append c.kept at) (rising_push (numbers c.kept) i c.rising (λ k l. (c.marked (get_or (numbers c.kept) k 0) (Contains-get_or (numbers c.kept) k 0 l)).0));
        marked = λ j h.
            elim (Contains-append_cases (numbers c.kept) (i ∷ []) j (rw (numbers-append c.kept at) at h)) [
              | inl a ↦ let k = c.marked j a in (omega (arith, k.0), k.1)
              | inr b ↦ let same : j ≡ i = one_of i j b in (omega arith, rw same here)
            ];
        placed = λ j l k.
            elim (dec_lt j i) [
              | Prim.yes lt ↦
                  let same : get_or (numbers ids2) j 0 ≡ get_or (numbers ids) j 0 =
                  ap (λ x. get_or (numbers x) j 0) ei ∙ ap (λ x. get_or x j 0) (numbers-append ids d) ∙ get_or_append_left (numbers ids) (d.0 ∷ []) 0 j (omega (arith, length-numbers ids, c.count)) in
                  let p = c.placed j lt k in
                  let q : get_or (numbers (c.kept ++ at ∷ [])) (get_or (numbers ids) j 0) 0 ≡ j =
                  ap (λ x. get_or x (get_or (numbers ids) j 0) 0) (numbers-append c.kept at) ∙ get_or_append_left (numbers c.kept) (i ∷ []) 0 (get_or (numbers ids) j 0) (omega (arith, p.0, length-numbers c.kept)) ∙ p.1 in
                  rw same (omega (arith, p.0, longer), q)
              | Prim.no ge ↦
                  let same : j ≡ i = omega arith in
                  let f : get_or (numbers ids2) j 0 ≡ d.0 =
                  ap (λ x. get_or (numbers x) j 0) ei ∙ ap (λ x. get_or x j 0) (numbers-append ids d) ∙ ap (λ x. get_or (numbers ids ++ d.0 ∷ []) x 0) (same ∙ sym c.count ∙ sym (length-numbers ids)) ∙ get_or-append_seam (numbers ids) d.0 [] 0 in
                  let q : get_or (numbers (c.kept ++ at ∷ [])) d.0 0 ≡ j =
                  ap (λ x. get_or x d.0 0) (numbers-append c.kept at) ∙ ap (λ x. get_or (numbers c.kept ++ i ∷ []) x 0) (ed ∙ sym long ∙ sym (length-numbers c.kept)) ∙ get_or-append_seam (numbers c.kept) i [] 0 ∙ sym same in
                  rw f (omega (arith, ed, long, longer), q)
            ];
        nodes_are =
            ap (map (over_ids (c.kept ++ at ∷ []))) en
            ∙ map-append (over_ids (c.kept ++ at ∷ [])) new (over_ids ids n ∷ [])
            ∙ ap (λ x. x ++ over_ids (c.kept ++ at ∷ []) (over_ids ids n) ∷ []) (all_over_more c.kept at 0 new c.earlier (omega arith) ∙ c.nodes_are)
            ∙ ap (λ x. nodes_at old c.kept ++ x ∷ []) (copy_back at ∙ sym there)
            ∙ sym (map-append (λ k. get_or old k.0 (Input 0)) c.kept (at ∷ []));
        earlier = rw en (earlier_append vector_operands 0 new (over_ids ids n) c.earlier (let z : 0 + length new ≡ length new = omega arith in rw z copy_below));
        few = omega (arith, ap length en, length-append new (over_ids ids n ∷ []), c.few);
        gates = omega (arith, c.gates, ap gates_of_nodes (taken old i n g), gates_of_nodes-append (take i old) (n ∷ []), ap gates_of_nodes en, gates_of_nodes-append new (over_ids ids n ∷ []), node_gates-over ids n);
        fit = λ slots modulus es h.
            let parts = fit-parts slots modulus es (take i old) n (rw (taken old i n g) at h) in
            rw en (all_fit-append slots modulus es new (over_ids ids n) (c.fit slots modulus es parts.0) (fits-over slots modulus es ids n parts.1));
      }
    where
      one_of : (x y : ℕ) → Contains (x ∷ []) y → y ≡ x
      one_of x y (zero, l, e) = sym e
      one_of x y (suc k, l, e) = absurd (omega arith)

-- in the end what roots use is kept
pub copies_all : {old : List VNode} {roots : List ℕ} {marks : List Bool} {i : ℕ} {new : List VNode} {ids : List NodeId} (new_roots : List ℕ)
    → Copies old marks i new ids → Marks old roots 0 marks → i ≡ length old → new_roots ≡ renamed ids roots → KeepsUsed old roots new new_roots
copies_all {old} {roots} {marks} {i} {new} {ids} new_roots c m e er =
    let place : (j : ℕ) → slice_get marks j ≡ Some true → (get_or (numbers ids) j 0 < length c.kept) × (get_or (numbers c.kept) (get_or (numbers ids) j 0) 0 ≡ j) =
    λ j h. let (l, t) = slice_get_below marks j true true h in c.placed j (omega (arith, l, m.count, e)) h in
    record {
      kept = c.kept;
      rising = c.rising;
      used = λ j. (
        λ h. m.sound j (c.marked j h).1,
        λ u. let p = place j (marked_used old roots m j u) in (get_or (numbers ids) j 0, omega (arith, p.0, length-numbers c.kept), other (numbers c.kept) (get_or (numbers ids) j 0) j (omega (arith, p.0, length-numbers c.kept)) ∙ p.1),
      );
      nodes_are = c.nodes_are;
      roots_are = ap (renamed c.kept) er ∙ map_back (λ o. get_or (numbers c.kept) o 0) (λ o. get_or (numbers ids) o 0) roots (λ r h. (place r (m.at_roots r h)).1);
    }
  where
    other : (os : List ℕ) (k d : ℕ) → k < length os → get_or os k d ≡ get_or os k 0
    other [] k d l = elim l [ ]
    other (x ∷ os) zero d l = refl
    other (x ∷ os) (suc k) d l = other os k d (omega arith)

-- a root is at a new node
pub root_placed : {old : List VNode} {roots : List ℕ} {marks : List Bool} {i : ℕ} {new : List VNode} {ids : List NodeId}
    → Copies old marks i new ids → Marks old roots 0 marks → i ≡ length old → all_below (length new) (renamed ids roots) ≡ true
root_placed {old} {roots} {marks} {i} {new} {ids} c m e =
    below_each (length new) (renamed ids roots) (λ o h.
    let (r, k, f) = contains_map (λ x. get_or (numbers ids) x 0) roots o h in
    let (l, t) = slice_get_below marks r true true (m.at_roots r k) in
    let p = c.placed r (omega (arith, l, m.count, e)) (m.at_roots r k) in
    omega (arith, p.0, f, kept_length c))
