use Rattle.std.proofs.Common.{◌≡◌, ℕ, zero, suc, ◌+◌, ◌<◌, ◌≤◌, List, [], ◌∷◌, ◌++◌, refl, arith, length, true, ap, ◌∙◌, sym, get_or, take, length-append, nat_lt}
use Rattle.std.proofs.lemmas.Bool.{ltb-true, lt-ltb}
use Rattle.std.proofs.lemmas.List.{take_more}
use Rattle.std.proofs.Math.Seq.{take-length, get_or-append_seam}
use Rattle.std.specs.Prelude.{Result, Ok, Err, IfOk, OnOk, slice_get, Some}
use Rattle.heco_written.specs.World.{World}
use Rattle.heco_ir.specs.Arena.{built_from}
use Rattle.heco_ir.specs.Values.{at_ids, values, value_over, all_below, all_earlier, numbers, renamed, root_values, Rewrites}
use Rattle.heco_ir.specs.declared.dialect.NodeId.{NodeId}
use Rattle.heco_ir.proofs.Renaming.{get_or-map-lt, below_at}
use Rattle.heco_ir.proofs.Built.{both, left, right, slice_get_below, built_from-append, length-built, built_from-stands}

pub earlier_at : {N : Type 0} (ops : N → List ℕ) (i k : ℕ) (ns : List N) (d : N) → all_earlier ops i ns ≡ true → k < length ns
    → all_below (i + k) (ops (get_or ns k d)) ≡ true
earlier_at ops i k [] d h lt = elim lt [ ]
earlier_at ops i zero (n ∷ ns) d h lt = let e : i + 0 ≡ i = omega arith in rw e (left _ _ h)
earlier_at ops i (suc k) (n ∷ ns) d h lt =
    let e : i + suc k ≡ (i + 1) + k = omega arith in
    rw e (earlier_at ops (i + 1) k ns d (right (all_below i (ops n)) _ h) (omega arith))

pub below_more_ids : (m m2 : ℕ) (xs : List ℕ) → m ≤ m2 → all_below m xs ≡ true → all_below m2 xs ≡ true
below_more_ids m m2 [] le h = refl
below_more_ids m m2 (x ∷ xs) le h =
    let lt : x < m = ltb-true _ _ (left _ _ h) in
    both _ _ (lt-ltb x m2 (omega arith)) (below_more_ids m m2 xs le (right (nat_lt x m) _ h))

pub below_append : (m : ℕ) (xs : List ℕ) (y : ℕ) → all_below m xs ≡ true → y < m → all_below m (xs ++ y ∷ []) ≡ true
below_append m [] y h lt = both _ _ (lt-ltb y m lt) refl
below_append m (x ∷ xs) y h lt = both _ _ (left _ _ h) (below_append m xs y (right (nat_lt x m) _ h) lt)

pub length-numbers : (ids : List NodeId) → length (numbers ids) ≡ length ids
length-numbers [] = refl
length-numbers (d ∷ ids) = ap suc (length-numbers ids)

pub numbers-append : (ids : List NodeId) (d : NodeId) → numbers (ids ++ d ∷ []) ≡ numbers ids ++ d.0 ∷ []
numbers-append [] d = refl
numbers-append (x ∷ ids) d = ap (λ t. x.0 ∷ t) (numbers-append ids d)

pub renamed_below : (m : ℕ) (ids : List NodeId) (os : List ℕ) → all_below m (numbers ids) ≡ true → all_below (length ids) os ≡ true → all_below m (renamed ids os) ≡ true
renamed_below m ids [] h b = refl
renamed_below m ids (o ∷ os) h b =
    let lt : o < length ids = ltb-true _ _ (left _ _ b) in
    both _ _ (lt-ltb _ m (below_at m (numbers ids) o h (rw (length-numbers ids) lt)))
    (renamed_below m ids os h (right (nat_lt o (length ids)) _ b))

at_ids-at_ids : (done : List (List ℕ)) (ids : List NodeId) (os : List ℕ) → all_below (length ids) os ≡ true
    → at_ids done (renamed ids os) ≡ at_ids (at_ids done (numbers ids)) os
at_ids-at_ids done ids [] b = refl
at_ids-at_ids done ids (o ∷ os) b =
    let lt : o < length (numbers ids) = rw (length-numbers ids) (ltb-true _ _ (left _ _ b)) in
    let e : get_or (at_ids done (numbers ids)) o [] ≡ get_or done (get_or (numbers ids) o 0) [] = get_or-map-lt (λ i. get_or done i []) (numbers ids) o 0 [] lt in
    let r : at_ids done (renamed ids os) ≡ at_ids (at_ids done (numbers ids)) os = at_ids-at_ids done ids os (right (nat_lt o (length ids)) _ b) in
    rw (e, r) refl

renamed-append : (ids : List NodeId) (xs : List ℕ) (y : ℕ) → renamed ids (xs ++ y ∷ []) ≡ renamed ids xs ++ get_or (numbers ids) y 0 ∷ []
renamed-append ids [] y = refl
renamed-append ids (x ∷ xs) y = ap (λ t. get_or (numbers ids) x 0 ∷ t) (renamed-append ids xs y)

at_ids-append : (done : List (List ℕ)) (xs : List ℕ) (y : ℕ) → at_ids done (xs ++ y ∷ []) ≡ at_ids done xs ++ get_or done y [] ∷ []
at_ids-append done [] y = refl
at_ids-append done (x ∷ xs) y = ap (λ t. get_or done x [] ∷ t) (at_ids-append done xs y)

module _ {N : Type 0} (ops : N → List ℕ) (val : World → N → List (List ℕ) → List ℕ) (w : World) where
  at_ids-stand : (done : List (List ℕ)) (ns : List N) (ids : List ℕ) → all_below (length done) ids ≡ true
      → at_ids (built_from (value_over ops val w) done ns) ids ≡ at_ids done ids
  at_ids-stand done ns [] b = refl
  at_ids-stand done ns (x ∷ ids) b =
      let lt : x < length done = ltb-true _ _ (left _ _ b) in
      rw (built_from-stands (value_over ops val w) done ns x [] lt, at_ids-stand done ns ids (right (nat_lt x (length done)) _ b)) refl

-- i nodes are changed
pub record Passing {N : Type 0} (ops : N → List ℕ) (val : World → N → List (List ℕ) → List ℕ) (ns out : List N) (ids : List NodeId) (i : ℕ) : Type 0 where
  pub so_far : Rewrites ops val (take i ns) out ids
  pub count : length ids ≡ i
  pub few : length out ≤ i

pub rewrites_next : {N : Type 0} {ops : N → List ℕ} {val : World → N → List (List ℕ) → List ℕ} {ns out out2 : List N} {ids ids2 : List NodeId} {n n0 : N} {id : NodeId}
    → Rewrites ops val ns out ids → all_below (length ids) (ops n0) ≡ true
    → ops n ≡ renamed ids (ops n0) → ((w : World) (vs : List (List ℕ)) → val w n vs ≡ val w n0 vs)
    → (added : List N) × (out2 ≡ out ++ added) × (length added ≤ 1)
    → id.0 < length out2
    → ((w : World) → get_or (values ops val w out2) id.0 [] ≡ value_over ops val w (values ops val w out) n)
    → ids2 ≡ ids ++ id ∷ []
    → Rewrites ops val (ns ++ n0 ∷ []) out2 ids2
rewrites_next {N} {ops} {val} {ns} {out} {out2} {ids} {ids2} {n} {n0} {id} h b eo ev (added, es, few) within means ei =
    let long : length out2 ≡ length out + length added = ap length es ∙ length-append out added in
    let low : length out ≤ length out2 = omega arith in
    record {
      inside = rw (ei, numbers-append ids id) (below_append _ _ _ (below_more_ids _ _ _ low h.inside) within);
      few = omega (arith, length-append ns (n0 ∷ []), h.few);
      count = omega (arith, h.count, ap length ei, length-append ids (id ∷ []), length-append ns (n0 ∷ []));
      means = λ w.
          let stand : at_ids (values ops val w out2) (numbers ids) ≡ values ops val w ns =
          ap (λ o. at_ids (values ops val w o) (numbers ids)) es
          ∙ ap (λ d. at_ids d (numbers ids)) (built_from-append (value_over ops val w) [] out added)
          ∙ at_ids-stand ops val w (values ops val w out) added (numbers ids) (rw (length-built (value_over ops val w) out) h.inside)
          ∙ h.means w in
          let here : get_or (values ops val w out2) id.0 [] ≡ value_over ops val w (values ops val w ns) n0 =
          means w ∙ ev w _ ∙ ap (val w n0) (ap (at_ids (values ops val w out)) eo ∙ at_ids-at_ids (values ops val w out) ids (ops n0) b ∙ ap (λ d. at_ids d (ops n0)) (h.means w)) in
          rw (ei, numbers-append ids id, at_ids-append (values ops val w out2) (numbers ids) id.0, stand, here, built_from-append (value_over ops val w) [] ns (n0 ∷ [])) refl;
    }

-- what the node at i asks of ids
pub Passing-at : {N : Type 0} {ops : N → List ℕ} {val : World → N → List (List ℕ) → List ℕ} {ns out : List N} {ids : List NodeId} {i : ℕ}
    → Passing ops val ns out ids i → all_earlier ops 0 ns ≡ true → (n : N) → slice_get ns i ≡ Some n → all_below (length ids) (ops n) ≡ true
Passing-at {N} {ops} {val} {ns} {out} {ids} {i} h a n e =
    let z : 0 + i ≡ length ids = omega (arith, h.count) in
    let (lt, there) = slice_get_below ns i n n e in
    rw (← there, ← z) (earlier_at ops 0 i ns n a lt)

pub Passing-next : {N : Type 0} {ops : N → List ℕ} {val : World → N → List (List ℕ) → List ℕ} {ns out out2 : List N} {ids ids2 : List NodeId} {i : ℕ} {n n0 : N} {id : NodeId}
    → Passing ops val ns out ids i → all_earlier ops 0 ns ≡ true → slice_get ns i ≡ Some n0
    → ops n ≡ renamed ids (ops n0) → ((w : World) (vs : List (List ℕ)) → val w n vs ≡ val w n0 vs)
    → (added : List N) × (out2 ≡ out ++ added) × (length added ≤ 1)
    → id.0 < length out2
    → ((w : World) → get_or (values ops val w out2) id.0 [] ≡ value_over ops val w (values ops val w out) n)
    → ids2 ≡ ids ++ id ∷ []
    → Passing ops val ns out2 ids2 (i + 1)
Passing-next {N} {ops} {val} {ns} {out} {out2} {ids} {ids2} {i} {n} {n0} {id} h a e eo ev st within means ei =
    let (lt, there) = slice_get_below ns i n0 n0 e in
    let t : take (i + 1) ns ≡ take i ns ++ n0 ∷ [] = take_more ns i n0 lt ∙ ap (λ x. take i ns ++ x ∷ []) there in
    record {
      so_far = rw t (rewrites_next h.so_far (Passing-at h a n0 e) eo ev st within means ei);
      count = omega (arith, h.count, ap length ei, length-append ids (id ∷ []));
      few = omega (arith, h.few, st.2, ap length st.1, length-append out st.0);
    }

pub Passing-end : {N : Type 0} {ops : N → List ℕ} {val : World → N → List (List ℕ) → List ℕ} {ns out : List N} {ids : List NodeId} {i : ℕ}
    → Passing ops val ns out ids i → i ≡ length ns → Rewrites ops val ns out ids
Passing-end {N} {ops} {val} {ns} {out} {ids} {i} h e = let t : take i ns ≡ ns = ap (λ k. take k ns) e ∙ take-length ns in rw t at h.so_far

pub Passing-renamed : {N : Type 0} {ops : N → List ℕ} {val : World → N → List (List ℕ) → List ℕ} {ns out : List N} {ids : List NodeId} {i : ℕ}
    → Passing ops val ns out ids i → (os : List ℕ) → all_below (length ids) os ≡ true → all_below (length out) (renamed ids os) ≡ true
Passing-renamed {N} {ops} {val} {ns} {out} {ids} {i} h os b = renamed_below (length out) ids os h.so_far.inside b

-- the first roots are where the ids say
pub record Placed (ids roots new : List NodeId) (i : ℕ) : Type 0 where
  pub placed : numbers new ≡ renamed ids (numbers (take i roots))

pub Placed-next : {ids roots new new2 : List NodeId} {i : ℕ} {n : NodeId} → Placed ids roots new i → (d : NodeId) → i < length roots
    → (get_or roots i d).0 < length ids → n ≡ get_or ids (get_or roots i d).0 n → new2 ≡ new ++ n ∷ [] → Placed ids roots new2 (i + 1)
Placed-next {ids} {roots} {new} {new2} {i} {n} h d lt b e en =
    let r : NodeId = get_or roots i d in
    let f : get_or (numbers ids) r.0 0 ≡ n.0 = get_or-map-lt (λ x. x.0) ids r.0 n 0 b ∙ ap (λ x. x.0) (sym e) in
    record { placed = rw (en, numbers-append new n, h.placed, take_more roots i d lt, numbers-append (take i roots) r, renamed-append ids (numbers (take i roots)) r.0, f) refl }

pub root_below : (ids : List NodeId) (m i : ℕ) (d : NodeId) → all_below m (numbers ids) ≡ true → i < length ids → (get_or ids i d).0 < m
root_below ids m i d h lt =
    let f : get_or (numbers ids) i 0 ≡ (get_or ids i d).0 = get_or-map-lt (λ x. x.0) ids i d 0 lt in
    rw (← f) (below_at m (numbers ids) i h (rw (length-numbers ids) lt))

pub Placed-all : {ids roots new : List NodeId} {i : ℕ} → Placed ids roots new i → i ≡ length roots → numbers new ≡ renamed ids (numbers roots)
Placed-all {ids} {roots} {new} {i} h e = let t : take i roots ≡ roots = ap (λ k. take k roots) e ∙ take-length roots in rw t at h.placed

pub placed_means : {N : Type 0} {ops : N → List ℕ} {val : World → N → List (List ℕ) → List ℕ} {ns out : List N} {ids : List NodeId} (roots new : List NodeId) (w : World)
    → Rewrites ops val ns out ids → numbers new ≡ renamed ids (numbers roots) → all_below (length ns) (numbers roots) ≡ true
    → root_values ops val w out new ≡ root_values ops val w ns roots
placed_means {N} {ops} {val} {ns} {out} {ids} roots new w h e b =
    ap (at_ids (values ops val w out)) e
    ∙ at_ids-at_ids (values ops val w out) ids (numbers roots) (rw h.count b)
    ∙ ap (λ d. at_ids d (numbers roots)) (h.means w)

pub placed_below : {N : Type 0} {ops : N → List ℕ} {val : World → N → List (List ℕ) → List ℕ} {ns out : List N} {ids : List NodeId} (roots new : List NodeId)
    → Rewrites ops val ns out ids → numbers new ≡ renamed ids (numbers roots) → all_below (length ns) (numbers roots) ≡ true
    → all_below (length out) (numbers new) ≡ true
placed_below {N} {ops} {val} {ns} {out} {ids} roots new h e b = rw e (renamed_below (length out) ids (numbers roots) h.inside (rw h.count b))

value_at_end : {N : Type 0} (ops : N → List ℕ) (val : World → N → List (List ℕ) → List ℕ) (w : World) (xs : List N) (n : N)
    → get_or (values ops val w (xs ++ n ∷ [])) (length xs) [] ≡ value_over ops val w (values ops val w xs) n
value_at_end ops val w xs n =
    let long : length (values ops val w xs) ≡ length xs = length-built (value_over ops val w) xs in
    rw (built_from-append (value_over ops val w) [] xs (n ∷ []), ← long) (get_or-append_seam (values ops val w xs) (value_over ops val w (values ops val w xs) n) [] [])

pub pushed_means : {N E : Type 0} (ops : N → List ℕ) (val : World → N → List (List ℕ) → List ℕ) (xs ys : List N) (n : N) (r : Result NodeId E)
    → IfOk r (λ id. id.0 ≡ length xs) → OnOk r (ys ≡ xs ++ n ∷ [])
    → IfOk r (λ id. (w : World) → get_or (values ops val w ys) id.0 [] ≡ value_over ops val w (values ops val w xs) n)
pushed_means ops val xs ys n (Ok id) ei ey = λ w. rw (ey, ei) (value_at_end ops val w xs n)
pushed_means ops val xs ys n (Err e) ei ey = tt
