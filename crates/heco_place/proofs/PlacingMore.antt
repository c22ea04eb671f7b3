-- One node more is placed.
use Rattle.std.proofs.Common.{◌≡◌, ℕ, ◌+◌, ◌<◌, ◌≤◌, Bool, true, false, ◌&&◌, not, cond, List, [], ◌∷◌, ◌++◌, Some, length, map, refl, sym, ap, subst, ◌∙◌, get_or, take, arith}
use Rattle.std.specs.Prelude.{slice_get}
use Rattle.std.specs.List.{flat_map}
use Rattle.std.proofs.lemmas.Bool.{le-leb}
use Rattle.std.proofs.lemmas.List.{length_push, get_or_append_left, get_or_push, take_more, map-append, append-nil, append_assoc}
use Rattle.std.proofs.lemmas.List.Concat.{flat_map-append}
use native.Mathlib.Decide.{dec_lt}
use Rattle.heco_nums.specs.Presets.{modulus_of, slots_of}
use Rattle.heco_nums.specs.declared.shape.Shape.{Shape}
use Rattle.heco_nums.specs.Runs.{all_along}
use Rattle.heco_written.specs.VectorTerm.{VectorTerm, Input}
use Rattle.heco_written.specs.Cost.{is_long, is_due}
use Rattle.heco_written.specs.Needs.{is_product}
use Rattle.heco_written.specs.Bound.{bound, scheme_of}
use Rattle.heco_ir.specs.declared.vector.VNode.{VNode}
use Rattle.heco_ir.specs.Values.{all_earlier}
use Rattle.heco_ir.specs.Vectors.{vector_operands}
use Rattle.heco_ir.specs.Terms.{vector_term_over}
use Rattle.heco_circuit.specs.declared.gate.Gate.{Gate}
use Rattle.heco_circuit.specs.declared.gate.Gate.TheVariants.{Relin}
use Rattle.heco_circuit.specs.Validity.{is_gate, with_gate}
use Rattle.heco_circuit.specs.Bounds.{fresh_bounds, with_bound}
use Rattle.heco_circuit.specs.Plans.{input_parts}
use Rattle.heco_place.specs.declared.carrier.Carrier.{Carrier}
use Rattle.heco_place.specs.declared.way.Way.{Way}
use Rattle.heco_place.specs.declared.way.Way.TheVariants.{Wire, Gate as ByGate}
use Rattle.heco_place.specs.inside.Carried.{Carries, Gives, share}
use Rattle.heco_place.specs.inside.Ways.{nowhere, way_of, relinearised, placed_by}
use Rattle.heco_place.specs.Kinds.{kind, kinds, relinearisation_where, is_relinearised}
use Rattle.heco_place.specs.inside.Placing.{due_at, term_at, is_low, IsCarrier, IsPlan, Placing}
use Rattle.heco_place.proofs.Bools.{left}
use Rattle.heco_place.proofs.Growing.{all_along_push}
use Rattle.heco_place.proofs.Carrying.{carries_input, carries_on, carries_new}
use Rattle.heco_place.proofs.GateGives.{gives_relin}
use Rattle.heco_place.proofs.NodeTerms.{length-vector_terms, is_node, operands_below, term_is}
use Rattle.heco_place.proofs.NodeGates.{IsNodeGate, IsWay, node_way}

-- a relinearised wire: late where it is due, at once where the term is a product
relinearised_is : (late long due : Bool) (ts vs : List VectorTerm) (v : VectorTerm) → long ≡ cond late (is_long v) (is_product v)
    → (late ≡ false → due ≡ true) → (late ≡ true → due ≡ is_due ts vs v) → (long && due) ≡ is_relinearised late ts vs v
relinearised_is false long due ts vs v l early is = rw (l, early refl) (and_true (is_product v))
  where
    and_true : (b : Bool) → (b && true) ≡ b
    and_true true = refl
    and_true false = refl
relinearised_is true long due ts vs v l early is = rw (l, is refl) (twice (is_long v) _)
  where
    twice : (a b : Bool) → (a && (a && b)) ≡ (a && b)
    twice true b = refl
    twice false b = refl

long_after : (late long due : Bool) (v : VectorTerm) → long ≡ cond late (is_long v) (is_product v) → (late ≡ false → due ≡ true) → (long && due) ≡ false → long ≡ (late && is_long v)
long_after true long due v l early none = l
long_after false true due v l early none = let e : due ≡ true = early refl in cc
long_after false false due v l early none = refl

not_long : (long due : Bool) → (long && due) ≡ false → (long && not due) ≡ false → long ≡ false
not_long true true e f = e
not_long true false e f = f
not_long false due e f = refl

where_due : {A : Type 0} (P : A → Type 0) (x y : A) (b : Bool) → (b ≡ false → P y) → (b ≡ true → P x) → P (cond b x y)
where_due P x y true low high = high refl
where_due P x y false low high = low refl

module _ (id most : ℕ) (inputs : List Shape) where
  -- gates that are valid and low
  record Behind (gates : List Gate) : Type 0 where
    valid : all_along (is_gate (modulus_of id) (slots_of id) 0) with_gate (input_parts inputs) gates ≡ true
    low : all_along (is_low id most) (with_bound id []) (fresh_bounds id inputs) gates ≡ true

  behind_more : (gates : List Gate) (g : Gate) (long : Bool) (v : VectorTerm) → Behind gates → Gives id inputs gates g long v → bound (scheme_of id) v ≤ most → Behind (gates ++ g ∷ [])
  behind_more gates g long v h c le = record {
    valid = all_along_push (is_gate (modulus_of id) (slots_of id) 0) with_gate (input_parts inputs) gates g h.valid c.valid;
    low = all_along_push (is_low id most) (with_bound id []) (fresh_bounds id inputs) gates g h.low (le-leb _ most (below _ (share (scheme_of id) long) c.bound_within));
  }
    where
      below : (b s : ℕ) → b + s ≤ bound (scheme_of id) v → b ≤ most
      below b s w = omega arith

  module _ (late : Bool) (dues : List Bool) (ts vs : List VectorTerm) (i : ℕ) (n : VNode) where
    carrier_on : (gates : List Gate) (g : Gate) (due : Bool) (d : Carrier) (v : VectorTerm) → IsCarrier id inputs gates late due d v → IsCarrier id inputs (gates ++ g ∷ []) late due d v
    carrier_on gates g due d v c = record {
      linear = carries_on id inputs gates g _ _ v c.linear;
      short = λ e. carries_on id inputs gates g _ _ v (c.short e);
      long_is = c.long_is;
    }

    -- late the linear wire stays, and else the relinearised one takes its place
    either_wire : (l : Bool) (gates : List Gate) (raw short : ℕ) (long : Bool) (v : VectorTerm) (due : Bool) → long ≡ cond l (is_long v) (is_product v) → long ≡ true
        → Carries id inputs gates raw true v → Carries id inputs gates short false v
        → IsCarrier id inputs gates l due (cond l (record { linear = raw; short = short; long = true }) (record { linear = short; short = short; long = false })) v
    either_wire true gates raw short long v due is e on new = record { linear = on; short = λ _. new; long_is = sym e ∙ is }
    either_wire false gates raw short long v due is e on new = record { linear = new; short = λ _. new; long_is = refl }

    -- what is placed of one term
    record IsPlaced (gates : List Gate) (ds : List Carrier) (r : List Gate × Carrier) : Type 0 where
      behind : Behind r.0
      others : (k : ℕ) → k < i → IsCarrier id inputs r.0 late (due_at dues k) (get_or ds k nowhere) (get_or ts k (Input 0))
      carrier : IsCarrier id inputs r.0 late (due_at dues i) r.1 (term_at ts i)
      kinds_are : map kind r.0 ≡ map kind gates ++ kinds late ts vs (term_at ts i)

    module _ (early : late ≡ false → due_at dues i ≡ true) (late_is : late ≡ true → due_at dues i ≡ is_due ts vs (term_at ts i)) (le : bound (scheme_of id) (term_at ts i) ≤ most)
        (gates : List Gate) (ds : List Carrier) (b : Behind gates)
        (carried : (k : ℕ) → k < i → IsCarrier id inputs gates late (due_at dues k) (get_or ds k nowhere) (get_or ts k (Input 0))) where
      abbrev v : VectorTerm
      v = term_at ts i

      by_wire : (a : ℕ) → v ≡ Input a → a < length inputs → IsPlaced gates ds (gates, record { linear = a; short = a; long = false })
      by_wire a e h =
          let c : Carries id inputs gates a false v = rw e (carries_input id inputs gates a h) in record {
            behind = b;
            others = carried;
            carrier = record { linear = c; short = λ _. c; long_is = rw e (never late) };
            kinds_are = rw e (sym (append-nil (map kind gates)));
          }
        where
          never : (l : Bool) → false ≡ (l && false)
          never true = refl
          never false = refl

      kept : (g : Gate) (long : Bool) → IsNodeGate id inputs gates late ts vs v g long → (long && due_at dues i) ≡ false
          → IsPlaced gates ds (gates ++ g ∷ [], record { linear = length inputs + length gates; short = length inputs + length gates; long = long })
      kept g long c unset =
          let new : Carries id inputs (gates ++ g ∷ []) (length inputs + length gates) long v = carries_new id inputs gates g long v c.gives in
          let none : is_relinearised late ts vs v ≡ false = sym (relinearised_is late long (due_at dues i) ts vs v c.long_is early late_is) ∙ unset in record {
            behind = behind_more gates g long v b c.gives le;
            others = λ k h. carrier_on gates g (due_at dues k) _ _ (carried k h);
            carrier = record {
              linear = new;
              short = λ e. subst (λ l. Carries id inputs (gates ++ g ∷ []) (length inputs + length gates) l v) (not_long long (due_at dues i) unset e) new;
              long_is = long_after late long (due_at dues i) v c.long_is early unset;
            };
            kinds_are = map-append kind gates (g ∷ []) ∙ ap (λ ks. map kind gates ++ ks) (sym (c.kinds_are ∙ ap (λ r. kind g ∷ relinearisation_where r) none));
          }

      then_relinearised : (g : Gate) (long : Bool) → IsNodeGate id inputs gates late ts vs v g long → (long && due_at dues i) ≡ true
          → IsPlaced gates ds (
            (gates ++ g ∷ []) ++ Relin (length inputs + length gates) ∷ [],
            cond late (record { linear = length inputs + length gates; short = length inputs + length (gates ++ g ∷ []); long = true })
                (record { linear = length inputs + length (gates ++ g ∷ []); short = length inputs + length (gates ++ g ∷ []); long = false }),
          )
      then_relinearised g long c set =
          let more : List Gate = gates ++ g ∷ [] in
          let relin : Gate = Relin (length inputs + length gates) in
          let is_long : long ≡ true = left long (due_at dues i) set in
          let raw : Carries id inputs more (length inputs + length gates) true v =
          subst (λ l. Carries id inputs more (length inputs + length gates) l v) is_long (carries_new id inputs gates g long v c.gives) in
          let gives : Gives id inputs more relin false v = gives_relin id inputs more (length inputs + length gates) v raw in
          let new : Carries id inputs (more ++ relin ∷ []) (length inputs + length more) false v = carries_new id inputs more relin false v gives in
          let on : Carries id inputs (more ++ relin ∷ []) (length inputs + length gates) true v = carries_on id inputs more relin _ true v raw in
          let some : is_relinearised late ts vs v ≡ true = sym (relinearised_is late long (due_at dues i) ts vs v c.long_is early late_is) ∙ set in record {
            behind = behind_more more relin false v (behind_more gates g long v b c.gives le) gives le;
            others = λ k h. carrier_on more relin (due_at dues k) _ _ (carrier_on gates g (due_at dues k) _ _ (carried k h));
            carrier = either_wire late (more ++ relin ∷ []) (length inputs + length gates) (length inputs + length more) long v (due_at dues i) c.long_is is_long on new;
            kinds_are =
                map-append kind more (relin ∷ []) ∙ ap (λ ks. ks ++ kind relin ∷ []) (map-append kind gates (g ∷ []))
                ∙ append_assoc (map kind gates) (kind g ∷ []) (kind relin ∷ [])
                ∙ ap (λ ks. map kind gates ++ ks) (sym (c.kinds_are ∙ ap (λ r. kind g ∷ relinearisation_where r) some));
          }

      by_gate : (g : Gate) (long : Bool) → IsNodeGate id inputs gates late ts vs v g long
          → IsPlaced gates ds (relinearised (length inputs) late (due_at dues i) (length inputs + length gates) long (gates ++ g ∷ []))
      by_gate g long c = where_due (IsPlaced gates ds) _ _ (long && due_at dues i) (kept g long c) (then_relinearised g long c)

      by_way : (w : Way) → IsWay id inputs gates late ts vs v w → IsPlaced gates ds (placed_by (length inputs) late (due_at dues i) gates w)
      by_way (Wire a) h = by_wire a h.0 h.1
      by_way (ByGate g long) h = by_gate g long h

  -- the node is placed
  pub placing_more : (ns : List VNode) (late : Bool) (dues : List Bool) (ts vs : List VectorTerm) (i : ℕ) (n : VNode) (gates : List Gate) (ds : List Carrier) (r : List Gate × Carrier)
      → IsPlan id most inputs ns late dues ts vs → all_earlier vector_operands 0 ns ≡ true → slice_get ns i ≡ Some n
      → Placing id most inputs late dues ts vs i gates ds → r ≡ placed_by (length inputs) late (due_at dues i) gates (way_of ds n)
      → Placing id most inputs late dues ts vs (i + 1) r.0 (ds ++ r.1 ∷ [])
  placing_more ns late dues ts vs i n gates ds r plan earlier here p e =
      let within : i < length ns = is_node ns earlier i n here in
      let long : length ts ≡ length ns = ap length plan.terms_are ∙ length-vector_terms ns in
      let term : term_at ts i ≡ vector_term_over ts n = subst (λ us. term_at us i ≡ vector_term_over us n) (sym plan.terms_are) (term_is ns earlier i n here) in
      let way : IsWay id inputs gates late ts vs (term_at ts i) (way_of ds n) =
      subst (λ v. IsWay id inputs gates late ts vs v (way_of ds n)) (sym term)
      (node_way id inputs gates late dues ds ts vs i p.carried (λ l k h. plan.late_is l k (omega arith)) (omega arith) n (operands_below ns earlier i n here) (plan.fit i n here) term) in
      let q : IsPlaced late dues ts vs i n gates ds r =
      subst (IsPlaced late dues ts vs i n gates ds) (sym e)
      (by_way late dues ts vs i n (λ l. plan.early l i within) (λ l. plan.late_is l i within) (plan.low i within) gates ds (record { valid = p.valid; low = p.low }) p.carried (way_of ds n) way) in record {
        valid = q.behind.valid;
        low = q.behind.low;
        count = omega (arith, length_push ds r.1, p.count);
        carried = λ k h. at_end k h (dec_lt k i) q;
        kinds_are =
            q.kinds_are ∙ ap (λ ks. ks ++ kinds late ts vs (term_at ts i)) p.kinds_are
            ∙ sym (ap (flat_map (kinds late ts vs)) (take_more ts i (Input 0) (omega arith)) ∙ flat_map-append (kinds late ts vs) (take i ts) (term_at ts i ∷ [])
            ∙ ap (λ ks. flat_map (kinds late ts vs) (take i ts) ++ ks) (append-nil (kinds late ts vs (term_at ts i))));
      }
    where
      at_end : (k : ℕ) → k < i + 1 → Dec (k < i) → IsPlaced late dues ts vs i n gates ds r → IsCarrier id inputs r.0 late (due_at dues k) (get_or (ds ++ r.1 ∷ []) k nowhere) (term_at ts k)
      at_end k h (Prim.yes l) q = rw (get_or_append_left ds (r.1 ∷ []) nowhere k (omega (arith, p.count))) (q.others k l)
      at_end k h (Prim.no l) q =
          let same : k ≡ i = omega arith in
          rw (same, get_or_push ds r.1 nowhere i p.count) q.carrier

few_relinearised : (inputs : ℕ) (late due : Bool) (wire : ℕ) (long : Bool) (gates : List Gate) → length (relinearised inputs late due wire long gates).0 ≤ length gates + 1
few_relinearised inputs late due wire long gates = where_due (λ (r : List Gate × Carrier). length r.0 ≤ length gates + 1) _ _ (long && due) (λ _. omega arith) (λ _. omega (arith, length_push gates (Relin wire)))

-- at most two gates are placed of a node
pub few_more : (inputs : ℕ) (late due : Bool) (gates : List Gate) (w : Way) → length (placed_by inputs late due gates w).0 ≤ length gates + 2
few_more inputs late due gates (Wire a) = omega arith
few_more inputs late due gates (ByGate g long) = omega (arith, few_relinearised inputs late due (inputs + length gates) long (gates ++ g ∷ []), length_push gates g)

-- nothing is placed
pub placing_none : (id most : ℕ) (inputs : List Shape) (late : Bool) (dues : List Bool) (ts vs : List VectorTerm) → Placing id most inputs late dues ts vs 0 [] []
placing_none id most inputs late dues ts vs = record { valid = refl; low = refl; count = refl; carried = λ k h. absurd (omega arith); kinds_are = refl }
