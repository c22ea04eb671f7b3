-- In a gathered circuit the rule finds nothing more.
use Rattle.std.proofs.Common.{◌≡◌, ◌∙◌, refl, sym, ap, ℕ, zero, suc, ◌+◌, ◌-◌, ◌<◌, ◌≤◌, List, [], ◌∷◌, length, length-append, map, take, arith, inl, inr, Bool, true, false, not, ◌&&◌, ◌||◌, cond, eqb, ltb, leb, subst}
use Rattle.std.specs.Prelude.{Some, None, slice_get, slice_index, filter_map, filter}
use Rattle.std.specs.List.{enumerate_from, cons_option, range_with_len}
use Rattle.std.proofs.lemmas.Bool.{eqb-true, eq-eqb, ltb-true}
use Rattle.std.proofs.lemmas.List.{length-map, length-take, take_all}
use Rattle.heco_nums.specs.Presets.{slots_of}
use Rattle.heco_noise.specs.Rows.{passes, weighed}
use Rattle.heco_circuit.specs.declared.gate.Gate.{Gate}
use Rattle.heco_circuit.specs.declared.gate.Gate.TheVariants.{Neg, Add, Sub, Mul, Relin, Scale, Shift, Turn, Weigh}
use Rattle.heco_circuit.specs.Bounds.{vector_weight_of}
use Rattle.heco_circuit.specs.Circuits.{IsCircuit}
use Rattle.heco_circuit.specs.Plans.{Plan}
use Rattle.heco_thrift.specs.Thrift.{bounds_of}
use Rattle.heco_rewrites.specs.Needed.{has}
use Rattle.heco_rewrites.proofs.OtherNames.{first}
use Rattle.heco_plainvec.specs.declared.multiple.Multiple.{Multiple}
use Rattle.heco_plainvec.specs.Gathering.{cell_only, multiples, asked, agree, at_slot, vector, weighed_bound, serves, finds, chosen, wires, most_vectors}
use Rattle.heco_plainvec.specs.Gathered.{source, stays, staying_below, name, gate_where, vector_number, gathered_gate, gathered_gates, gathered_vectors, gathered}
use Rattle.heco_plainvec.proofs.Numbered.{get-length, get_is}
use Rattle.heco_plainvec.proofs.Leaders.{IsMultiple, multiple_is, source_has, operand_stays, served}
use Rattle.heco_plainvec.proofs.Places.{place_kept, place_gone, place_inputs, name_itself}
use Rattle.heco_plainvec.proofs.Images.{IsKept, image_is}
use Rattle.heco_plainvec.proofs.Reading.{same_cell_only}
use Rattle.heco_plainvec.proofs.Table.{renamed, table, same_asked}
use Rattle.heco_plainvec.proofs.Whole.{Valid, valid, earlier}
use Rattle.heco_plainvec.proofs.Meaning.{same_bound}

-- ---- where there is room left, every wire for which a product serves is chosen
has_range : (a n i : ℕ) → i < n → has (range_with_len a n) (a + i) ≡ true
has_range a zero i l = absurd (omega (arith, l))
has_range a (suc n) zero l = ap (λ b. b || has (range_with_len (a + 1) n) (a + 0)) (eq-eqb a (a + 0) (omega arith))
has_range a (suc n) (suc i) l = or_right (eqb a (a + suc i)) (has (range_with_len (a + 1) n) (a + suc i)) (let e : a + suc i ≡ a + 1 + i = omega arith in rw e (has_range (a + 1) n i (omega (arith, l))))
  where
    or_right : (b c : Bool) → c ≡ true → (b || c) ≡ true
    or_right true c h = refl
    or_right false c h = h

has_kept : (test : ℕ → Bool) (xs : List ℕ) (a : ℕ) → has xs a ≡ true → test a ≡ true → has (filter test xs) a ≡ true
has_kept test [] a h t = absurd cc
has_kept test (x ∷ xs) a h t = by_test (eqb x a) refl h (λ r. has_kept test xs a r t)
  where
    there : (b : Bool) → has (filter test xs) a ≡ true → has (cond b (x ∷ filter test xs) (filter test xs)) a ≡ true
    there true r = or_right (eqb x a) (has (filter test xs) a) r
      where
        or_right : (b c : Bool) → c ≡ true → (b || c) ≡ true
        or_right true c h = refl
        or_right false c h = h
    there false r = r

    by_test : (b : Bool) → eqb x a ≡ b → (b || has xs a) ≡ true → (has xs a ≡ true → has (filter test xs) a ≡ true) → has (cond (test x) (x ∷ filter test xs) (filter test xs)) a ≡ true
    by_test true q h f =
        let e : x ≡ a = eqb-true x a q in
        let y : test x ≡ true = ap test e ∙ t in
        ap (λ b. has (cond b (x ∷ filter test xs) (filter test xs)) a) y ∙ ap (λ b. b || has (filter test xs) a) q
    by_test false q h f = there (test x) (f h)

all_chosen : (c : Plan) (a : ℕ) → length (gathered_vectors c) < most_vectors → a < length c.inputs + length c.gates → serves c a ≡ true → has (chosen c) a ≡ true
unfolding chosen
all_chosen c a room l s =
    let F : List ℕ = filter (serves c) (wires c) in
    let k : ℕ = most_vectors - length c.vectors in
    let t = length-take k F in
    let n = length-append c.vectors (map (vector c) (take k F)) in
    let m = length-map (take k F) (vector c) in
    let few : length F ≤ k = omega (arith, room, t, n, m) in
    let e : take k F ≡ F = take_all k F few in
    let z : 0 + a ≡ a = omega arith in
    let w : has (wires c) a ≡ true = rw z at (has_range 0 (length c.inputs + length c.gates) a l) in
    ap (λ xs. has xs a) e ∙ has_kept (serves c) (wires c) a w s

-- ---- a product serves for a wire that isn't chosen where it serves for its name
same_vector : (c : Plan) (x : ℕ) → asked (gathered c) (name c x) ≡ asked c x → vector (gathered c) (name c x) ≡ vector c x
unfolding gathered
same_vector c x a = ap (λ xs. map (at_slot xs) (range_with_len 0 (slots_of c.preset))) a

same_weighed : (c : Plan) (x : ℕ) → vector (gathered c) (name c x) ≡ vector c x → slice_index (bounds_of (gathered c)) (name c x) ≡ slice_index (bounds_of c) x → weighed_bound (gathered c) (name c x) ≡ weighed_bound c x
unfolding gathered
same_weighed c x v b = ap (λ z. weighed (vector_weight_of c.preset z) (slice_index (bounds_of (gathered c)) (name c x))) v ∙ ap (weighed (vector_weight_of c.preset (vector c x))) b

same_serves : (c : Plan) (x : ℕ) → IsCircuit c → x < length c.inputs + length c.gates → source c x ≡ None → has (chosen c) x ≡ false → serves (gathered c) (name c x) ≡ serves c x
unfolding serves
same_serves c x valid l s h =
    let d : Plan = gathered c in
    let n : length (multiples d (name c x)) ≡ length (multiples c x) = ap length (table c x s h) ∙ length-map (multiples c x) (renamed c) in
    let a : asked d (name c x) ≡ asked c x = same_asked c x s h in
    let v : vector d (name c x) ≡ vector c x = same_vector c x a in
    let b : weighed_bound d (name c x) ≡ weighed_bound c x = same_weighed c x v (same_bound c x valid l s) in
    ap (λ k. leb 2 k && (agree (asked d (name c x)) && not (passes (weighed_bound d (name c x))))) n
    ∙ ap (λ xs. leb 2 (length (multiples c x)) && (agree xs && not (passes (weighed_bound d (name c x))))) a
    ∙ ap (λ e. leb 2 (length (multiples c x)) && (agree (asked c x) && not (passes e))) b

-- ---- a wire with multiples is the name of one that isn't chosen
pub record IsName (c : Plan) (a : ℕ) : Type 0 where
  pub wire : ℕ
  pub below : wire < length c.inputs + length c.gates
  pub source_is : source c wire ≡ None
  pub other : has (chosen c) wire ≡ false
  pub is : name c wire ≡ a

-- the gate of this place among those that are gathered, and where it comes from
pub record IsFound (c : Plan) (i : ℕ) (h : Gate) : Type 0 where
  pub at : ℕ
  pub gate : Gate
  pub here : slice_get c.gates at ≡ Some gate
  pub image : gathered_gate c (length c.inputs + at, gate) ≡ Some h
  pub place_is : staying_below c (length c.inputs + at) ≡ length c.inputs + i

found_from : (c : Plan) (k i base : ℕ) (gates : List Gate) (h : Gate) → ((j : ℕ) (g : Gate) → slice_get gates j ≡ Some g → slice_get c.gates (k + j) ≡ Some g) → staying_below c (length c.inputs + k) ≡ length c.inputs + base
    → slice_get (filter_map (gathered_gate c) (enumerate_from (length c.inputs + k) gates)) i ≡ Some h → IsFound c (base + i) h
found_from c k i base [] h here p e = absurd cc
found_from c k i base (g ∷ gates) h here p e =
    by_stays (stays c (length c.inputs + k)) refl i e
    (λ i base q r. let next : length c.inputs + k + 1 ≡ length c.inputs + (k + 1) = omega arith in
    found_from c (k + 1) i base gates h (λ j y z. let s : k + suc j ≡ k + 1 + j = omega arith in rw s at (here (suc j) y z)) (ap (staying_below c) (sym next) ∙ q)
    (subst (λ z. slice_get (filter_map (gathered_gate c) (enumerate_from z gates)) i ≡ Some h) next r))
  where
    u : ℕ
    u = length c.inputs + k

    here_at : slice_get c.gates k ≡ Some g
    here_at = let z : k + 0 ≡ k = omega arith in rw z at (here 0 g refl)

    Later : Type 0
    Later = (i base : ℕ) → staying_below c (u + 1) ≡ length c.inputs + base → slice_get (filter_map (gathered_gate c) (enumerate_from (u + 1) gates)) i ≡ Some h → IsFound c (base + i) h

    by_stays : (b : Bool) → stays c u ≡ b → (i : ℕ) → slice_get (cons_option (cond b (Some (gate_where c g (source c u))) None) (filter_map (gathered_gate c) (enumerate_from (u + 1) gates))) i ≡ Some h → Later → IsFound c (base + i) h
    by_stays true t zero e later =
        let z : base + 0 ≡ base = omega arith in
        rw z (record { at = k; gate = g; here = here_at; image = ap (λ b. cond b (Some (gate_where c g (source c u))) None) t ∙ e; place_is = p })
    by_stays true t (suc i) e later =
        let m = place_kept c u t in
        let q : staying_below c (u + 1) ≡ length c.inputs + (base + 1) = omega (arith, m, p) in
        let z : base + suc i ≡ base + 1 + i = omega arith in rw z (later i (base + 1) q e)
    by_stays false t i e later = later i base (place_gone c u t ∙ p) e

pub found_in : (c : Plan) (i : ℕ) (h : Gate) → slice_get (gathered_gates c) i ≡ Some h → IsFound c i h
found_in c i h e =
    let z : length c.inputs + 0 ≡ length c.inputs = omega arith in
    let y : 0 + i ≡ i = omega arith in
    let p : staying_below c (length c.inputs + 0) ≡ length c.inputs + 0 = place_inputs c (length c.inputs + 0) (omega arith) in
    rw y at (found_from c 0 i 0 c.gates h (λ j g q. let w : 0 + j ≡ j = omega arith in rw w q) p (subst (λ u. slice_get (filter_map (gathered_gate c) (enumerate_from u c.gates)) i ≡ Some h) (sym z) e))

gate_there : (c : Plan) (a : ℕ) (m : Multiple) (r : IsMultiple (gathered c) a m) → slice_get (gathered_gates c) r.place ≡ Some (Scale m.by a)
unfolding gathered
gate_there c a m r = r.gate

wire_there : (c : Plan) (a : ℕ) (m : Multiple) (r : IsMultiple (gathered c) a m) → m.wire ≡ length c.inputs + r.place
unfolding gathered
wire_there c a m r = r.number

name_of : (c : Plan) (a i : ℕ) (m : Multiple) → Valid c → slice_get (multiples (gathered c) a) i ≡ Some m → IsName c a
name_of c a i m v e = from_multiple (multiple_is (gathered c) a i m e)
  where
    n : ℕ
    n = length c.inputs

    scaled : (k : ℕ) (g h : Gate) (u : ℕ) → slice_get c.gates k ≡ Some g → IsKept c u g h → h ≡ Scale m.by a → (x : ℕ) × (g ≡ Scale m.by x) × (name c x ≡ a)
    scaled k (Scale by y) h u e r q = let w : Scale by (name c y) ≡ Scale m.by a = sym r.is ∙ q in let b : by ≡ m.by = cc in (y, rw b refl, cc)
    scaled k (Neg y) h u e r q = absurd (let w : Neg (name c y) ≡ Scale m.by a = sym r.is ∙ q in cc)
    scaled k (Add y z) h u e r q = absurd (let w : Add (name c y) (name c z) ≡ Scale m.by a = sym r.is ∙ q in cc)
    scaled k (Sub y z) h u e r q = absurd (let w : Sub (name c y) (name c z) ≡ Scale m.by a = sym r.is ∙ q in cc)
    scaled k (Mul y z) h u e r q = absurd (let w : Mul (name c y) (name c z) ≡ Scale m.by a = sym r.is ∙ q in cc)
    scaled k (Relin y) h u e r q = absurd (let w : Relin (name c y) ≡ Scale m.by a = sym r.is ∙ q in cc)
    scaled k (Shift j y) h u e r q = absurd (let w : Shift j (name c y) ≡ Scale m.by a = sym r.is ∙ q in cc)
    scaled k (Turn j y) h u e r q = absurd (let w : Turn j (name c y) ≡ Scale m.by a = sym r.is ∙ q in cc)
    scaled k (Weigh j y) h u e r q = absurd (let w : Weigh j (name c y) ≡ Scale m.by a = sym r.is ∙ q in cc)

    -- the multiple's own wire is the name of the gate's
    unchosen : (k x : ℕ) → slice_get c.gates k ≡ Some (Scale m.by x) → source c (n + k) ≡ None → cell_only (gathered c) (name c (n + k)) ≡ true → has (chosen c) x ≡ false
    unchosen k x e s o = by_test (has (chosen c) x) refl
      where
        by_test : (b : Bool) → has (chosen c) x ≡ b → b ≡ false
        by_test false t = refl
        by_test true t =
            let only : cell_only c (n + k) ≡ true = sym (same_cell_only c (n + k) s) ∙ o in
            absurd (let f : None ≡ Some x = sym s ∙ source_has c x k m.by e only t in cc)

    from_multiple : IsMultiple (gathered c) a m → IsName c a
    from_multiple r =
        let f : IsFound c r.place (Scale m.by a) = found_in c r.place (Scale m.by a) (gate_there c a m r) in
        elim (image_is c (n + f.at) f.at f.gate (Scale m.by a) refl f.here f.image) [
          | inl k ↦ (let x = scaled f.at f.gate (Scale m.by a) (n + f.at) f.here k refl in
              let e : slice_get c.gates f.at ≡ Some (Scale m.by x.0) = f.here ∙ ap Some x.1 in
              let number : m.wire ≡ n + r.place = wire_there c a m r in
              let p : name c (n + f.at) ≡ m.wire = name_itself c (n + f.at) k.source_is ∙ f.place_is ∙ sym number in
              let o : cell_only (gathered c) (name c (n + f.at)) ≡ true = ap (cell_only (gathered c)) p ∙ r.only in
              let l = earlier c v f.at (Scale m.by x.0) e x.0 (first x.0 []) in
              let k' = get-length c.gates f.at f.gate f.here in
              record {
                wire = x.0;
                below = omega (arith, l, k');
                source_is = operand_stays c f.at (Scale m.by x.0) x.0 e (first x.0 []);
                other = unchosen f.at x.0 e k.source_is o;
                is = x.2;
              })
          | inr k ↦ absurd (let w : Scale m.by a ≡ Weigh (vector_number c k.of) (name c k.of) = k.is in cc)
        ]

room_there : (c : Plan) → ltb (length (gathered c).vectors) most_vectors ≡ true → length (gathered_vectors c) < most_vectors
unfolding gathered
room_there c t = ltb-true (length (gathered_vectors c)) most_vectors t

pub nothing_more : (c : Plan) (a : ℕ) → IsCircuit c → finds (gathered c) a ≡ false
unfolding finds
nothing_more c a h = by_room (ltb (length (gathered c).vectors) most_vectors) refl
  where
    by_serves : (b : Bool) → serves (gathered c) a ≡ b → ltb (length (gathered c).vectors) most_vectors ≡ true → b ≡ false
    by_serves false s t = refl
    by_serves true s t =
        let two = (served (gathered c) a s).two in
        let r = get_is (multiples (gathered c) a) 0 (omega (arith, two)) in
        let x : IsName c a = name_of c a 0 r.0 (valid c h) r.1 in
        let y : serves c x.wire ≡ true = sym (same_serves c x.wire h x.below x.source_is x.other) ∙ ap (serves (gathered c)) x.is ∙ s in
        let z = all_chosen c x.wire (room_there c t) x.below y in
        absurd (let f : true ≡ false = sym z ∙ x.other in cc)

    by_room : (b : Bool) → ltb (length (gathered c).vectors) most_vectors ≡ b → (b && serves (gathered c) a) ≡ false
    by_room false t = refl
    by_room true t = by_serves (serves (gathered c) a) refl t
