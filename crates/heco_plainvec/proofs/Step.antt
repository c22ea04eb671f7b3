-- One gate more, in each of three cases: it stays, a product stands in its place, or it goes.
use Rattle.std.proofs.Common.{◌≡◌, ℕ, ◌+◌, ◌*◌, ◌%◌, ◌<◌, ◌≤◌, List, [], length, map, refl, ap, sym, ◌∙◌, arith, subst, Bool, true, false, cond, ltb, inl, inr}
use Rattle.std.specs.Prelude.{Option, Some, None, slice_get, slice_index}
use Rattle.std.proofs.lemmas.Bool.{eqb-true, lt-ltb, eq-eqb, cases_lt}
use Rattle.heco_nums.specs.Presets.{modulus_of, slots_of}
use Rattle.heco_noise.specs.Rows.{passes}
use Rattle.heco_noise.specs.Rows as rows
use Rattle.heco_fields.proofs.Bools.{and_true}
use Rattle.heco_circuit.specs.declared.gate.Gate.{Gate}
use Rattle.heco_circuit.specs.declared.gate.Gate.TheVariants.{Scale, Weigh}
use Rattle.heco_circuit.specs.Plans.{Plan}
use Rattle.heco_circuit.specs.Validity.{parts_of, is_gate, is_wire}
use Rattle.heco_circuit.specs.Bounds.{bound_of, weights_of, vector_weight_of}
use Rattle.heco_meaning.specs.Meanings.{wire_at, products}
use Rattle.heco_thrift.specs.Thrift.{bounds_of}
use Rattle.heco_rewrites.specs.Wires.{Wires, behind, over, maker}
use Rattle.heco_rewrites.specs.Needed.{has}
use Rattle.heco_rewrites.proofs.OtherNames.{first, over_is_gate}
use Rattle.heco_rewrites.proofs.Named.{longer, even_more}
use Rattle.heco_rewrites.proofs.Along.{gate_below}
use Rattle.heco_plainvec.specs.Gathering.{vector, chosen, weighed_bound}
use Rattle.heco_plainvec.specs.Gathered.{source, first_multiple, leader, stays, staying_below, name, vector_number, gate_where, gathered_gate, gathered_vectors}
use Rattle.heco_plainvec.proofs.Numbered.{maker_at}
use Rattle.heco_plainvec.proofs.Leaders.{IsSource, source_is, operand_stays, leader_itself, leader_of, source_stays, first_source, first_below, chosen_serves, Served, served}
use Rattle.heco_plainvec.proofs.Places.{place_kept, place_gone}
use Rattle.heco_plainvec.proofs.Vectors.{keeps, vector_below, vector_at, weight_at}
use Rattle.heco_plainvec.proofs.Known.{known, parts_known, bound_known, slots_known, given, known_more, known_last, OperandsKnown, stand, given_over}
use Rattle.heco_plainvec.proofs.Swept.{Earlier, source_earlier, name_below, IsGone, Before, IsSwept, before_old, before_new, before_last}

-- the wires with that of a gate, where there is one
abbrev pub after : Plan → Wires → Option Gate → Wires
after c new None = new
after c new (Some h) = behind c.preset (gathered_vectors c) new h

-- the gate g is the next, at the wire u, and may stand with a bound that doesn't pass
pub record IsNext (c : Plan) (u : ℕ) (old : Wires) (g : Gate) : Type 0 where
  pub place : ℕ
  pub number : u ≡ length c.inputs + place
  pub here : slice_get c.gates place ≡ Some g
  pub valid : is_gate (modulus_of c.preset) (slots_of c.preset) (length c.vectors) old.parts g ≡ true
  pub quiet : passes (bound_of c.preset (weights_of c.preset c.vectors) old.bounds g) ≡ false
  pub bounds : (a : ℕ) → a < u → slice_index (bounds_of c) a ≡ slice_index old.bounds a

pub record IsStep (c : Plan) (u : ℕ) (old new : Wires) (g : Gate) (o : Option Gate) : Type 0 where
  pub swept : IsSwept c (u + 1) (behind c.preset c.vectors old g) (after c new o)
  pub formed : (h : Gate) → o ≡ Some h → is_gate (modulus_of c.preset) (slots_of c.preset) (length (gathered_vectors c)) new.parts h ≡ true
  pub quiet : (h : Gate) → o ≡ Some h → passes (bound_of c.preset (weights_of c.preset (gathered_vectors c)) new.bounds h) ≡ false

image : (c : Plan) (u : ℕ) (g : Gate) (o : Option ℕ) (b : Bool) → source c u ≡ o → stays c u ≡ b → gathered_gate c (u, g) ≡ cond b (Some (gate_where c g o)) None
image c u g o b e t = ap (λ b. cond b (Some (gate_where c g (source c u))) None) t ∙ ap (λ o. cond b (Some (gate_where c g o)) None) e

same_gate : (g h : Gate) → Some g ≡ Some h → g ≡ h
same_gate g h e = cc

-- a gate that may stand with a quiet bound, at a wire that stays
placed : (c : Plan) (u : ℕ) (old new : Wires) (g h : Gate) → IsSwept c u old new → stays c u ≡ true → Before c (u + 1) (behind c.preset c.vectors old g) (behind c.preset (gathered_vectors c) new h)
    → is_gate (modulus_of c.preset) (slots_of c.preset) (length (gathered_vectors c)) new.parts h ≡ true → passes (bound_of c.preset (weights_of c.preset (gathered_vectors c)) new.bounds h) ≡ false → IsStep c u old new g (Some h)
placed c u old new g h s t b v q = record {
  swept = record {
    old_long = longer old.parts (parts_of old.parts g) ∙ ap (λ k. k + 1) s.old_long;
    new_long = longer new.parts (parts_of new.parts h) ∙ ap (λ k. k + 1) s.new_long ∙ sym (place_kept c u t);
    old_even = even_more c.preset c.vectors old g s.old_even;
    new_even = even_more c.preset (gathered_vectors c) new h s.new_even;
    before = b;
  };
  formed = λ k e. subst (λ z. is_gate (modulus_of c.preset) (slots_of c.preset) (length (gathered_vectors c)) new.parts z ≡ true) (same_gate h k e) v;
  quiet = λ k e. subst (λ z. passes (bound_of c.preset (weights_of c.preset (gathered_vectors c)) new.bounds z) ≡ false) (same_gate h k e) q;
}

-- the last wires
last_old : (c : Plan) (u : ℕ) (old new : Wires) (g : Gate) → IsSwept c u old new → known (behind c.preset c.vectors old g) u ≡ given c.preset c.vectors old g
last_old c u old new g s = ap (known (behind c.preset c.vectors old g)) (sym s.old_long) ∙ known_last c.preset c.vectors old g s.old_even

last_new : (c : Plan) (u : ℕ) (old new : Wires) (h : Gate) → IsSwept c u old new → leader c u ≡ u → known (behind c.preset (gathered_vectors c) new h) (name c u) ≡ given c.preset (gathered_vectors c) new h
last_new c u old new h s l =
    ap (λ k. known (behind c.preset (gathered_vectors c) new h) k) (ap (staying_below c) l ∙ sym s.new_long) ∙ known_last c.preset (gathered_vectors c) new h s.new_even

-- ---- it stays
stay : (c : Plan) (u : ℕ) (old new : Wires) (g : Gate) → Earlier c → IsSwept c u old new → IsNext c u old g → source c u ≡ None → IsStep c u old new g (gathered_gate c (u, g))
stay c u old new g early s n e =
    rw (image c u g None true e t) (placed c u old new g h s t
    (before_last c u (behind c.preset c.vectors old g) (behind c.preset ws new h)
    (before_new c u (behind c.preset c.vectors old g) new h s.new_even s.new_long (before_old c u old new g early s.old_even s.old_long s.before))
    (λ q. last_new c u old new h s (leader_itself c u e) ∙ same ∙ sym (last_old c u old new g s))
    (λ of q. absurd (let f : None ≡ Some of = sym e ∙ q in cc)))
    (over_is_gate (modulus_of c.preset) (slots_of c.preset) c.vectors ws (name c) old new g (keeps c) (stand (name c) old new g ops) n.valid)
    (ap (λ k. passes (bound_known k)) same ∙ n.quiet))
  where
    ws : List (List ℕ)
    ws = gathered_vectors c

    h : Gate
    h = over (name c) g

    t : stays c u ≡ true
    t = source_stays c u e

    ops : OperandsKnown (name c) old new g
    ops a i =
        let below : a < length old.parts = gate_below (modulus_of c.preset) (slots_of c.preset) (length c.vectors) old.parts g n.valid a i in
        let l : a < u = rw (← (s.old_long)) below in
        (rw (s.new_long) (name_below c a u l), s.before.each a l (operand_stays c n.place g a n.here i))

    same : given c.preset ws new h ≡ given c.preset c.vectors old g
    same = given_over c.preset c.vectors ws (name c) old new g (keeps c) ops n.valid

less : (a b : ℕ) → a ≤ b → (a ≡ b → ⊥) → a < b
less a b l n = elim (cases_lt a b) [ inl h ↦ h | inr ge ↦ absurd (n (omega (arith, l, ge))) ]

-- ---- it goes
goes : (c : Plan) (u of : ℕ) (old new : Wires) (g : Gate) → Earlier c → IsSwept c u old new → IsNext c u old g → source c u ≡ Some of → IsStep c u old new g (gathered_gate c (u, g))
goes c u of old new g early s n e = by_stays (stays c u) refl
  where
    id : ℕ
    id = c.preset

    ws : List (List ℕ)
    ws = gathered_vectors c

    old' : Wires
    old' = behind c.preset c.vectors old g

    is : IsSource c u of
    is = source_is c u of e

    is_chosen : has (chosen c) of ≡ true
    is_chosen = is.is_chosen

    served_is : Served c of
    served_is = served c of (chosen_serves c of is_chosen)

    gate_is : Scale is.by of ≡ g
    gate_is =
        let a = is.number in let b = n.number in
        let q : is.place ≡ n.place = omega (arith, a, b) in
        same_gate (Scale is.by of) g (sym is.gate ∙ ap (slice_get c.gates) q ∙ n.here)

    made : maker (length c.inputs) c.gates u ≡ Some (Scale is.by of)
    made = ap (maker (length c.inputs) c.gates) is.number ∙ maker_at (length c.inputs) c.gates is.place ∙ is.gate

    of_below : of < u
    of_below = source_earlier c early u of e

    of_stays : source c of ≡ None
    of_stays = operand_stays c is.place (Scale is.by of) of is.gate (first of [])

    of_known : known new (name c of) ≡ known old of
    of_known = s.before.each of of_below of_stays

    of_kept : known old' of ≡ known old of
    of_kept = known_more c.preset c.vectors old g of s.old_even (rw (s.old_long) of_below)

    own : known old' u ≡ given c.preset c.vectors old (Scale is.by of)
    own = last_old c u old new g s ∙ ap (given c.preset c.vectors old) (sym gate_is)

    scaled : wire_at old'.slots u ≡ map (λ x. (is.by * x) % modulus_of c.preset) (wire_at old'.slots of)
    scaled = ap slots_known own ∙ sym (ap (λ k. map (λ x. (is.by * x) % modulus_of c.preset) (slots_known k)) of_kept)

    parts_are : slice_index old'.parts u ≡ slice_index old'.parts of
    parts_are = ap parts_known own ∙ sym (ap parts_known of_kept)

    none_stays : source c u ≡ None → ⊥
    none_stays q = let f : None ≡ Some of = sym q ∙ e in cc

    one_source : (x : ℕ) → source c u ≡ Some x → of ≡ x
    one_source x q = let f : Some of ≡ Some x = sym e ∙ q in cc

    h : Gate
    h = Weigh (vector_number c of) (name c of)

    by_stays : (b : Bool) → stays c u ≡ b → IsStep c u old new g (gathered_gate c (u, g))
    by_stays true t =
        let l : leader c u ≡ u = eqb-true (leader c u) u t in
        let new' : Wires = behind c.preset ws new h in
        let last : known new' (name c u) ≡ given c.preset ws new h = last_new c u old new h s l in
        let weighed : wire_at new'.slots (name c u) ≡ products (modulus_of c.preset) (vector c of) (wire_at old'.slots of) =
        ap slots_known last ∙ ap (λ v. products (modulus_of c.preset) v (wire_at new.slots (name c of))) (vector_at c of is_chosen)
        ∙ ap (λ k. products (modulus_of c.preset) (vector c of) (slots_known k)) (of_known ∙ sym of_kept) in
        let parts : slice_index new'.parts (name c u) ≡ slice_index old'.parts of = ap parts_known last ∙ ap parts_known (of_known ∙ sym of_kept) in
        let gone : IsGone c old' new' u of = record { by = is.by; gate = made; scaled = scaled; parts_are = parts_are; parts = parts; weighed = weighed } in
        rw (image c u g (Some of) true e t) (placed c u old new g h s t
        (before_last c u old' new'
        (before_new c u old' new h s.new_even s.new_long (before_old c u old new g early s.old_even s.old_long s.before))
        (λ q. absurd (none_stays q))
        (λ x q. subst (IsGone c old' new' u) (one_source x q) gone))
        (and_true (ltb (vector_number c of) (length ws)) (is_wire new.parts (name c of)) (lt-ltb (vector_number c of) (length ws) (vector_below c of is_chosen))
        (lt-ltb (name c of) (length new.parts) (rw (s.new_long) (name_below c of u of_below))))
        (ap passes bound ∙ served_is.quiet))
      where
        bound : bound_of c.preset (weights_of c.preset ws) new.bounds h ≡ weighed_bound c of
        bound =
            ap (λ x. rows.weighed x (slice_index new.bounds (name c of))) (weight_at c of is_chosen)
            ∙ ap (rows.weighed (vector_weight_of c.preset (vector c of))) (ap bound_known of_known ∙ sym (n.bounds of of_below))
    by_stays false t =
        let m : ℕ = first_multiple c of in
        let le : m ≤ u = first_below c u of e in
        let ne : m ≡ u → ⊥ = (λ q. let f : stays c u ≡ true = eq-eqb (leader c u) u (leader_of c u of e ∙ q) in let z : true ≡ false = sym f ∙ t in cc) in
        let lt : m < u = less m u le ne in
        let sm : source c m ≡ Some of = first_source c of is_chosen in
        let z : IsGone c old new m of = s.before.gone m of lt sm in
        let names : name c u ≡ name c m = ap (staying_below c) (leader_of c u of e) ∙ sym (ap (staying_below c) (leader_of c m of sm)) in
        let gone : IsGone c old' new u of = record {
          by = is.by;
          gate = made;
          scaled = scaled;
          parts_are = parts_are;
          parts = ap (slice_index new.parts) names ∙ z.parts ∙ sym (ap parts_known of_kept);
          weighed = ap (wire_at new.slots) names ∙ z.weighed ∙ sym (ap (λ k. products (modulus_of c.preset) (vector c of) (slots_known k)) of_kept);
        } in
        rw (image c u g (Some of) false e t) (record {
          swept = record {
            old_long = longer old.parts (parts_of old.parts g) ∙ ap (λ k. k + 1) s.old_long;
            new_long = s.new_long ∙ sym (place_gone c u t);
            old_even = even_more c.preset c.vectors old g s.old_even;
            new_even = s.new_even;
            before = before_last c u old' new (before_old c u old new g early s.old_even s.old_long s.before) (λ q. absurd (none_stays q)) (λ x q. subst (IsGone c old' new u) (one_source x q) gone);
          };
          formed = λ k q. absurd cc;
          quiet = λ k q. absurd cc;
        })

pub step : (c : Plan) (u : ℕ) (old new : Wires) (g : Gate) → Earlier c → IsSwept c u old new → IsNext c u old g → IsStep c u old new g (gathered_gate c (u, g))
step c u old new g early s n = by_source (source c u) refl
  where
    by_source : (o : Option ℕ) → source c u ≡ o → IsStep c u old new g (gathered_gate c (u, g))
    by_source None e = stay c u old new g early s n e
    by_source (Some of) e = goes c u of old new g early s n e
