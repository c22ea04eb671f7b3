-- The multiples of a wire that is not chosen, in the gathered circuit, and what is asked of them: the same under new numbers.
use Rattle.std.proofs.Common.{◌≡◌, ◌∙◌, refl, sym, ap, ℕ, suc, ◌+◌, List, [], ◌∷◌, ◌++◌, length, map, arith, Bool, true, false, ◌&&◌, cond, eqb, subst}
use Rattle.std.specs.Prelude.{Option, Some, None, slice_get, filter_map, flat_map}
use Rattle.std.specs.List.{enumerate_from, cons_option}
use Rattle.std.specs.Option.{option_map}
use Rattle.std.proofs.lemmas.Bool.{eqb-true, eq-eqb}
use Rattle.std.proofs.lemmas.List.{map-append}
use Rattle.heco_circuit.specs.declared.gate.Cell.{Cell}
use Rattle.heco_circuit.specs.declared.gate.Cell.TheVariants.{Number, Slot}
use Rattle.heco_circuit.specs.declared.gate.Gate.{Gate}
use Rattle.heco_circuit.specs.declared.gate.Gate.TheVariants.{Neg, Add, Sub, Mul, Relin, Scale, Shift, Turn, Weigh}
use Rattle.heco_circuit.specs.declared.gate.Output.{Output}
use Rattle.heco_circuit.specs.Plans.{Plan}
use Rattle.heco_thrift.specs.Homes.{all_cells}
use Rattle.heco_rewrites.specs.Wires.{over, cell_over, output_over}
use Rattle.heco_rewrites.specs.Needed.{has}
use Rattle.heco_rewrites.proofs.OtherNames.{first}
use Rattle.heco_plainvec.specs.declared.multiple.Multiple.{Multiple}
use Rattle.heco_plainvec.specs.Gathering.{cell_only, multiple_where, multiple_of, multiples, asked_at, asked_by, asked, chosen}
use Rattle.heco_plainvec.specs.Gathered.{source, first_multiple, leader, stays, staying_below, name, gate_where, gathered_gate, gathered_gates, gathered}
use Rattle.heco_plainvec.proofs.Leaders.{IsMultiple, multiple_is, IsSource, source_is, operand_stays, leader_itself, leader_of, source_stays, first_source, leader_stays}
use Rattle.heco_plainvec.proofs.Places.{place_kept, place_gone, place_inputs, place_apart, name_itself}
use Rattle.heco_plainvec.proofs.Images.{scale_at}
use Rattle.heco_plainvec.proofs.Reading.{apart, same_cell_only}

-- under its new number
abbrev pub renamed : Plan → Multiple → Multiple
renamed c m = record { wire = name c m.wire; by = m.by }

by_both : (x y : Bool) → (x ≡ true → y ≡ true) → (y ≡ true → x ≡ true) → x ≡ y
by_both true y f g = sym (f refl)
by_both false true f g = g refl
by_both false false f g = refl

-- two equal answers of a test
same_test : (c : Plan) (y x : ℕ) → source c y ≡ None → source c x ≡ None → eqb (name c y) (name c x) ≡ eqb y x
same_test c y x s r = by_both (eqb (name c y) (name c x)) (eqb y x) (λ t. eq-eqb y x (apart c y x s r (eqb-true (name c y) (name c x) t))) (λ t. eq-eqb (name c y) (name c x) (ap (name c) (eqb-true y x t)))

other_wire : (c : Plan) (of x : ℕ) → has (chosen c) of ≡ true → has (chosen c) x ≡ false → eqb of x ≡ false
other_wire c of x h n = by_test (eqb of x) refl
  where
    by_test : (b : Bool) → eqb of x ≡ b → b ≡ false
    by_test true t = absurd (let q : true ≡ false = sym h ∙ ap (has (chosen c)) (eqb-true of x t) ∙ n in cc)
    by_test false t = refl

-- ---- one gate
kept_multiple : (c : Plan) (k x : ℕ) (g : Gate) → slice_get c.gates k ≡ Some g → source c (length c.inputs + k) ≡ None → source c x ≡ None
    → multiple_where (cell_only (gathered c) (name c (length c.inputs + k))) (name c x) (name c (length c.inputs + k)) (over (name c) g)
    ≡ option_map (renamed c) (multiple_where (cell_only c (length c.inputs + k)) x (length c.inputs + k) g)
kept_multiple c k x (Scale by y) e s r =
    let u : ℕ = length c.inputs + k in
    let sy = operand_stays c k (Scale by y) y e (first y []) in
    ap (λ b. cond (b && cell_only (gathered c) (name c u)) (Some (record { wire = name c u; by = by })) None) (same_test c y x sy r)
    ∙ ap (λ b. cond (eqb y x && b) (Some (record { wire = name c u; by = by })) None) (same_cell_only c u s)
    ∙ inside (eqb y x && cell_only c u) u by
  where
    inside : (b : Bool) (u by : ℕ) → cond b (Some (record { wire = name c u; by = by })) None ≡ option_map (renamed c) (cond b (Some (record { wire = u; by = by })) None)
    inside true u by = refl
    inside false u by = refl
kept_multiple c k x (Neg a) e s r = refl
kept_multiple c k x (Add a b) e s r = refl
kept_multiple c k x (Sub a b) e s r = refl
kept_multiple c k x (Mul a b) e s r = refl
kept_multiple c k x (Relin a) e s r = refl
kept_multiple c k x (Shift j a) e s r = refl
kept_multiple c k x (Turn j a) e s r = refl
kept_multiple c k x (Weigh j a) e s r = refl

other_multiple : (c : Plan) (u k x of : ℕ) (g : Gate) → u ≡ length c.inputs + k → slice_get c.gates k ≡ Some g → source c u ≡ Some of → has (chosen c) x ≡ false → multiple_where (cell_only c u) x u g ≡ None
other_multiple c u k x of g n e s h =
    let w = scale_at c u k of g n e s in
    let is : IsSource c u of = source_is c u of s in
    ap (multiple_where (cell_only c u) x u) w.1 ∙ ap (λ b. cond (b && cell_only c u) (Some (record { wire = u; by = w.0 })) None) (other_wire c of x is.is_chosen h)

-- ---- all gates
map_option : (c : Plan) (o : Option Multiple) (ms : List Multiple) → map (renamed c) (cons_option o ms) ≡ cons_option (option_map (renamed c) o) (map (renamed c) ms)
map_option c None ms = refl
map_option c (Some m) ms = refl

abbrev new_multiples : Plan → ℕ → ℕ → List Gate → List Multiple
new_multiples c x u gates = filter_map (multiple_of (cell_only (gathered c)) (name c x)) (enumerate_from u gates)

table_from : (c : Plan) (x k : ℕ) (gates : List Gate) → ((j : ℕ) (g : Gate) → slice_get gates j ≡ Some g → slice_get c.gates (k + j) ≡ Some g) → source c x ≡ None → has (chosen c) x ≡ false
    → new_multiples c x (staying_below c (length c.inputs + k)) (filter_map (gathered_gate c) (enumerate_from (length c.inputs + k) gates))
    ≡ map (renamed c) (filter_map (multiple_of (cell_only c) x) (enumerate_from (length c.inputs + k) gates))
table_from c x k [] here s h = refl
table_from c x k (g ∷ gates) here s h =
    by_source (source c (length c.inputs + k)) refl
    (let next : length c.inputs + k + 1 ≡ length c.inputs + (k + 1) = omega arith in
    rw next (table_from c x (k + 1) gates (λ j y e. let q : k + suc j ≡ k + 1 + j = omega arith in rw q at (here (suc j) y e)) s h))
  where
    u : ℕ
    u = length c.inputs + k

    here_at : slice_get c.gates k ≡ Some g
    here_at = let z : k + 0 ≡ k = omega arith in rw z at (here 0 g refl)

    Rest : Type 0
    Rest = new_multiples c x (staying_below c (u + 1)) (filter_map (gathered_gate c) (enumerate_from (u + 1) gates)) ≡ map (renamed c) (filter_map (multiple_of (cell_only c) x) (enumerate_from (u + 1) gates))

    more : List Gate
    more = filter_map (gathered_gate c) (enumerate_from (u + 1) gates)

    olds : List Multiple
    olds = filter_map (multiple_of (cell_only c) x) (enumerate_from (u + 1) gates)

    here_is : (b : Bool) (o : Option ℕ) → stays c u ≡ b → source c u ≡ o → gathered_gate c (u, g) ≡ cond b (Some (gate_where c g o)) None
    here_is b o t q = ap (λ b. cond b (Some (gate_where c g (source c u))) None) t ∙ ap (λ o. cond b (Some (gate_where c g o)) None) q

    -- the gate is there under its new number
    kept : (h' : Gate) (o : Option Multiple) → stays c u ≡ true → gathered_gate c (u, g) ≡ Some h' → multiple_where (cell_only (gathered c) (staying_below c u)) (name c x) (staying_below c u) h' ≡ option_map (renamed c) o → multiple_where (cell_only c u) x u g ≡ o → Rest
        → new_multiples c x (staying_below c u) (cons_option (gathered_gate c (u, g)) more) ≡ map (renamed c) (cons_option (multiple_where (cell_only c u) x u g) olds)
    kept h' o t q m w rest =
        ap (λ z. new_multiples c x (staying_below c u) (cons_option z more)) q
        ∙ ap (λ z. cons_option (multiple_where (cell_only (gathered c) (staying_below c u)) (name c x) (staying_below c u) h') (new_multiples c x z more)) (sym (place_kept c u t))
        ∙ ap (λ z. cons_option z (new_multiples c x (staying_below c (u + 1)) more)) m
        ∙ ap (cons_option (option_map (renamed c) o)) rest
        ∙ sym (map_option c o olds)
        ∙ ap (λ z. map (renamed c) (cons_option z olds)) (sym w)

    by_source : (o : Option ℕ) → source c u ≡ o → Rest
        → new_multiples c x (staying_below c u) (cons_option (gathered_gate c (u, g)) more) ≡ map (renamed c) (cons_option (multiple_where (cell_only c u) x u g) olds)
    by_source None q rest =
        let t = source_stays c u q in
        let p : name c u ≡ staying_below c u = name_itself c u q in
        kept (over (name c) g) (multiple_where (cell_only c u) x u g) t (here_is true None t q)
        (subst (λ z. multiple_where (cell_only (gathered c) z) (name c x) z (over (name c) g) ≡ option_map (renamed c) (multiple_where (cell_only c u) x u g)) p (kept_multiple c k x g here_at q s)) refl rest
    by_source (Some of) q rest = by_stays (stays c u) refl
      where
        none : multiple_where (cell_only c u) x u g ≡ None
        none = other_multiple c u k x of g refl here_at q h

        by_stays : (b : Bool) → stays c u ≡ b → new_multiples c x (staying_below c u) (cons_option (gathered_gate c (u, g)) more) ≡ map (renamed c) (cons_option (multiple_where (cell_only c u) x u g) olds)
        by_stays true t = kept (gate_where c g (Some of)) None t (here_is true (Some of) t q) refl none rest
        by_stays false t =
            ap (λ z. new_multiples c x (staying_below c u) (cons_option z more)) (here_is false (Some of) t q)
            ∙ ap (λ z. new_multiples c x z more) (sym (place_gone c u t))
            ∙ rest
            ∙ ap (λ z. map (renamed c) (cons_option z olds)) (sym none)

pub table : (c : Plan) (x : ℕ) → source c x ≡ None → has (chosen c) x ≡ false → multiples (gathered c) (name c x) ≡ map (renamed c) (multiples c x)
unfolding gathered
table c x s h =
    let z : length c.inputs + 0 ≡ length c.inputs = omega arith in
    let p : staying_below c (length c.inputs) ≡ length c.inputs = place_inputs c (length c.inputs) (omega arith) in
    let t = table_from c x 0 c.gates (λ j g e. let y : 0 + j ≡ j = omega arith in rw y e) s h in
    ap (λ u. new_multiples c x u (gathered_gates c)) (sym p) ∙ subst (λ u. new_multiples c x (staying_below c u) (filter_map (gathered_gate c) (enumerate_from u c.gates)) ≡ map (renamed c) (filter_map (multiple_of (cell_only c) x) (enumerate_from u c.gates))) z t

-- ---- what is asked of them
-- a multiple of a wire that isn't chosen stays
stays_then : (c : Plan) (x i : ℕ) (m : Multiple) → has (chosen c) x ≡ false → slice_get (multiples c x) i ≡ Some m → source c m.wire ≡ None
stays_then c x i m h e = by_source (source c m.wire) refl
  where
    by_source : (o : Option ℕ) → source c m.wire ≡ o → source c m.wire ≡ None
    by_source None q = q
    by_source (Some of) q =
        let r : IsMultiple c x m = multiple_is c x i m e in
        let is : IsSource c m.wire of = source_is c m.wire of q in
        let w = scale_at c m.wire r.place of (Scale m.by x) r.number r.gate q in
        let y : Scale m.by x ≡ Scale w.0 of = w.1 in
        let same : x ≡ of = cc in
        absurd (let f : true ≡ false = sym is.is_chosen ∙ ap (has (chosen c)) (sym same) ∙ h in cc)

same_ask : (c : Plan) (wire u : ℕ) → source c u ≡ None → eqb (name c u) (name c wire) ≡ eqb u wire
same_ask c wire u s = by_both (eqb (name c u) (name c wire)) (eqb u wire) forth (λ t. eq-eqb (name c u) (name c wire) (ap (name c) (eqb-true u wire t)))
  where
    forth : eqb (name c u) (name c wire) ≡ true → eqb u wire ≡ true
    forth t =
        let e : name c u ≡ name c wire = eqb-true (name c u) (name c wire) t in
        let q : u ≡ leader c wire = place_apart c u (leader c wire) (source_stays c u s) (leader_stays c wire) (sym (name_itself c u s) ∙ e) in
        by_source (source c wire) refl q
      where
        by_source : (o : Option ℕ) → source c wire ≡ o → u ≡ leader c wire → eqb u wire ≡ true
        by_source None r q = eq-eqb u wire (q ∙ leader_itself c wire r)
        by_source (Some of) r q =
            let l : u ≡ first_multiple c of = q ∙ leader_of c wire of r in
            let f : source c (first_multiple c of) ≡ Some of = first_source c of (source_is c wire of r).is_chosen in
            absurd (let z : None ≡ Some of = sym s ∙ ap (source c) l ∙ f in cc)

same_asks : (c : Plan) (wire slot : ℕ) (ms : List Multiple) → ((i : ℕ) (m : Multiple) → slice_get ms i ≡ Some m → source c m.wire ≡ None) → filter_map (asked_at (name c wire) slot) (map (renamed c) ms) ≡ filter_map (asked_at wire slot) ms
same_asks c wire slot [] h = refl
same_asks c wire slot (m ∷ ms) h =
    ap (λ b. cons_option (cond b (Some (record { slot = slot; by = m.by })) None) (filter_map (asked_at (name c wire) slot) (map (renamed c) ms))) (same_ask c wire m.wire (h 0 m refl))
    ∙ ap (cons_option (asked_at wire slot m)) (same_asks c wire slot ms (λ i z e. h (suc i) z e))

same_cell : (c : Plan) (ms : List Multiple) (x : Cell) → ((i : ℕ) (m : Multiple) → slice_get ms i ≡ Some m → source c m.wire ≡ None) → asked_by (map (renamed c) ms) (cell_over (name c) x) ≡ asked_by ms x
same_cell c ms (Number n) h = refl
same_cell c ms (Slot wire slot) h = same_asks c wire slot ms h

same_cells : (c : Plan) (ms : List Multiple) (xs : List Cell) → ((i : ℕ) (m : Multiple) → slice_get ms i ≡ Some m → source c m.wire ≡ None) → flat_map (asked_by (map (renamed c) ms)) (map (cell_over (name c)) xs) ≡ flat_map (asked_by ms) xs
same_cells c ms [] h = refl
same_cells c ms (x ∷ xs) h = ap (λ a. a ++ flat_map (asked_by (map (renamed c) ms)) (map (cell_over (name c)) xs)) (same_cell c ms x h) ∙ ap (λ b. asked_by ms x ++ b) (same_cells c ms xs h)

cells_over : (f : ℕ → ℕ) (os : List Output) → flat_map (λ (o : Output). o.cells) (map (output_over f) os) ≡ map (cell_over f) (flat_map (λ (o : Output). o.cells) os)
cells_over f [] = refl
cells_over f (o ∷ os) = ap (λ xs. map (cell_over f) o.cells ++ xs) (cells_over f os) ∙ sym (map-append (cell_over f) o.cells (flat_map (λ (p : Output). p.cells) os))

pub same_asked : (c : Plan) (x : ℕ) → source c x ≡ None → has (chosen c) x ≡ false → asked (gathered c) (name c x) ≡ asked c x
unfolding gathered
same_asked c x s h =
    ap (λ ms. flat_map (asked_by ms) (all_cells (gathered c))) (table c x s h)
    ∙ ap (flat_map (asked_by (map (renamed c) (multiples c x)))) (cells_over (name c) c.outputs)
    ∙ same_cells c (multiples c x) (all_cells c) (λ i m e. stays_then c x i m h e)
