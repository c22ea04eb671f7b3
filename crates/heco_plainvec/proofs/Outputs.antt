-- The elements of outputs: what they are, and that they may stand.
use Rattle.std.proofs.Common.{◌≡◌, ℕ, zero, suc, ◌-◌, ◌*◌, ◌%◌, ◌<◌, List, [], ◌∷◌, length, map, refl, ap, sym, ◌∙◌, arith, true, cond, eqb, leb}
use Rattle.std.specs.Prelude.{Option, Some, None, slice_get, slice_index, filter_map}
use Rattle.std.specs.List.{cons_option}
use Rattle.std.proofs.lemmas.Bool.{eq-eqb, ltb-true, lt-ltb, leb-true}
use Rattle.std.proofs.Math.Nat.{zero-mod}
use Rattle.std.proofs.lemmas.List.FromFn.{length-map-range_with_len}
use Rattle.heco_nums.specs.Presets.{modulus_of, slots_of}
use Rattle.heco_fields.proofs.Bools.{both_true, and_true}
use Rattle.heco_circuit.specs.declared.gate.Cell.{Cell}
use Rattle.heco_circuit.specs.declared.gate.Cell.TheVariants.{Number, Slot}
use Rattle.heco_circuit.specs.declared.gate.Gate.TheVariants.{Scale}
use Rattle.heco_circuit.specs.Plans.{Plan, is_cell}
use Rattle.heco_circuit.specs.Validity.{is_between, has_parts, is_wire}
use Rattle.heco_meaning.specs.Meanings.{wire_at, products, cell_value}
use Rattle.heco_thrift.specs.Homes.{all_cells}
use Rattle.heco_rewrites.specs.Wires.{Wires, cell_over}
use Rattle.heco_plainvec.specs.Gathering.{multiples, asked_at, asked_by, asked, at_slot, vector}
use Rattle.heco_plainvec.specs.Gathered.{source, name}
use Rattle.heco_plainvec.proofs.Numbered.{get_flat, maker_is}
use Rattle.heco_plainvec.proofs.Leaders.{multiple_has, IsSource, source_is, chosen_serves, served}
use Rattle.heco_plainvec.proofs.Asked.{vector_there}
use Rattle.heco_plainvec.proofs.Known.{parts_known, slots_known}
use Rattle.heco_plainvec.proofs.Swept.{IsGone, IsSwept, name_below}

-- ---- places of products and multiples
pub product_at : (t : ℕ) (v xs : List ℕ) (j : ℕ) → j < length v → slice_index (products t v xs) j ≡ (slice_index v j * slice_index xs j) % t
product_at t [] xs j l = absurd (omega (arith, l))
product_at t (y ∷ v) [] j l = let z : slice_index (y ∷ v) j * 0 ≡ 0 = omega arith in sym (ap (λ k. k % t) z ∙ zero-mod t)
product_at t (y ∷ v) (x ∷ xs) zero l = refl
product_at t (y ∷ v) (x ∷ xs) (suc j) l = product_at t v xs j (omega (arith, l))

pub multiple_at : (t k : ℕ) (xs : List ℕ) (j : ℕ) → slice_index (map (λ x. (k * x) % t) xs) j ≡ (k * slice_index xs j) % t
multiple_at t k [] j = let z : k * 0 ≡ 0 = omega arith in sym (ap (λ x. x % t) z ∙ zero-mod t)
multiple_at t k (x ∷ xs) zero = refl
multiple_at t k (x ∷ xs) (suc j) = multiple_at t k xs j

-- ---- what a cell asks of a multiple
pub mapped_there : {X Y : Type 0} (h : X → Option Y) (xs : List X) (k : ℕ) (x : X) (y : Y) → slice_get xs k ≡ Some x → h x ≡ Some y → (i : ℕ) × (slice_get (filter_map h xs) i ≡ Some y)
mapped_there h [] k x y e q = absurd cc
mapped_there h (z ∷ xs) zero x y e q =
    let w : z ≡ x = (let r : Some z ≡ Some x = e in cc) in
    let a : h z ≡ Some y = ap h w ∙ q in
    (0, ap (λ o. slice_get (cons_option o (filter_map h xs)) 0) a)
mapped_there {Y = Y} h (z ∷ xs) (suc k) x y e q = by_answer (h z) (mapped_there h xs k x y e q)
  where
    by_answer : (o : Option Y) → (i : ℕ) × (slice_get (filter_map h xs) i ≡ Some y) → (i : ℕ) × (slice_get (cons_option o (filter_map h xs)) i ≡ Some y)
    by_answer None r = r
    by_answer (Some w) r = (suc r.0, r.1)

asked_itself : (wire slot by : ℕ) → asked_at wire slot (record { wire = wire; by = by }) ≡ Some (record { slot = slot; by = by })
asked_itself wire slot by = ap (λ b. cond b (Some (record { slot = slot; by = by })) None) (eq-eqb wire wire refl)

-- ---- a cell
pub cell_means : (c : Plan) (old new : Wires) (u : ℕ) (x : Cell) (i : ℕ) → IsSwept c u old new → slice_get (all_cells c) i ≡ Some x → is_cell (modulus_of c.preset) (slots_of c.preset) old.parts x ≡ true → 0 < slots_of c.preset
    → cell_value new.slots (cell_over (name c) x) ≡ cell_value old.slots x
cell_means c old new u (Number n) i s e v pos = refl
cell_means c old new u (Slot wire slot) i s e v pos = by_source (source c wire) refl
  where
    t : ℕ
    t = modulus_of c.preset

    w : (has_parts 2 old.parts wire ≡ true) × (is_between 0 (slots_of c.preset - 1) slot ≡ true)
    w = both_true (has_parts 2 old.parts wire) (is_between 0 (slots_of c.preset - 1) slot) v

    below : wire < u
    below = rw (← (s.old_long)) (ltb-true wire (length old.parts) (both_true (is_wire old.parts wire) (eqb (slice_index old.parts wire) 2) w.0).0)

    slot_below : slot < slots_of c.preset
    slot_below = let l = leb-true slot (slots_of c.preset - 1) (both_true (leb 0 slot) (leb slot (slots_of c.preset - 1)) w.1).1 in omega (arith, l, pos)

    by_source : (o : Option ℕ) → source c wire ≡ o → slice_index (wire_at new.slots (name c wire)) slot ≡ slice_index (wire_at old.slots wire) slot
    by_source None q = ap (λ k. slice_index (slots_known k) slot) (s.before.each wire below q)
    by_source (Some a) q =
        let z : IsGone c old new wire a = s.before.gone wire a below q in
        let is : IsSource c wire a = source_is c wire a q in
        let m = maker_is (length c.inputs) c.gates wire (Scale z.by a) z.gate in
        let only = is.only in
        let there = multiple_has c a m.0 z.by m.2 (rw (← (m.1)) only) in
        let here : slice_get (multiples c a) there.0 ≡ Some (record { wire = wire; by = z.by }) = there.1 ∙ ap (λ u. Some (record { wire = u; by = z.by })) (sym m.1) in
        let one = mapped_there (asked_at wire slot) (multiples c a) there.0 (record { wire = wire; by = z.by }) (record { slot = slot; by = z.by }) here (asked_itself wire slot z.by) in
        let ask = get_flat (asked_by (multiples c a)) (all_cells c) i one.0 (Slot wire slot) (record { slot = slot; by = z.by }) e one.1 in
        let at : slice_index (vector c a) slot ≡ z.by = vector_there c a (record { slot = slot; by = z.by }) ask.0 (served c a (chosen_serves c a is.is_chosen)).agreed ask.1 slot_below in
        let long : slot < length (vector c a) = rw (length-map-range_with_len (at_slot (asked c a)) 0 (slots_of c.preset)) slot_below in
        ap (λ xs. slice_index xs slot) z.weighed ∙ product_at t (vector c a) (wire_at old.slots a) slot long
        ∙ ap (λ k. (k * slice_index (wire_at old.slots a) slot) % t) at ∙ sym (ap (λ xs. slice_index xs slot) z.scaled ∙ multiple_at t z.by (wire_at old.slots a) slot)

pub cell_stands : (c : Plan) (old new : Wires) (u : ℕ) (x : Cell) → IsSwept c u old new → is_cell (modulus_of c.preset) (slots_of c.preset) old.parts x ≡ true → is_cell (modulus_of c.preset) (slots_of c.preset) new.parts (cell_over (name c) x) ≡ true
cell_stands c old new u (Number n) s v = v
cell_stands c old new u (Slot wire slot) s v =
    let w = both_true (has_parts 2 old.parts wire) (is_between 0 (slots_of c.preset - 1) slot) v in
    let p = both_true (is_wire old.parts wire) (eqb (slice_index old.parts wire) 2) w.0 in
    let below : wire < u = rw (← (s.old_long)) (ltb-true wire (length old.parts) p.0) in
    let within : name c wire < length new.parts = rw (s.new_long) (name_below c wire u below) in
    let same : slice_index new.parts (name c wire) ≡ slice_index old.parts wire = by_source below (source c wire) refl in
    and_true (has_parts 2 new.parts (name c wire)) (is_between 0 (slots_of c.preset - 1) slot)
    (and_true (is_wire new.parts (name c wire)) (eqb (slice_index new.parts (name c wire)) 2) (lt-ltb (name c wire) (length new.parts) within) (ap (λ k. eqb k 2) same ∙ p.1)) w.1
  where
    by_source : wire < u → (o : Option ℕ) → source c wire ≡ o → slice_index new.parts (name c wire) ≡ slice_index old.parts wire
    by_source below None q = ap parts_known (s.before.each wire below q)
    by_source below (Some a) q = let z : IsGone c old new wire a = s.before.gone wire a below q in z.parts ∙ sym z.parts_are
