-- What the output cells of a valid circuit ask: slots that there are, and constants of multiples.
use Rattle.std.proofs.Common.{◌≡◌, refl, ap, ℕ, zero, suc, ◌-◌, ◌<◌, ◌≤◌, List, [], ◌∷◌, map, length, arith, Bool, true, false, eqb, leb, cond, subst}
use Rattle.std.specs.Prelude.{All, Some, None, slice_get}
use Rattle.std.specs.List.{list_all, range_with_len}
use Rattle.std.proofs.lemmas.Bool.{eq-eqb, le-leb, leb-true}
use Rattle.std.proofs.lemmas.List.FromFn.{length-map-range_with_len}
use Rattle.heco_nums.specs.Presets.{modulus_of, slots_of}
use Rattle.heco_nums.proofs.PresetCases.{slots_pos, modulus_pos}
use Rattle.heco_fields.proofs.Bools.{both_true, and_true}
use Rattle.heco_circuit.specs.declared.gate.Cell.{Cell}
use Rattle.heco_circuit.specs.declared.gate.Cell.TheVariants.{Number, Slot}
use Rattle.heco_circuit.specs.declared.gate.Gate.{Gate}
use Rattle.heco_circuit.specs.declared.gate.Gate.TheVariants.{Scale}
use Rattle.heco_circuit.specs.declared.gate.Output.{Output}
use Rattle.heco_circuit.specs.Plans.{Plan, input_parts, wire_parts, is_vector, is_cell}
use Rattle.heco_circuit.specs.Validity.{is_between, is_gate, is_wire, has_parts, with_gate}
use Rattle.heco_thrift.specs.Homes.{all_cells}
use Rattle.heco_plainvec.specs.declared.multiple.Multiple.{Multiple}
use Rattle.heco_plainvec.specs.declared.multiple.Asked.{Asked}
use Rattle.heco_plainvec.specs.Gathering.{multiples, asked_at, asked_by, asked, at_slot, vector_of}
use Rattle.heco_plainvec.specs.inside.Finding.{IsAsk}
use Rattle.heco_plainvec.proofs.Each.{Each, each_flat, each_found, each_all}
use Rattle.heco_plainvec.proofs.Leaders.{IsMultiple, multiple_is}
use Rattle.heco_plainvec.proofs.Sweep.{may_stand}
use Rattle.heco_plainvec.proofs.Whole.{Valid}
use Rattle.heco_rewrites.proofs.Outputs.{cells_stand}

-- ---- the constants
gate_at : (c : Plan) (parts : List ℕ) (gates : List Gate) (k by a : ℕ) → may_stand c (length c.vectors) parts gates ≡ true → slice_get gates k ≡ Some (Scale by a) → is_between 1 (modulus_of c.preset - 1) by ≡ true
gate_at c parts [] k by a h e = absurd cc
gate_at c parts (g ∷ gates) zero by a h e =
    let q : g ≡ Scale by a = (let s : Some g ≡ Some (Scale by a) = e in cc) in
    let u = both_true (is_gate (modulus_of c.preset) (slots_of c.preset) (length c.vectors) parts g) (may_stand c (length c.vectors) (with_gate parts g) gates) h in
    let w : is_gate (modulus_of c.preset) (slots_of c.preset) (length c.vectors) parts (Scale by a) ≡ true = subst (λ z. is_gate (modulus_of c.preset) (slots_of c.preset) (length c.vectors) parts z ≡ true) q u.0 in
    (both_true (is_between 1 (modulus_of c.preset - 1) by) (is_wire parts a) w).0
gate_at c parts (g ∷ gates) (suc k) by a h e =
    gate_at c (with_gate parts g) gates k by a (both_true (is_gate (modulus_of c.preset) (slots_of c.preset) (length c.vectors) parts g) (may_stand c (length c.vectors) (with_gate parts g) gates) h).1 e

-- a constant of a multiple
abbrev IsConstant : ℕ → Multiple → Type 0
IsConstant id m = (1 ≤ m.by) × (m.by < modulus_of id)

multiples_are : (c : Plan) (a : ℕ) → Valid c → Each (IsConstant c.preset) (multiples c a)
multiples_are c a v i m e =
    let r : IsMultiple c a m = multiple_is c a i m e in
    let b = both_true (leb 1 m.by) (leb m.by (modulus_of c.preset - 1)) (gate_at c (input_parts c.inputs) c.gates r.place m.by a v.gates r.gate) in
    let low = leb-true 1 m.by b.0 in
    let high = leb-true m.by (modulus_of c.preset - 1) b.1 in
    let pos = modulus_pos c.preset in
    (low, omega (arith, high, pos))

-- ---- the slots
cells_are : (c : Plan) → Valid c → Each (λ x. is_cell (modulus_of c.preset) (slots_of c.preset) (wire_parts c) x ≡ true) (all_cells c)
cells_are c v =
    each_flat (λ x. is_cell (modulus_of c.preset) (slots_of c.preset) (wire_parts c) x ≡ true) (λ (o : Output). o.cells) c.outputs
    (λ i o e j x q. cells_stand (modulus_of c.preset) (slots_of c.preset) c.inputs (wire_parts c) [] c.outputs i j o x v.outputs e q)

one_ask : (id wire slot : ℕ) (m : Multiple) (y : Asked) → slot < slots_of id → IsConstant id m → asked_at wire slot m ≡ Some y → IsAsk id y
one_ask id wire slot m y l k e = by_test (eqb m.wire wire) e
  where
    by_test : (b : Bool) → cond b (Some (record { slot = slot; by = m.by })) None ≡ Some y → IsAsk id y
    by_test true e =
        let q : record { slot = slot; by = m.by } ≡ y = cc in
        let s : slot ≡ y.slot = ap (λ (z : Asked). z.slot) q in
        let b : m.by ≡ y.by = ap (λ (z : Asked). z.by) q in
        let low = k.0 in
        let high = k.1 in
        (omega (arith, s, l), omega (arith, b, low), omega (arith, b, high))
    by_test false e = absurd cc

asks_by : (id t : ℕ) (parts : List ℕ) (ms : List Multiple) (x : Cell) → Each (IsConstant id) ms → is_cell t (slots_of id) parts x ≡ true → Each (IsAsk id) (asked_by ms x)
asks_by id t parts ms (Number n) h v = λ i y e. absurd cc
asks_by id t parts ms (Slot wire slot) h v =
    let w = both_true (has_parts 2 parts wire) (is_between 0 (slots_of id - 1) slot) v in
    let l = leb-true slot (slots_of id - 1) (both_true (leb 0 slot) (leb slot (slots_of id - 1)) w.1).1 in
    let pos = slots_pos id in
    let below : slot < slots_of id = omega (arith, l, pos) in
    each_found (IsConstant id) (IsAsk id) (asked_at wire slot) ms (λ m y k e. one_ask id wire slot m y below k e) h

pub asked_are : (c : Plan) (a : ℕ) → Valid c → All (IsAsk c.preset) (asked c a)
asked_are c a v =
    each_all (IsAsk c.preset) (asked c a)
    (each_flat (IsAsk c.preset) (asked_by (multiples c a)) (all_cells c)
    (λ i x e. asks_by c.preset (modulus_of c.preset) (wire_parts c) (multiples c a) x (multiples_are c a v) (cells_are c v i x e)))

-- ---- the vector
slot_low : (id : ℕ) (xs : List Asked) (j : ℕ) → All (IsAsk id) xs → at_slot xs j ≤ modulus_of id - 1
slot_low id [] j h = omega arith
slot_low id (x ∷ xs) j h = by_test (eqb x.slot j) (slot_low id xs j (λ k d l. h (suc k) d (omega (arith, l))))
  where
    by_test : (t : Bool) → at_slot xs j ≤ modulus_of id - 1 → cond t x.by (at_slot xs j) ≤ modulus_of id - 1
    by_test true l = let k : IsAsk id x = h 0 x (omega arith) in let high = k.2 in omega (arith, high)
    by_test false l = l

numbers_low : (b : ℕ) (f : ℕ → ℕ) (js : List ℕ) → ((j : ℕ) → f j ≤ b) → list_all (is_between 0 b) (map f js) ≡ true
numbers_low b f [] h = refl
numbers_low b f (j ∷ js) h = and_true (is_between 0 b (f j)) (list_all (is_between 0 b) (map f js)) (and_true (leb 0 (f j)) (leb (f j) b) (le-leb 0 (f j) (omega arith)) (le-leb (f j) b (h j))) (numbers_low b f js h)

pub vector_fits : (id : ℕ) (xs : List Asked) → All (IsAsk id) xs → is_vector (modulus_of id) (slots_of id) (vector_of id xs) ≡ true
vector_fits id xs h =
    and_true (eqb (length (vector_of id xs)) (slots_of id)) (list_all (is_between 0 (modulus_of id - 1)) (vector_of id xs))
    (eq-eqb (length (vector_of id xs)) (slots_of id) (length-map-range_with_len (at_slot xs) 0 (slots_of id)))
    (numbers_low (modulus_of id - 1) (at_slot xs) (range_with_len 0 (slots_of id)) (λ j. slot_low id xs j h))
