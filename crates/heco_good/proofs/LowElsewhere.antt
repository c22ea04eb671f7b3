-- In a gathered circuit the bounds are low beside the products by plain vectors, where those of the circuit before were low.
use Rattle.std.proofs.Common.{◌≡◌, ◌∙◌, ℕ, ◌+◌, ◌-◌, ◌<◌, ◌≤◌, Bool, true, false, List, length, refl, sym, ap, arith, inl, inr, eqb}
use Rattle.std.specs.Prelude.{Option, Some, None, All, slice_get, slice_index}
use Rattle.std.specs.List.{AllZip}
use Rattle.std.proofs.lemmas.Bool.{ltb-true}
use Rattle.std.proofs.lemmas.List.{length-map}
use Rattle.heco_nums.specs.Presets.{modulus_of, slots_of}
use Rattle.heco_fields.proofs.Bools.{both_true}
use Rattle.heco_circuit.specs.Bounds.{fresh_bounds, weights_of}
use Rattle.heco_circuit.specs.Circuits.{IsCircuit}
use Rattle.heco_circuit.specs.Plans.{Plan, wire_parts, is_cell}
use Rattle.heco_circuit.specs.Validity.{is_between, is_wire, has_parts}
use Rattle.heco_circuit.specs.declared.gate.Cell.{Cell}
use Rattle.heco_circuit.specs.declared.gate.Cell.TheVariants.{Number, Slot}
use Rattle.heco_circuit.specs.declared.gate.Gate.{Gate}
use Rattle.heco_circuit.specs.declared.gate.Output.{Output}
use Rattle.heco_circuit.proofs.Lengths.{length-input_parts, length-fresh_bounds}
use Rattle.heco_written.specs.Bound.{bound, greatest_bound, scheme_of}
use Rattle.heco_written.specs.WrittenForm.{WrittenHome, Known, At, vectors_of}
use Rattle.heco_thrift.specs.Homes.{all_cells}
use Rattle.heco_thrift.specs.Thrift.{bounds_of, gate_bounds, IsWithin, IsLow}
use Rattle.heco_rewrites.specs.Wires.{maker, cell_over, first_wires}
use Rattle.heco_rewrites.proofs.Along.{along_parts, along_long}
use Rattle.heco_rewrites.proofs.Outputs.{cells_stand, zip_outputs}
use Rattle.heco_plainvec.specs.Gathered.{source, first_multiple, stays, staying_below, name, gathered_gate, gathered_gates, gathered_vectors, gathered}
use Rattle.heco_plainvec.proofs.KeptLaw.{keeps_the_rest}
use Rattle.heco_plainvec.proofs.Images.{IsKept, IsWeighed, image_is}
use Rattle.heco_plainvec.proofs.Leaders.{IsSource, source_is, leader_of, first_source, first_stays, first_below}
use Rattle.heco_plainvec.proofs.Meaning.{same_bound}
use Rattle.heco_plainvec.proofs.NothingMore.{IsFound, found_in}
use Rattle.heco_plainvec.proofs.Numbered.{get_is, get-length}
use Rattle.heco_plainvec.proofs.Places.{place_inputs, place_before, place_grows, place_apart, name_itself}
use Rattle.heco_plainvec.proofs.Valid.{no_rows}
use Rattle.heco_plainvec.proofs.Whole.{Valid, valid, whole}
use Rattle.heco_peep.specs.NoWorse.{weighed_by, is_weighed, AreBelowElsewhere}
use Rattle.heco_peep.proofs.Products.{maker_weighs}
use Rattle.heco_peep.proofs.Quiet.{bounds_long, below_most}
use Rattle.heco_good.specs.Compiled.{IsWithinElsewhere, IsLowElsewhere}
use Rattle.heco_good.proofs.Zips.{zip_through}

pub bounds_many : (c : Plan) → length (bounds_of c) ≡ length c.inputs + length c.gates
bounds_many c =
    let l = bounds_long c.preset (weights_of c.preset c.vectors) (fresh_bounds c.preset c.inputs) c.gates in
    let m = length-fresh_bounds c.preset c.inputs in omega (arith, l, m)

module _ (c : Plan) (is : IsCircuit c) where
  abbrev n : ℕ
  n = length c.inputs

  v : Valid c
  v = valid c is

  -- ---- gates
  -- one that stays as it was
  kept_below : (most i : ℕ) (g h : Gate) (f : IsFound c i h) → All (λ e. e ≤ most) (gate_bounds c) → IsKept c (n + f.at) f.gate h → slice_index (bounds_of (gathered c)) (n + i) ≤ most
  kept_below most i g h f low k =
      let l = get-length c.gates f.at f.gate f.here in
      let b = below_most (bounds_of c) n (length c.gates) f.at most (bounds_many c) l low in
      let named : name c (n + f.at) ≡ n + i = name_itself c (n + f.at) k.source_is ∙ f.place_is in
      let same = same_bound c (n + f.at) is (omega (arith, l)) k.source_is in
      let e = ap (slice_index (bounds_of (gathered c))) named in
      omega (arith, b, same, e)

  is_product : (i : ℕ) (h : Gate) (u : ℕ) (g : Gate) → slice_get (gathered_gates c) i ≡ Some h → IsWeighed c u g h → weighed_by (maker n (gathered_gates c) (n + i)) ≡ true
  is_product i h u g e w = maker_weighs n (gathered_gates c) i ∙ ap weighed_by e ∙ ap (λ z. weighed_by (Some z)) w.is

  gate_below : (most wire : ℕ) → All (λ e. e ≤ most) (gate_bounds c) → n ≤ wire → wire < n + length (gathered_gates c) → weighed_by (maker n (gathered_gates c) wire) ≡ false → slice_index (bounds_of (gathered c)) wire ≤ most
  gate_below most wire low ge l none =
      let i : ℕ = wire - n in
      let at : n + i ≡ wire = omega (arith, ge) in
      let r = get_is (gathered_gates c) i (omega (arith, ge, l)) in
      let f : IsFound c i r.0 = found_in c i r.0 r.1 in
      let e = ap (slice_index (bounds_of (gathered c))) at in
      elim (image_is c (n + f.at) f.at f.gate r.0 refl f.here f.image) [
        | inl k ↦ (let b = kept_below most i f.gate r.0 f low k in omega (arith, b, e))
        | inr w ↦ absurd (let q : true ≡ false = sym (is_product i r.0 (n + f.at) f.gate r.1 w) ∙ ap (λ z. weighed_by (maker n (gathered_gates c) z)) at ∙ none in cc)
      ]

  pub gates_below : (most : ℕ) → All (λ e. e ≤ most) (gate_bounds c) → AreBelowElsewhere most (gathered c)
  unfolding gathered
  gates_below most low wire ge l none = gate_below most wire low ge l none

  -- ---- elements
  -- the wire that stands for a multiple that goes is that of a product
  many : staying_below c (n + length c.gates) ≡ n + length (gathered_gates c)
  many =
      let w = whole c (no_rows c) v (length-map c.inputs (λ s. _)) in
      let a = w.swept.new_long in
      let b = along_long c.preset (gathered_vectors c) (first_wires c (no_rows c)) (gathered_gates c) in
      let d = length-input_parts c.inputs in
      omega (arith, a, b, d)

  found_stays : (i : ℕ) (h : Gate) (f : IsFound c i h) → stays c (n + f.at) ≡ true
  found_stays i h f = by_test (stays c (n + f.at)) refl
    where
      by_test : (b : Bool) → stays c (n + f.at) ≡ b → stays c (n + f.at) ≡ true
      by_test true e = e
      by_test false e = absurd (let g : gathered_gate c (n + f.at, f.gate) ≡ None = rw e refl in let q : None ≡ Some h = sym g ∙ f.image in cc)

  image_weighs : (i : ℕ) (h : Gate) (f : IsFound c i h) (of : ℕ) → source c (n + f.at) ≡ Some of → IsWeighed c (n + f.at) f.gate h
  image_weighs i h f of s = elim (image_is c (n + f.at) f.at f.gate h refl f.here f.image) [
    | inl k ↦ absurd (let q : None ≡ Some of = sym (k.source_is) ∙ s in cc)
    | inr w ↦ w
  ]

  gone_weighed : (wire of : ℕ) → wire < n + length c.gates → source c wire ≡ Some of → weighed_by (maker n (gathered_gates c) (name c wire)) ≡ true
  gone_weighed wire of l s =
      let first : ℕ = first_multiple c of in
      let chosen_is = (source_is c wire of s).is_chosen in
      let src : source c first ≡ Some of = first_source c of chosen_is in
      let stands : stays c first ≡ true = first_stays c of chosen_is in
      let named : name c wire ≡ staying_below c first = ap (staying_below c) (leader_of c wire of s) in
      let m : IsSource c first of = source_is c first of src in
      let number = m.number in
      let below = first_below c wire of s in
      let low = place_before c first (n + length c.gates) stands (omega (arith, below, l)) in
      let base = place_inputs c n (omega arith) in
      let grows = place_grows c n first (omega (arith, number)) in
      let i : ℕ = staying_below c first - n in
      let at : n + i ≡ staying_below c first = omega (arith, grows, base) in
      let count = many in
      let r = get_is (gathered_gates c) i (omega (arith, at, low, count)) in
      let f : IsFound c i r.0 = found_in c i r.0 r.1 in
      let same : n + f.at ≡ first = place_apart c (n + f.at) first (found_stays i r.0 f) stands (f.place_is ∙ at) in
      let k : IsWeighed c (n + f.at) f.gate r.0 = image_weighs i r.0 f of (ap (source c) same ∙ src) in
      ap (λ z. weighed_by (maker n (gathered_gates c) z)) (named ∙ sym at) ∙ is_product i r.0 (n + f.at) f.gate r.1 k

  wire_below : (wire slot : ℕ) → is_cell (modulus_of c.preset) (slots_of c.preset) (wire_parts c) (Slot wire slot) ≡ true → wire < n + length c.gates
  wire_below wire slot h =
      let u = both_true (has_parts 2 (wire_parts c) wire) (is_between 0 (slots_of c.preset - 1) slot) h in
      let w = both_true (is_wire (wire_parts c) wire) (eqb (slice_index (wire_parts c) wire) 2) u.0 in
      let l = ltb-true wire (length (wire_parts c)) w.0 in
      let parts = ap length (along_parts c.preset c.vectors (first_wires c (no_rows c)) c.gates) in
      let long = along_long c.preset c.vectors (first_wires c (no_rows c)) c.gates in
      let m = length-input_parts c.inputs in
      omega (arith, l, parts, long, m)

  -- what is within its home stays so, or a product makes its wire
  abbrev Follows : Cell → Cell → Type 0
  Follows x y = (home : WrittenHome) → IsWithin c x home → IsWithinElsewhere (gathered c) y home

  at_gathered : (a : ℕ) → is_weighed (gathered c) a ≡ weighed_by (maker n (gathered_gates c) a)
  unfolding gathered
  at_gathered a = refl

  slot_follows : (wire slot : ℕ) → wire < n + length c.gates → Follows (Slot wire slot) (Slot (name c wire) slot)
  slot_follows wire slot l (Known d) h = λ none. tt
  slot_follows wire slot l (At p) h = by_source (source c wire) refl
    where
      by_source : (o : Option ℕ) → source c wire ≡ o → is_weighed (gathered c) (name c wire) ≡ false → IsWithin (gathered c) (Slot (name c wire) slot) (At p)
      by_source None s none =
          let e = same_bound c wire is l s in
          let b = ap (λ id. bound (scheme_of id) p.vector) (keeps_the_rest c is).preset in
          omega (arith, e, h, b)
      by_source (Some of) s none = absurd (let q : true ≡ false = sym (gone_weighed wire of l s) ∙ sym (at_gathered (name c wire)) ∙ none in cc)

  cell_follows : (i j : ℕ) (o : Output) (x : Cell) → slice_get c.outputs i ≡ Some o → slice_get o.cells j ≡ Some x → Follows x (cell_over (name c) x)
  cell_follows i j o (Number d) e q = λ home h. tt
  cell_follows i j o (Slot wire slot) e q = slot_follows wire slot (wire_below wire slot (cells_stand (modulus_of c.preset) (slots_of c.preset) c.inputs (wire_parts c) _ c.outputs i j o (Slot wire slot) v.outputs e q))

  pub cells_within : (homes : List WrittenHome) → AllZip (IsWithin c) (all_cells c) homes → AllZip (IsWithinElsewhere (gathered c)) (all_cells (gathered c)) homes
  unfolding gathered
  cells_within homes h =
      zip_through Follows (IsWithin c) (IsWithinElsewhere (gathered c)) (λ x y home f w. f home w) (all_cells c) (all_cells (gathered c)) homes (zip_outputs Follows (name c) c.outputs cell_follows) h

  pub low_elsewhere : (homes : List WrittenHome) → IsLow c homes → IsLowElsewhere (gathered c) homes
  unfolding gathered
  low_elsewhere homes low = record {
    gates = gates_below (greatest_bound (scheme_of c.preset) (vectors_of homes)) low.gates;
    outputs = cells_within homes low.outputs;
  }
