-- The circuit that a pass brings is valid, means the same, and costs no more.
use Rattle.std.proofs.Common.{◌≡◌, ℕ, ◌+◌, ◌-◌, ◌^◌, ◌<◌, ◌≤◌, List, [], length, map, refl, ap, sym, ◌∙◌, arith, true, false, ◌&&◌, leb, eqb, subst}
use Rattle.std.specs.Prelude.{Some, None, slice_get, slice_index, All, flat_map}
use Rattle.std.specs.List.{list_all, AllZip}
use Rattle.std.specs.Option.{is_none}
use Rattle.std.proofs.lemmas.Bool.{leb-true, le-leb, ltb-true}
use Rattle.std.proofs.lemmas.List.{length-map}
use Rattle.heco_nums.specs.Presets.{modulus_of, slots_of}
use Rattle.heco_nums.specs.declared.preset.Preset.{Preset}
use Rattle.heco_noise.specs.Rows.{IsQuiet}
use Rattle.heco_nums.specs.Runs.{all_along}
use Rattle.heco_nums.proofs.PresetCases.{modulus_pos}
use Rattle.heco_fields.proofs.Bools.{both_true, and_true}
use Rattle.heco_circuit.specs.declared.gate.Cell.{Cell}
use Rattle.heco_circuit.specs.declared.gate.Cell.TheVariants.{Number, Slot}
use Rattle.heco_circuit.specs.declared.gate.Gate.{Gate}
use Rattle.heco_circuit.specs.declared.gate.Output.{Output}
use Rattle.heco_circuit.specs.Bounds.{fresh_bounds, weights_of, wire_bounds}
use Rattle.heco_circuit.specs.Circuits.{IsCircuit, passing}
use Rattle.heco_circuit.specs.Plans.{Plan, input_parts, wire_parts, is_vector, is_input, is_output, is_cell, push, are_inputs, are_vectors, are_gates, are_outputs, is_formed, shape_of}
use Rattle.heco_circuit.specs.Validity.{is_between, is_gate, is_wire, has_parts, with_gate}
use Rattle.heco_circuit.proofs.QuietLaw.{quiet_law}
use Rattle.heco_circuit.proofs.Lengths.{length-input_parts}
use Rattle.heco_meaning.specs.Meanings.{wire_at, wires_of, meaning_of, output_values}
use Rattle.heco_texts.specs.Answers.{HaveFit}
use Rattle.heco_thrift.specs.Homes.{all_cells}
use Rattle.heco_thrift.specs.Thrift.{bounds_of, gate_bounds}
use Rattle.heco_rewrites.specs.Wires.{Wires, StandsFor, cell_over, output_over, maker}
use Rattle.heco_rewrites.specs.Full.{AreFull}
use Rattle.heco_rewrites.proofs.Along.{along_parts, along_bounds, along_slots}
use Rattle.heco_peep.specs.Rules.{Rule}
use Rattle.heco_peep.specs.Looks.{Progress, looked}
use Rattle.heco_peep.specs.Passed.{renamed, needed_of, without_dead}
use Rattle.heco_peep.specs.NoWorse.{weighed_by, AreBelowElsewhere, IsSameCell}
use Rattle.heco_peep.proofs.Look.{Ground, Formed}
use Rattle.heco_peep.proofs.Whole.{base, wires, shown_output, new_name, IsUnder, Arrives, arrives}
use Rattle.heco_peep.proofs.Rows.{base_even, rows_long, rows_full, no_rows, blank_full}
use Rattle.heco_rewrites.proofs.Outputs.{cells_stand, outputs_stand, outputs_mean, cell_stands, cell_means, outputs_twice, same_shapes, zip_outputs}
use Rattle.heco_peep.proofs.Products.{weighs_at, maker_weighs}
use Rattle.heco_peep.proofs.Quiet.{bounds_long, none_passes, below_most, all_below_most}
use Rattle.heco_peep.specs.inside.Ready.{room}
use Rattle.heco_peep.proofs.Sizes.{short, outputs_room}

-- ---- what a valid circuit has
pub record Valid (c : Plan) : Type 0 where
  pub preset : is_between 1 5 c.preset ≡ true
  pub inputs : are_inputs c ≡ true
  pub vectors : are_vectors c ≡ true
  pub vectors_are : list_all (is_vector (modulus_of c.preset) (slots_of c.preset)) c.vectors ≡ true
  pub few_gates : length c.gates ≤ 2 ^ 25 - 1
  pub gates : all_along (is_gate (modulus_of c.preset) (slots_of c.preset) (length c.vectors)) with_gate (input_parts c.inputs) c.gates ≡ true
  pub few_outputs : length c.outputs ≤ 256 - length c.inputs
  pub outputs : all_along (is_output (modulus_of c.preset) (slots_of c.preset) c.inputs (wire_parts c)) push [] c.outputs ≡ true
  pub quiet : All IsQuiet (wire_bounds c.preset (weights_of c.preset c.vectors) c.inputs c.gates)

pub valid : (c : Plan) → IsCircuit c → Valid c
valid c h =
    let a = both_true (is_between 1 5 c.preset) (are_inputs c && (are_vectors c && (are_gates c && are_outputs c))) h.0 in
    let b = both_true (are_inputs c) (are_vectors c && (are_gates c && are_outputs c)) a.1 in
    let d = both_true (are_vectors c) (are_gates c && are_outputs c) b.1 in
    let e = both_true (are_gates c) (are_outputs c) d.1 in
    let v = both_true (leb (length c.vectors) 256) (list_all (is_vector (modulus_of c.preset) (slots_of c.preset)) c.vectors) d.0 in
    let g = both_true (leb (length c.gates) (2 ^ 25 - 1)) (all_along (is_gate (modulus_of c.preset) (slots_of c.preset) (length c.vectors)) with_gate (input_parts c.inputs) c.gates) e.0 in
    let o = both_true (leb (length c.outputs) (256 - length c.inputs)) (all_along (is_output (modulus_of c.preset) (slots_of c.preset) c.inputs (wire_parts c)) push [] c.outputs) e.1 in
    record {
      preset = a.0;
      inputs = b.0;
      vectors = d.0;
      vectors_are = v.1;
      few_gates = leb-true (length c.gates) (2 ^ 25 - 1) g.0;
      gates = g.1;
      few_outputs = leb-true (length c.outputs) (256 - length c.inputs) o.0;
      outputs = o.1;
      quiet = quiet_law c h;
    }

-- ---- what comes of a pass, under the circuit's own preset
pub here : (p : Preset) (c : Plan) (rule : Rule) (state : List ℕ) (rows : List (List ℕ)) → p.id ≡ c.preset → Valid c → length rows ≡ length c.inputs → AreFull c.preset (base c.preset c rows)
    → Arrives c.preset c rows (looked p c rule state)
here p c rule state rows q v e full =
    let ground : Ground c.preset c.vectors (base c.preset c rows) = record { some = modulus_pos c.preset; vectors = v.vectors_are; even = base_even c.preset c rows e; full = full } in
    subst (λ id. Arrives id c rows (looked p c rule state)) q
    (arrives p c rows rule state (subst (λ id. Ground id c.vectors (base id c rows)) (sym q) ground) (subst (λ id. Formed id c.vectors (base id c rows) c.gates) (sym q) v.gates))

full_rows : (c : Plan) (rows : List (List ℕ)) → Valid c → HaveFit (modulus_of c.preset) c.inputs rows → AreFull c.preset (base c.preset c rows)
full_rows c rows v h a l =
    let u = both_true (leb (length c.inputs) 256) (all_along (is_input (slots_of c.preset)) push [] c.inputs) v.inputs in
    let m = length-input_parts c.inputs in
    rows_full c.preset [] c.inputs rows (modulus_pos c.preset) u.1 h a (omega (arith, l, m))

pub full_blank : (c : Plan) → AreFull c.preset (base c.preset c (no_rows c.inputs))
full_blank c a l = let m = length-input_parts c.inputs in blank_full c.preset c.inputs (modulus_pos c.preset) a (omega (arith, l, m))

pub for_rows : (p : Preset) (c : Plan) (rule : Rule) (state : List ℕ) (rows : List (List ℕ)) → p.id ≡ c.preset → Valid c → HaveFit (modulus_of c.preset) c.inputs rows → Arrives c.preset c rows (looked p c rule state)
for_rows p c rule state rows q v h = here p c rule state rows q v (rows_long (modulus_of c.preset) c.inputs rows h) (full_rows c rows v h)

pub for_none : (p : Preset) (c : Plan) (rule : Rule) (state : List ℕ) → p.id ≡ c.preset → Valid c → Arrives c.preset c (no_rows c.inputs) (looked p c rule state)
for_none p c rule state q v = here p c rule state (no_rows c.inputs) q v (length-map c.inputs (λ s. [])) (full_blank c)

-- ---- the wires of cells
old_parts : (c : Plan) (rows : List (List ℕ)) → (wires c.preset c rows c.gates).parts ≡ wire_parts c
old_parts c rows = along_parts c.preset c.vectors (base c.preset c rows) c.gates

cell_is : (c : Plan) (rows : List (List ℕ)) (i j : ℕ) (o : Output) (x : Cell) → Valid c → slice_get c.outputs i ≡ Some o → slice_get o.cells j ≡ Some x
    → is_cell (modulus_of c.preset) (slots_of c.preset) (wires c.preset c rows c.gates).parts x ≡ true
cell_is c rows i j o x v e q =
    subst (λ ps. is_cell (modulus_of c.preset) (slots_of c.preset) ps x ≡ true) (sym (old_parts c rows))
    (cells_stand (modulus_of c.preset) (slots_of c.preset) c.inputs (wire_parts c) [] c.outputs i j o x v.outputs e q)

-- each is stood for
stood : (c : Plan) (rows : List (List ℕ)) (s : Progress) (i j : ℕ) (o : Output) (x : Cell) → Arrives c.preset c rows s → slice_get c.outputs i ≡ Some o → slice_get o.cells j ≡ Some x
    → (w k : ℕ) → x ≡ Slot w k → w < length (wires c.preset c rows c.gates).parts → StandsFor (wires c.preset c rows c.gates) (wires c.preset c rows (needed_of (renamed c s)).gates) w (new_name c s w)
stood c rows s i j o x a e q w k is l = a.each w l (shown_output (slice_index s.names) c.outputs i j w k o e (q ∙ ap Some is))

-- ---- valid
abbrev pub brought : Plan → Progress → Plan
brought c s = without_dead (renamed c s)

new_outputs : (c : Plan) (s : Progress) → (brought c s).outputs ≡ map (output_over (new_name c s)) c.outputs
new_outputs c s = outputs_twice (slice_index s.names) (slice_index (needed_of (renamed c s)).names) c.outputs

outputs_are : (c : Plan) (s : Progress) → Valid c → Arrives c.preset c (no_rows c.inputs) s
    → all_along (is_output (modulus_of c.preset) (slots_of c.preset) c.inputs (wire_parts (brought c s))) push [] (map (output_over (new_name c s)) c.outputs) ≡ true
outputs_are c s v a =
    let t : ℕ = modulus_of c.preset in
    let N : ℕ = slots_of c.preset in
    let rows : List (List ℕ) = no_rows c.inputs in
    let new : Wires = wires c.preset c rows (needed_of (renamed c s)).gates in
    let parts : new.parts ≡ wire_parts (brought c s) = along_parts c.preset c.vectors (base c.preset c rows) (needed_of (renamed c s)).gates in
    outputs_stand t N c.inputs (wire_parts c) (wire_parts (brought c s)) (new_name c s) [] c.outputs v.outputs (λ i j o x e q.
    subst (λ ps. is_cell t N ps (cell_over (new_name c s) x) ≡ true) parts
    (cell_stands t N (wires c.preset c rows c.gates) new (new_name c s) x (stood c rows s i j o x a e q) (cell_is c rows i j o x v e q)))

all_quiet : (c : Plan) (s : Progress) → Valid c → Arrives c.preset c (no_rows c.inputs) s → passing (brought c s) ≡ None
all_quiet c s v a =
    let rows : List (List ℕ) = no_rows c.inputs in
    let gates : List Gate = (needed_of (renamed c s)).gates in
    let weights : List ℕ = weights_of c.preset c.vectors in
    let first : List ℕ = fresh_bounds c.preset c.inputs in
    let old = along_bounds c.preset c.vectors (base c.preset c rows) c.gates in
    let new = along_bounds c.preset c.vectors (base c.preset c rows) gates in
    let many : length first ≡ length c.inputs = (base_even c.preset c rows (length-map c.inputs (λ s. []))).bounds ∙ length-input_parts c.inputs in
    let long = bounds_long c.preset weights first c.gates in
    none_passes c.preset weights 0 first gates (λ i l.
    let u : IsUnder (wires c.preset c rows c.gates).bounds (length c.inputs) c.gates (weighs_at gates i) (slice_index (wires c.preset c rows gates).bounds (length c.inputs + i)) = a.bounds i l in
    let w = u.within in
    let q : IsQuiet (slice_index (wire_bounds c.preset weights c.inputs c.gates) (length c.inputs + u.gate)) = v.quiet (length c.inputs + u.gate) 0 (omega (arith, w, long, many)) in
    let above = u.above in
    let e1 = ap (λ bs. slice_index bs (length c.inputs + u.gate)) old in
    let e2 = ap (λ bs. slice_index bs (length c.inputs + i)) new in
    rw many (omega (arith, q, above, e1, e2)))

pub brought_valid : (p : Preset) (c : Plan) (rule : Rule) (state : List ℕ) → p.id ≡ c.preset → IsCircuit c → room c < 2 ^ 29 → IsCircuit (brought c (looked p c rule state)) × (room (brought c (looked p c rule state)) ≤ room c)
brought_valid p c rule state q h r =
    let v : Valid c = valid c h in
    let s : Progress = looked p c rule state in
    let d : Plan = brought c s in
    let a : Arrives c.preset c (no_rows c.inputs) s = for_none p c rule state q v in
    let fewer = a.fewer in
    let few = v.few_gates in
    let outs = v.few_outputs in
    let long : length d.outputs ≡ length c.outputs = ap length (new_outputs c s) ∙ length-map c.outputs (output_over (new_name c s)) in
    let gate : are_gates d ≡ true = and_true _ _ (le-leb (length d.gates) (2 ^ 25 - 1) (omega (arith, fewer, few))) a.formed in
    let out : are_outputs d ≡ true = and_true _ _ (le-leb (length d.outputs) (256 - length c.inputs) (omega (arith, outs, long)))
    (subst (λ os. all_along (is_output (modulus_of c.preset) (slots_of c.preset) c.inputs (wire_parts d)) push [] os ≡ true) (sym (new_outputs c s)) (outputs_are c s v a)) in
    let formed : is_formed d ≡ true = and_true _ _ v.preset (and_true _ _ v.inputs (and_true _ _ v.vectors (and_true _ _ gate out))) in
    let less : room d ≤ room c = (let e = outputs_room (slice_index s.names) c.outputs in let f = outputs_room (slice_index (needed_of (renamed c s)).names) (map (output_over (slice_index s.names)) c.outputs) in omega (arith, e, f, fewer)) in
    ((formed, ap is_none (all_quiet c s v a), short d (omega (arith, less, r))), less)

-- ---- the same meaning
pub brought_means : (p : Preset) (c : Plan) (rule : Rule) (state : List ℕ) (rows : List (List ℕ)) → p.id ≡ c.preset → Valid c → HaveFit (modulus_of c.preset) c.inputs rows
    → meaning_of (brought c (looked p c rule state)) rows ≡ meaning_of c rows
unfolding meaning_of
brought_means p c rule state rows q v fit =
    let t : ℕ = modulus_of c.preset in
    let N : ℕ = slots_of c.preset in
    let s : Progress = looked p c rule state in
    let a : Arrives c.preset c rows s = for_rows p c rule state rows q v fit in
    let gates : List Gate = (needed_of (renamed c s)).gates in
    let old = along_slots c.preset c.vectors (base c.preset c rows) c.gates in
    let new = along_slots c.preset c.vectors (base c.preset c rows) gates in
    let mean = outputs_mean (wires c.preset c rows c.gates).slots (wires c.preset c rows gates).slots (new_name c s) c.outputs (λ i j o x e k.
    cell_means t N (wires c.preset c rows c.gates) (wires c.preset c rows gates) (new_name c s) x (stood c rows s i j o x a e k) (cell_is c rows i j o x v e k)) in
    ap (λ os. map (output_values (wires_of (brought c s) rows)) os) (new_outputs c s) ∙ ap (λ ws. map (output_values ws) (map (output_over (new_name c s)) c.outputs)) (sym new) ∙ mean
    ∙ ap (λ ws. map (output_values ws) c.outputs) old

-- ---- cells and bounds
same_cell : (p : Preset) (c : Plan) (rule : Rule) (state : List ℕ) → p.id ≡ c.preset → Valid c → (i j : ℕ) (o : Output) (x : Cell) → slice_get c.outputs i ≡ Some o → slice_get o.cells j ≡ Some x
    → IsSameCell c (brought c (looked p c rule state)) x (cell_over (new_name c (looked p c rule state)) x)
same_cell p c rule state q v i j o (Number n) e k = refl
same_cell p c rule state q v i j o (Slot w slot) e k =
    let s : Progress = looked p c rule state in
    let gates : List Gate = (needed_of (renamed c s)).gates in
    let none : List (List ℕ) = no_rows c.inputs in
    let within : (rows : List (List ℕ)) → w < length (wires c.preset c rows c.gates).parts = (λ rows.
    let u = both_true (has_parts 2 (wires c.preset c rows c.gates).parts w) (is_between 0 (slots_of c.preset - 1) slot) (cell_is c rows i j o (Slot w slot) v e k) in
    ltb-true w (length (wires c.preset c rows c.gates).parts) (both_true (is_wire (wires c.preset c rows c.gates).parts w) (eqb (slice_index (wires c.preset c rows c.gates).parts w) 2) u.0).0) in (
      refl,
      record {
        bound =
            let st = stood c none s i j o (Slot w slot) (for_none p c rule state q v) e k w slot refl (within none) in
            let b = st.bounds in
            let e1 = ap (λ bs. slice_index bs w) (along_bounds c.preset c.vectors (base c.preset c none) c.gates) in
            let e2 = ap (λ bs. slice_index bs (new_name c s w)) (along_bounds c.preset c.vectors (base c.preset c none) gates) in
            omega (arith, b, e1, e2);
        means = λ rows fit.
            let st = stood c rows s i j o (Slot w slot) (for_rows p c rule state rows q v fit) e k w slot refl (within rows) in
            ap (λ ws. wire_at ws (new_name c s w)) (sym (along_slots c.preset c.vectors (base c.preset c rows) gates)) ∙ st.slots
            ∙ ap (λ ws. wire_at ws w) (along_slots c.preset c.vectors (base c.preset c rows) c.gates);
        weighed = λ h. (for_none p c rule state q v).weighed w h (shown_output (slice_index s.names) c.outputs i j w slot o e k);
      },
    )

pub brought_cells : (p : Preset) (c : Plan) (rule : Rule) (state : List ℕ) → p.id ≡ c.preset → Valid c → AllZip (IsSameCell c (brought c (looked p c rule state))) (all_cells c) (all_cells (brought c (looked p c rule state)))
brought_cells p c rule state q v =
    let s : Progress = looked p c rule state in
    subst (λ os. AllZip (IsSameCell c (brought c s)) (all_cells c) (flat_map (λ (o : Output). o.cells) os)) (sym (new_outputs c s))
    (zip_outputs (IsSameCell c (brought c s)) (new_name c s) c.outputs (λ i j o x e k. same_cell p c rule state q v i j o x e k))

pub brought_bounds : (c : Plan) (s : Progress) (most : ℕ) → Arrives c.preset c (no_rows c.inputs) s → All (λ e. e ≤ most) (gate_bounds c) → All (λ e. e ≤ most) (gate_bounds (brought c s))
brought_bounds c s most a h =
    let rows : List (List ℕ) = no_rows c.inputs in
    let gates : List Gate = (needed_of (renamed c s)).gates in
    let weights : List ℕ = weights_of c.preset c.vectors in
    let first : List ℕ = fresh_bounds c.preset c.inputs in
    let old = along_bounds c.preset c.vectors (base c.preset c rows) c.gates in
    let new = along_bounds c.preset c.vectors (base c.preset c rows) gates in
    let many : length first ≡ length c.inputs = (base_even c.preset c rows (length-map c.inputs (λ s. []))).bounds ∙ length-input_parts c.inputs in
    let long_old = bounds_long c.preset weights first c.gates in
    let long_new = bounds_long c.preset weights first gates in
    all_below_most (bounds_of (brought c s)) (length c.inputs) (length gates) most (omega (arith, long_new, many)) (λ i l.
    let u : IsUnder (wires c.preset c rows c.gates).bounds (length c.inputs) c.gates (weighs_at gates i) (slice_index (wires c.preset c rows gates).bounds (length c.inputs + i)) = a.bounds i l in
    let b = below_most (bounds_of c) (length c.inputs) (length c.gates) u.gate most (omega (arith, long_old, many)) u.within h in
    let above = u.above in
    let e1 = ap (λ bs. slice_index bs (length c.inputs + u.gate)) old in
    let e2 = ap (λ bs. slice_index bs (length c.inputs + i)) new in
    omega (arith, b, above, e1, e2))

pub brought_elsewhere : (c : Plan) (s : Progress) (most : ℕ) → Arrives c.preset c (no_rows c.inputs) s → AreBelowElsewhere most c → AreBelowElsewhere most (brought c s)
brought_elsewhere c s most a h wire ge l none =
    let n : ℕ = length c.inputs in
    let i : ℕ = wire - n in
    let rows : List (List ℕ) = no_rows c.inputs in
    let gates : List Gate = (needed_of (renamed c s)).gates in
    let is : n + i ≡ wire = omega (arith, ge) in
    let u : IsUnder (wires c.preset c rows c.gates).bounds n c.gates (weighs_at gates i) (slice_index (wires c.preset c rows gates).bounds (n + i)) = a.bounds i (omega (arith, ge, l)) in
    let other : weighs_at c.gates u.gate ≡ false = u.alike (sym (maker_weighs n gates i) ∙ ap (λ z. weighed_by (maker n gates z)) is ∙ none) in
    let w = u.within in
    let b = h (n + u.gate) (omega arith) (omega (arith, w)) (maker_weighs n c.gates u.gate ∙ other) in
    let above = u.above in
    let e1 = ap (λ bs. slice_index bs (n + u.gate)) (along_bounds c.preset c.vectors (base c.preset c rows) c.gates) in
    let e2 = ap (λ bs. slice_index bs (n + i)) (along_bounds c.preset c.vectors (base c.preset c rows) gates) in
    let e3 = ap (slice_index (bounds_of (brought c s))) is in
    omega (arith, b, above, e1, e2, e3)

pub brought_shapes : (c : Plan) (s : Progress) → map shape_of (brought c s).outputs ≡ map shape_of c.outputs
brought_shapes c s = ap (map shape_of) (new_outputs c s) ∙ same_shapes (new_name c s) c.outputs
