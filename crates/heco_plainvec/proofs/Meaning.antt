-- A gathered circuit means what the circuit means, and its wires that stay have their bounds.
use Rattle.std.proofs.Common.{◌≡◌, ◌∙◌, sym, ap, ℕ, ◌+◌, ◌<◌, List, map, length, subst, true}
use Rattle.std.specs.Prelude.{None, slice_index}
use Rattle.std.proofs.lemmas.List.{length-map}
use Rattle.heco_nums.specs.Presets.{modulus_of, slots_of}
use Rattle.heco_nums.proofs.PresetCases.{slots_pos}
use Rattle.heco_circuit.specs.declared.gate.Output.{Output}
use Rattle.heco_circuit.specs.Circuits.{IsCircuit}
use Rattle.heco_circuit.specs.Plans.{Plan, wire_parts, is_cell}
use Rattle.heco_meaning.specs.Meanings.{meaning_of, output_values}
use Rattle.heco_thrift.specs.Thrift.{bounds_of}
use Rattle.heco_rewrites.specs.Wires.{first_wires, output_over}
use Rattle.heco_rewrites.proofs.Along.{along_parts, along_slots, along_bounds}
use Rattle.heco_rewrites.proofs.Outputs.{cells_stand, outputs_mean}
use Rattle.heco_plainvec.specs.Gathered.{source, name, gathered_gates, gathered_vectors, gathered}
use Rattle.heco_plainvec.proofs.Numbered.{get_flat}
use Rattle.heco_plainvec.proofs.Known.{bound_known}
use Rattle.heco_plainvec.proofs.Whole.{Valid, valid, all_wires, new_wires, whole}
use Rattle.heco_plainvec.proofs.Outputs.{cell_means}
use Rattle.heco_plainvec.proofs.Valid.{no_rows}

pub same_meaning : (c : Plan) (rows : List (List ℕ)) → IsCircuit c → length rows ≡ length c.inputs → meaning_of (gathered c) rows ≡ meaning_of c rows
unfolding gathered meaning_of
same_meaning c rows h count =
    let v : Valid c = valid c h in
    let t : ℕ = modulus_of c.preset in
    let N : ℕ = slots_of c.preset in
    let w = whole c rows v count in
    let old = along_slots c.preset c.vectors (first_wires c rows) c.gates in
    let new = along_slots c.preset (gathered_vectors c) (first_wires c rows) (gathered_gates c) in
    let parts = along_parts c.preset c.vectors (first_wires c rows) c.gates in
    let mean = outputs_mean (all_wires c rows).slots (new_wires c rows).slots (name c) c.outputs (λ i j o x e q.
    let stands : is_cell t N (wire_parts c) x ≡ true = cells_stand t N c.inputs (wire_parts c) _ c.outputs i j o x v.outputs e q in
    let at = get_flat (λ (p : Output). p.cells) c.outputs i j o x e q in
    cell_means c (all_wires c rows) (new_wires c rows) (length c.inputs + length c.gates) x at.0 w.swept at.1 (subst (λ ps. is_cell t N ps x ≡ true) (sym parts) stands) (slots_pos c.preset)) in
    ap (λ ws. map (output_values ws) (map (output_over (name c)) c.outputs)) (sym new) ∙ mean ∙ ap (λ ws. map (output_values ws) c.outputs) old

pub same_bound : (c : Plan) (a : ℕ) → IsCircuit c → a < length c.inputs + length c.gates → source c a ≡ None → slice_index (bounds_of (gathered c)) (name c a) ≡ slice_index (bounds_of c) a
unfolding gathered
same_bound c a h l s =
    let v : Valid c = valid c h in
    let w = whole c (no_rows c) v (length-map c.inputs (λ s. _)) in
    let old = along_bounds c.preset c.vectors (first_wires c (no_rows c)) c.gates in
    let new = along_bounds c.preset (gathered_vectors c) (first_wires c (no_rows c)) (gathered_gates c) in
    ap (λ bs. slice_index bs (name c a)) (sym new) ∙ ap bound_known (w.swept.before.each a l s) ∙ ap (λ bs. slice_index bs a) old
