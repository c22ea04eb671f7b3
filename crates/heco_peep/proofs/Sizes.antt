-- The length of a circuit's file: 5 to 9 bytes for each gate.
use Rattle.std.proofs.Common.{◌≡◌, refl, ℕ, ◌+◌, ◌^◌, ◌<◌, ◌≤◌, List, map, length, length-append, arith, true}
use Rattle.std.specs.Prelude.{codes, flat_map}
use Rattle.std.specs.Int.{w16, w32, to_be_bytes}
use Rattle.std.proofs.lemmas.Bool.{le-leb}
use Rattle.heco_fields.specs.Formats.{versioned_text}
use Rattle.heco_circuit.specs.declared.gate.Output.{Output}
use Rattle.heco_circuit.specs.GateFormat.{gate_text}
use Rattle.heco_circuit.specs.CircuitFormat.{header_of, output_text, gates_text, outputs_text, circuit_text}
use Rattle.heco_circuit.specs.Circuits.{most, is_short}
use Rattle.heco_circuit.specs.Plans.{Plan}
use Rattle.heco_circuit.proofs.Lengths.{gates_low, gates_short, file_long}
use Rattle.heco_rewrites.specs.Wires.{output_over}
use Rattle.heco_rewrites.proofs.Outputs.{outputs_long}
use Rattle.heco_peep.specs.inside.Ready.{room}

-- ---- room for the longest gates
pub has_room : (c : Plan) → length (circuit_text c) < 2 ^ 28 → room c < 2 ^ 29
has_room c h =
    let head : length (versioned_text (codes "HCIR") (header_of c)) ≡ 6 = refl in
    let g : length (gates_text c.gates) ≡ 4 + length (flat_map gate_text c.gates) = length-append (to_be_bytes w32 (length c.gates)) (flat_map gate_text c.gates) in
    omega (arith, h, file_long c, head, g, gates_low c.gates)

pub short : (c : Plan) → room c < 2 ^ 29 → is_short c ≡ true
unfolding is_short
short c h =
    let head : length (versioned_text (codes "HCIR") (header_of c)) ≡ 6 = refl in
    let g : length (gates_text c.gates) ≡ 4 + length (flat_map gate_text c.gates) = length-append (to_be_bytes w32 (length c.gates)) (flat_map gate_text c.gates) in
    let l : length (circuit_text c) ≤ most = omega (arith, h, file_long c, head, g, gates_short c.gates) in
    le-leb (length (circuit_text c)) most l

-- outputs over other wires are as long
pub outputs_room : (f : ℕ → ℕ) (os : List Output) → length (outputs_text (map (output_over f) os)) ≡ length (outputs_text os)
outputs_room f os =
    let o : length (outputs_text os) ≡ 2 + length (flat_map output_text os) = length-append (to_be_bytes w16 (length os)) (flat_map output_text os) in
    let p : length (outputs_text (map (output_over f) os)) ≡ 2 + length (flat_map output_text (map (output_over f) os)) = length-append (to_be_bytes w16 (length (map (output_over f) os))) (flat_map output_text (map (output_over f) os)) in
    omega (arith, o, p, outputs_long f os)
