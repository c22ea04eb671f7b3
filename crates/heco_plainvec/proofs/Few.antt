-- How many wires and vectors a valid circuit may have.
use Rattle.std.proofs.Common.{◌+◌, ◌-◌, ◌^◌, ◌<◌, ◌≤◌, [], length, arith, leb}
use Rattle.std.proofs.lemmas.Bool.{leb-true}
use Rattle.heco_nums.specs.Presets.{slots_of}
use Rattle.heco_nums.specs.Runs.{all_along}
use Rattle.heco_fields.proofs.Bools.{both_true}
use Rattle.heco_circuit.specs.Circuits.{IsCircuit}
use Rattle.heco_circuit.specs.Plans.{Plan, is_input, push}
use Rattle.heco_plainvec.proofs.Whole.{Valid, valid}

pub few_inputs : (c : Plan) → IsCircuit c → length c.inputs ≤ 256
few_inputs c h =
    let v : Valid c = valid c h in
    leb-true (length c.inputs) 256 (both_true (leb (length c.inputs) 256) (all_along (is_input (slots_of c.preset)) push [] c.inputs) v.inputs).0

pub few_wires : (c : Plan) → IsCircuit c → length c.inputs + length c.gates < 2 ^ 26
few_wires c h =
    let v : Valid c = valid c h in
    let i = few_inputs c h in
    let g = leb-true (length c.gates) (2 ^ 25 - 1) v.few_gates in
    omega (arith, i, g)

pub few_vectors : (c : Plan) → IsCircuit c → length c.vectors ≤ 256
few_vectors c h = let v : Valid c = valid c h in leb-true (length c.vectors) 256 v.few_vectors
