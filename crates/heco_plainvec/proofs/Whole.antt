-- What is known of all wires of a gathered circuit.
use Rattle.std.proofs.Common.{◌≡◌, ℕ, ◌+◌, ◌-◌, ◌^◌, List, [], length, refl, ap, sym, ◌∙◌, arith, true, ◌&&◌, leb}
use Rattle.std.specs.Prelude.{Option, Some, None}
use Rattle.std.specs.List.{list_all}
use Rattle.std.specs.Option.{is_none}
use Rattle.std.proofs.lemmas.List.{length-map}
use Rattle.heco_nums.specs.Presets.{modulus_of, slots_of}
use Rattle.heco_nums.specs.Runs.{along, all_along}
use Rattle.heco_fields.proofs.Bools.{both_true}
use Rattle.heco_circuit.specs.Plans.{Plan, input_parts, are_inputs, are_vectors, are_gates, are_outputs, is_vector, is_output, push, wire_parts}
use Rattle.heco_circuit.specs.Circuits.{IsCircuit, passing}
use Rattle.heco_circuit.specs.Validity.{is_between}
use Rattle.heco_circuit.proofs.Lengths.{length-input_parts, length-fresh_bounds}
use Rattle.heco_meaning.specs.Meanings.{filled}
use Rattle.heco_rewrites.specs.Wires.{Wires, behind, first_wires, Even}
use Rattle.heco_rewrites.proofs.Along.{along_bounds, all_earlier}
use Rattle.heco_plainvec.specs.Gathered.{gathered_gates, gathered_vectors}
use Rattle.heco_plainvec.proofs.Leaders.{input_stays}
use Rattle.heco_plainvec.proofs.Places.{place_inputs, name_itself}
use Rattle.heco_plainvec.proofs.Known.{known}
use Rattle.heco_plainvec.proofs.Swept.{Earlier, IsSwept}
use Rattle.heco_plainvec.proofs.Sweep.{may_stand, AreSwept, sweep}

-- ---- what a valid circuit has
pub record Valid (c : Plan) : Type 0 where
  pub preset : is_between 1 5 c.preset ≡ true
  pub inputs : are_inputs c ≡ true
  pub few_vectors : leb (length c.vectors) 256 ≡ true
  pub vectors : list_all (is_vector (modulus_of c.preset) (slots_of c.preset)) c.vectors ≡ true
  pub few_gates : leb (length c.gates) (2 ^ 25 - 1) ≡ true
  pub gates : may_stand c (length c.vectors) (input_parts c.inputs) c.gates ≡ true
  pub few_outputs : leb (length c.outputs) (256 - length c.inputs) ≡ true
  pub outputs : all_along (is_output (modulus_of c.preset) (slots_of c.preset) c.inputs (wire_parts c)) push [] c.outputs ≡ true
  pub quiet : passing c ≡ None

none : {X : Type 0} (o : Option X) → is_none o ≡ true → o ≡ None
none None e = refl
none (Some x) e = absurd cc

pub valid : (c : Plan) → IsCircuit c → Valid c
valid c h =
    let a = both_true (is_between 1 5 c.preset) (are_inputs c && (are_vectors c && (are_gates c && are_outputs c))) h.0 in
    let b = both_true (are_inputs c) (are_vectors c && (are_gates c && are_outputs c)) a.1 in
    let d = both_true (are_vectors c) (are_gates c && are_outputs c) b.1 in
    let e = both_true (are_gates c) (are_outputs c) d.1 in
    let v = both_true (leb (length c.vectors) 256) (list_all (is_vector (modulus_of c.preset) (slots_of c.preset)) c.vectors) d.0 in
    let g = both_true (leb (length c.gates) (2 ^ 25 - 1)) (may_stand c (length c.vectors) (input_parts c.inputs) c.gates) e.0 in
    let o = both_true (leb (length c.outputs) (256 - length c.inputs)) (all_along (is_output (modulus_of c.preset) (slots_of c.preset) c.inputs (wire_parts c)) push [] c.outputs) e.1 in
    record { preset = a.0; inputs = b.0; few_vectors = v.0; vectors = v.1; few_gates = g.0; gates = g.1; few_outputs = o.0; outputs = o.1; quiet = none (passing c) h.1 }

pub earlier : (c : Plan) → Valid c → Earlier c
earlier c v k g e a i =
    let l = all_earlier (modulus_of c.preset) (slots_of c.preset) (length c.vectors) (input_parts c.inputs) c.gates v.gates k g e a i in
    let n = length-input_parts c.inputs in omega (arith, l, n)

-- ---- where both begin
start_even : (c : Plan) (rows : List (List ℕ)) → length rows ≡ length c.inputs → Even (first_wires c rows)
start_even c rows e = record {
  bounds = length-fresh_bounds c.preset c.inputs ∙ sym (length-input_parts c.inputs);
  slots = length-map rows (filled (slots_of c.preset)) ∙ e ∙ sym (length-input_parts c.inputs);
}

start_swept : (c : Plan) (rows : List (List ℕ)) → length rows ≡ length c.inputs → IsSwept c (length c.inputs) (first_wires c rows) (first_wires c rows)
start_swept c rows e = record {
  old_long = length-input_parts c.inputs;
  new_long = length-input_parts c.inputs ∙ sym (place_inputs c (length c.inputs) (omega arith));
  old_even = start_even c rows e;
  new_even = start_even c rows e;
  before = record {
    each = λ a l s. ap (known (first_wires c rows)) (name_itself c a s ∙ place_inputs c a (omega (arith, l)));
    gone = λ a of l s. absurd (let f : None ≡ Some of = sym (input_stays c a l) ∙ s in cc);
  };
}

abbrev pub all_wires : Plan → List (List ℕ) → Wires
all_wires c rows = along (behind c.preset c.vectors) (first_wires c rows) c.gates

abbrev pub new_wires : Plan → List (List ℕ) → Wires
new_wires c rows = along (behind c.preset (gathered_vectors c)) (first_wires c rows) (gathered_gates c)

pub whole : (c : Plan) (rows : List (List ℕ)) → Valid c → length rows ≡ length c.inputs → AreSwept c (length c.inputs) (first_wires c rows) (first_wires c rows) c.gates (gathered_gates c)
whole c rows v e =
    sweep c (length c.inputs) (first_wires c rows) (first_wires c rows) c.gates (earlier c v) (start_swept c rows e) (record {
      place = 0;
      number = omega arith;
      here = λ k g q. let z : 0 + k ≡ k = omega arith in rw z q;
      formed = v.gates;
      from = 0;
      quiet = v.quiet;
      bounds = sym (along_bounds c.preset c.vectors (first_wires c rows) c.gates);
    })
