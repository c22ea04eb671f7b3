-- What gates make of plaintexts are plaintexts, and each gate of a circuit can be applied to those of the wires before it.
use Rattle.std.proofs.Common.{◌≡◌, ℕ, zero, suc, ◌+◌, ◌-◌, ◌<◌, true, List, [], ◌∷◌, length, map, get_or, ap, subst, arith, Some}
use Rattle.std.specs.Prelude.{All, unwrap_or}
use Rattle.std.specs.List.{slice_get, list_all}
use Rattle.std.proofs.lemmas.List.Elements.{All-get_or}
use Rattle.std.proofs.lemmas.Option.{get_or_from_slice_get, slice_get-get_or}
use lib.IntN.{ℤ}
use Rattle.heco_nums.specs.Presets.{modulus_of, slots_of}
use Rattle.heco_nums.specs.declared.preset.Preset.{Preset}
use Rattle.heco_nums.proofs.PresetFacts.{facts}
use Rattle.heco_fields.proofs.Bools.{both_true}
use Rattle.heco_ring.specs.Remainders.{reduced}
use Rattle.heco_ring.specs.Ring.{wholes}
use Rattle.heco_ring.proofs.Reduced.{length-reduced}
use Rattle.heco_circuit.specs.Circuits.{IsCircuit}
use Rattle.heco_circuit.specs.Plans.{Plan, is_vector, wire_parts}
use Rattle.heco_circuit.specs.Validity.{is_between, is_wire, has_parts}
use Rattle.heco_circuit.specs.declared.gate.Gate.{Gate}
use Rattle.heco_circuit.specs.declared.gate.Gate.TheVariants.{Neg, Add, Sub, Mul, Relin, Scale, Shift, Turn, Weigh}
use Rattle.heco_schedules.specs.Rising.{names}
use Rattle.heco_schedules.proofs.Lists.{within, get-map, length-map}
use Rattle.heco_sched.specs.Wirings.{operands_of}
use Rattle.heco_sched.proofs.TestLaws.{first_named, second_named}
use Rattle.heco_sched.proofs.Wired.{circuit_wired}
use Rattle.heco_slots.specs.Messages.{sum, difference, opposite, multiple, raised, product, turned, weighed}
use Rattle.heco_slots.specs.Rows.{encoded_two}
use Rattle.heco_bfv.proofs.PhaseSteps.{reduced_below}
use Rattle.heco_run.proofs.Fits.{GateFits, gate_fits, gate_has_vector, below_modulus, within_slots}
use Rattle.heco_run_laws.specs.Messages.{message_by}
use Rattle.heco_run_laws.proofs.Measured.{encodings}
use Rattle.heco_scheme.specs.Encryption.{decrypted}
use Rattle.heco_measure.specs.inside.Plaintexts.{IsPlaintext, IsGateBehind}

-- ---- plaintexts

reduced_plain : (p : Preset) (T : List ℤ) → IsPlaintext p (reduced p.t p.n T)
reduced_plain p T = record { long = length-reduced p.t p.n T; below = reduced_below p.t p.n T (facts p).t_pos }

pub decrypted_plain : (p : Preset) (s : List ℤ) (c : List (List ℕ)) → IsPlaintext p (decrypted p s c)
unfolding decrypted
decrypted_plain p s c = reduced_plain p _

pub message_plain : (p : Preset) (vectors messages : List (List ℕ)) (g : Gate) → All (IsPlaintext p) messages → IsGateBehind p (length vectors) (length messages) g → IsPlaintext p (message_by p vectors messages g)
unfolding sum difference opposite multiple raised product turned weighed
message_plain p vectors messages (Neg a) all h = reduced_plain p _
message_plain p vectors messages (Add a b) all h = reduced_plain p _
message_plain p vectors messages (Sub a b) all h = reduced_plain p _
message_plain p vectors messages (Mul a b) all h = reduced_plain p _
message_plain p vectors messages (Relin a) all h = All-get_or (IsPlaintext p) messages a [] h all
message_plain p vectors messages (Scale c a) all h = reduced_plain p _
message_plain p vectors messages (Shift c a) all h = reduced_plain p _
message_plain p vectors messages (Turn r a) all h = reduced_plain p _
message_plain p vectors messages (Weigh v a) all h = reduced_plain p _

-- the plaintext of a plain vector
pub encoded_plain : (p : Preset) (v : List ℕ) → IsPlaintext p (encoded_two p v v)
encoded_plain p v = subst (IsPlaintext p) (encodings p v v).1 (reduced_plain p (wholes (encoded_two p v v)))

-- each of some vectors that pass passes
pub vector_passes : (p : Preset) (vectors : List (List ℕ)) (v : ℕ) (d : List ℕ) → v < length vectors → list_all (is_vector p.t p.slots) vectors ≡ true → is_vector p.t p.slots (get_or vectors v d) ≡ true
vector_passes p [] v d inside all = absurd (omega arith)
vector_passes p (x ∷ vectors) zero d inside all = (both_true (is_vector p.t p.slots x) (list_all (is_vector p.t p.slots) vectors) all).0
vector_passes p (x ∷ vectors) (suc v) d inside all = vector_passes p vectors v d (omega arith) (both_true (is_vector p.t p.slots x) (list_all (is_vector p.t p.slots) vectors) all).1

-- ---- gates

-- a gate reads earlier wires
pub earlier : (c : Plan) (k : ℕ) (g : Gate) → IsCircuit c → slice_get c.gates k ≡ Some g → (wire : ℕ) → names (operands_of g) wire ≡ true → wire < length c.inputs + k
earlier c k g valid at wire named =
    let all : length (map operands_of c.gates) ≡ length c.gates = length-map operands_of c.gates in
    let inside : k < length (map operands_of c.gates) = omega (arith, within c.gates k g at) in
    let reads : unwrap_or (slice_get (map operands_of c.gates) k) [] ≡ operands_of g = ap (λ o. unwrap_or o []) (get-map operands_of c.gates k g at) in
    (circuit_wired c valid.0).wired.earlier k wire inside (rw reads named)

-- the gate that stands at a place
pub gate_there : (c : Plan) (gates : List Gate) (k : ℕ) → gates ≡ c.gates → k < length gates → slice_get c.gates k ≡ Some (get_or gates k (Neg 0))
gate_there c gates k same l = subst (λ gs. slice_get gs k ≡ Some (get_or gates k (Neg 0))) same (slice_get-get_or gates k (Neg 0) l)

fits : (c : Plan) (k : ℕ) (g : Gate) → IsCircuit c → slice_get c.gates k ≡ Some g → GateFits c k g
fits c k g valid at = let is : get_or c.gates k g ≡ g = get_or_from_slice_get c.gates k g g at in rw is at (gate_fits c k g valid.0 (within c.gates k g at))

module _ (p : Preset) (c : Plan) (k : ℕ) (id : p.id ≡ c.preset) (valid : IsCircuit c) where
  pub gate_behind : (g : Gate) → slice_get c.gates k ≡ Some g → IsGateBehind p (length c.vectors) (length c.inputs + k) g
  gate_behind (Neg a) at = earlier c k (Neg a) valid at a (first_named a [])
  gate_behind (Add a b) at = (earlier c k (Add a b) valid at a (first_named a (b ∷ [])), earlier c k (Add a b) valid at b (second_named a b []))
  gate_behind (Sub a b) at = (earlier c k (Sub a b) valid at a (first_named a (b ∷ [])), earlier c k (Sub a b) valid at b (second_named a b []))
  gate_behind (Mul a b) at = (earlier c k (Mul a b) valid at a (first_named a (b ∷ [])), earlier c k (Mul a b) valid at b (second_named a b []))
  gate_behind (Relin a) at = earlier c k (Relin a) valid at a (first_named a [])
  gate_behind (Scale x a) at =
      let range = both_true (is_between 1 (modulus_of c.preset - 1) x) (is_wire (wire_parts c) a) (fits c k (Scale x a) valid at).is_gate in
      (below_modulus c p 1 x id range.0, earlier c k (Scale x a) valid at a (first_named a []))
  gate_behind (Shift x a) at =
      let range = both_true (is_between 0 (modulus_of c.preset - 1) x) (is_wire (wire_parts c) a) (fits c k (Shift x a) valid at).is_gate in
      (below_modulus c p 0 x id range.0, earlier c k (Shift x a) valid at a (first_named a []))
  gate_behind (Turn r a) at =
      let range = both_true (is_between 1 (slots_of c.preset - 1) r) (has_parts 2 (wire_parts c) a) (fits c k (Turn r a) valid at).is_gate in
      (within_slots c p r id range.0, earlier c k (Turn r a) valid at a (first_named a []))
  gate_behind (Weigh v a) at = (gate_has_vector c k (Weigh v a) (fits c k (Weigh v a) valid at), earlier c k (Weigh v a) valid at a (first_named a []))

  pub next_behind : (gates : List Gate) → gates ≡ c.gates → k < length gates → IsGateBehind p (length c.vectors) (length c.inputs + k) (get_or gates k (Neg 0))
  next_behind gates same l = gate_behind (get_or gates k (Neg 0)) (gate_there c gates k same l)
