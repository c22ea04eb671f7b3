-- What is read of a circuit file is what was spelled, for exactly the circuits that are formed.
use Rattle.std.proofs.Common.{◌≡◌, ℕ, ◌-◌, ◌^◌, ◌<◌, eqb, List, [], ◌++◌, length, refl, sym, ap, ap₂}
use Rattle.std.specs.Prelude.{IsTrue, codes}
use Rattle.std.specs.Int.{w16, w32, to_be_bytes}
use Rattle.std.proofs.lemmas.List.{append-nil}
use Rattle.std.proofs.lemmas.Bool.{eqb-true}
use Rattle.heco_nums.specs.Presets.{modulus_of, slots_of}
use Rattle.heco_nums.specs.declared.shape.Shape.{Shape}
use Rattle.heco_fields.specs.Formats.{Format, Value, number, within, versioned, versioned_text, ◌>>=◌ as ◌then◌}
use Rattle.heco_fields.specs.declared.header.Header.{Header}
use Rattle.heco_nums.specs.Runs.{along}
use Rattle.heco_fields.proofs.Laws.{Law, value_law, then_law, same_law}
use Rattle.heco_nums.specs.Runs.{FitAlong}
use Rattle.heco_fields.proofs.FieldLaws.{number_law, IsHeader, versioned_law, wide16, wide32}
use Rattle.heco_fields.proofs.ManyLaws.{Counted, counted_law}
use Rattle.heco_circuit.specs.declared.gate.Gate.{Gate}
use Rattle.heco_circuit.specs.declared.gate.Output.{Output}
use Rattle.heco_circuit.specs.Validity.{is_between, with_gate}
use Rattle.heco_circuit.specs.Versions.{newest, version_of}
use Rattle.heco_circuit.specs.Plans.{Plan, push, input_parts}
use Rattle.heco_circuit.specs.GateFormat.{gate, gate_text}
use Rattle.heco_circuit.specs.VectorFormat.{vectors, vectors_text}
use Rattle.heco_circuit.specs.CircuitFormat.{inputs, gates, outputs, input, output, is_output_count, plan_with, circuit, header_of, input_text, output_text, inputs_text, gates_text, outputs_text, circuit_text}
use Rattle.heco_fields.proofs.Bools.{both_true}
use Rattle.heco_circuit.proofs.GateLaws.{MayStand, gate_law}
use Rattle.heco_circuit.proofs.PortLaws.{IsInput, input_law, IsOutput, output_law}
use Rattle.heco_circuit.proofs.VectorLaws.{AreVectors, vectors_law}

abbrev pub Count16 : ℕ → ℕ → Type 0
Count16 most n = (n < 2 ^ 16) × IsTrue (is_between 0 most n)

abbrev pub Count32 : ℕ → ℕ → Type 0
Count32 most n = (n < 2 ^ 32) × IsTrue (is_between 0 most n)

abbrev pub AreInputs : ℕ → List Shape → Type 0
AreInputs id = Counted (Count16 256) (FitAlong (IsInput (slots_of id)) push [])

abbrev pub AreGates : ℕ → ℕ → ℕ → List ℕ → List Gate → Type 0
AreGates version id vectors parts = Counted (Count32 (2 ^ 25 - 1)) (FitAlong (MayStand version (modulus_of id) (slots_of id) vectors) with_gate parts)

abbrev pub IsOutputCount : ℕ → List Shape → List (List ℕ) → List Gate → ℕ → Type 0
IsOutputCount version i v g n = (n < 2 ^ 16) × IsTrue (is_output_count version i v g n)

abbrev pub AreOutputs : ℕ → ℕ → List Shape → List (List ℕ) → List Gate → List ℕ → List Output → Type 0
AreOutputs version id i v g parts = Counted (IsOutputCount version i v g) (FitAlong (IsOutput (modulus_of id) (slots_of id) i parts) push [])

inputs_law : (id : ℕ) → Law (inputs id) inputs_text (AreInputs id)
unfolding inputs
inputs_law id = counted_law (within w16 0 256) (to_be_bytes w16) (Count16 256) (input (slots_of id)) push input_text (IsInput (slots_of id)) [] (number_law w16 (2 ^ 16) wide16 (is_between 0 256)) (input_law (slots_of id))

gates_law : (version id vectors : ℕ) (parts : List ℕ) → Law (gates version id vectors parts) gates_text (AreGates version id vectors parts)
unfolding gates
gates_law version id vectors parts =
    counted_law (within w32 0 (2 ^ 25 - 1)) (to_be_bytes w32) (Count32 (2 ^ 25 - 1)) (gate version (modulus_of id) (slots_of id) vectors) with_gate gate_text (MayStand version (modulus_of id) (slots_of id) vectors) parts
    (number_law w32 (2 ^ 32) wide32 (is_between 0 (2 ^ 25 - 1))) (gate_law version (modulus_of id) (slots_of id) vectors)

outputs_law : (version id : ℕ) (i : List Shape) (v : List (List ℕ)) (g : List Gate) (parts : List ℕ) → Law (outputs version id i v g parts) outputs_text (AreOutputs version id i v g parts)
unfolding outputs
outputs_law version id i v g parts =
    counted_law (number w16 (is_output_count version i v g)) (to_be_bytes w16) (IsOutputCount version i v g) (output (modulus_of id) (slots_of id) i parts) push output_text (IsOutput (modulus_of id) (slots_of id) i parts) []
    (number_law w16 (2 ^ 16) wide16 (is_output_count version i v g)) (output_law (modulus_of id) (slots_of id) i parts)

-- the parts of a circuit that are read behind a header
abbrev AreParts : Header → List Shape → List (List ℕ) → List Gate → List Output → Type 0
AreParts h i v g o =
    AreInputs h.preset i × (AreVectors h.version h.preset v × (AreGates h.version h.preset (length v) (input_parts i) g × AreOutputs h.version h.preset i v g (along with_gate (input_parts i) g) o))

-- what has a spelling
abbrev pub IsPlan : Plan → Type 0
IsPlan p = IsHeader newest (header_of p) × AreParts (header_of p) p.inputs p.vectors p.gates p.outputs

regroup : (h i v g o : List ℕ) → h ++ (i ++ (v ++ (g ++ (o ++ [])))) ≡ h ++ (i ++ (v ++ (g ++ o)))
regroup h i v g o = ap (λ t. h ++ (i ++ (v ++ (g ++ t)))) (append-nil o)

-- the number of outputs is allowed in the circuit's own version alone
version_is : (version id : ℕ) (i : List Shape) (v : List (List ℕ)) (g : List Gate) (parts : List ℕ) (o : List Output) → AreOutputs version id i v g parts o → version_of v g ≡ version
version_is version id i v g parts o h = sym (eqb-true version (version_of v g) (both_true (eqb version (version_of v g)) (is_between 0 (256 - length i) (length o)) h.0.1).0)

header_is : (h : Header) (version id : ℕ) → version ≡ h.version → id ≡ h.preset → ◌≡◌ {A = Header} (record { version = version; preset = id }) h
header_is h version id e f = ap₂ (λ v i. record { version = v; preset = i }) e f

pub circuit_law : Law circuit circuit_text IsPlan
unfolding circuit
circuit_law =
    let W : List Shape → List Gate → List ℕ = λ i g. along with_gate (input_parts i) g in
    let V : Header → List Shape → List (List ℕ) → List Gate → List Output → Plan → Type 0 = λ h i v g o p. plan_with h.preset i v g o ≡ p in
    let behind_gates : Header → List Shape → List (List ℕ) → List Gate → Format Plan = λ h i v g. outputs h.version h.preset i v g (W i g) then λ o. Value (plan_with h.preset i v g o) in
    let behind_vectors : Header → List Shape → List (List ℕ) → Format Plan = λ h i v. gates h.version h.preset (length v) (input_parts i) then behind_gates h i v in
    let behind_inputs : Header → List Shape → Format Plan = λ h i. vectors h.version h.preset then behind_vectors h i in
    let behind_header : Header → Format Plan = λ h. inputs h.preset then behind_inputs h in
    let Outputs : Header → List Shape → List (List ℕ) → List Gate → Plan → Type 0 = λ h i v g p. AreOutputs h.version h.preset i v g (W i g) p.outputs × V h i v g p.outputs p in
    let Gates : Header → List Shape → List (List ℕ) → Plan → Type 0 = λ h i v p. AreGates h.version h.preset (length v) (input_parts i) p.gates × Outputs h i v p.gates p in
    let Vectors : Header → List Shape → Plan → Type 0 = λ h i p. AreVectors h.version h.preset p.vectors × Gates h i p.vectors p in
    let Inputs : Header → Plan → Type 0 = λ h p. AreInputs h.preset p.inputs × Vectors h p.inputs p in
    same_law circuit (λ p. versioned_text (codes "HCIR") (header_of p) ++ (inputs_text p.inputs ++ (vectors_text p.vectors ++ (gates_text p.gates ++ (outputs_text p.outputs ++ []))))) circuit_text
    (λ p. IsHeader newest (header_of p) × Inputs (header_of p) p) IsPlan
    (then_law (versioned newest (codes "HCIR")) behind_header (versioned_text (codes "HCIR")) (λ p. inputs_text p.inputs ++ (vectors_text p.vectors ++ (gates_text p.gates ++ (outputs_text p.outputs ++ [])))) (IsHeader newest) Inputs header_of
    (versioned_law newest (codes "HCIR"))
    (λ h _. then_law (inputs h.preset) (behind_inputs h) inputs_text (λ p. vectors_text p.vectors ++ (gates_text p.gates ++ (outputs_text p.outputs ++ []))) (AreInputs h.preset) (Vectors h) (λ p. p.inputs)
    (inputs_law h.preset)
    (λ i _. then_law (vectors h.version h.preset) (behind_vectors h i) vectors_text (λ p. gates_text p.gates ++ (outputs_text p.outputs ++ [])) (AreVectors h.version h.preset) (Gates h i) (λ p. p.vectors)
    (vectors_law h.version h.preset)
    (λ v _. then_law (gates h.version h.preset (length v) (input_parts i)) (behind_gates h i v) gates_text (λ p. outputs_text p.outputs ++ []) (AreGates h.version h.preset (length v) (input_parts i)) (Outputs h i v) (λ p. p.gates)
    (gates_law h.version h.preset (length v) (input_parts i))
    (λ g _. then_law (outputs h.version h.preset i v g (W i g)) (λ o. Value (plan_with h.preset i v g o)) outputs_text (λ _. []) (AreOutputs h.version h.preset i v g (W i g)) (V h i v g) (λ p. p.outputs)
    (outputs_law h.version h.preset i v g (W i g)) (λ o _. value_law (plan_with h.preset i v g o)) (λ o p e. ap (λ (q : Plan). q.outputs) (sym e)))
    (λ g p f. ap (λ (q : Plan). q.gates) (sym f.1)))
    (λ v p f. ap (λ (q : Plan). q.vectors) (sym f.1.1)))
    (λ i p f. ap (λ (q : Plan). q.inputs) (sym f.1.1.1)))
    (λ h p f. header_is h (version_of p.vectors p.gates) p.preset (version_is h.version h.preset p.inputs p.vectors p.gates (W p.inputs p.gates) p.outputs f.1.1.1.0) (ap (λ (q : Plan). q.preset) (sym f.1.1.1.1))))
    (λ p f. regroup (versioned_text (codes "HCIR") (header_of p)) (inputs_text p.inputs) (vectors_text p.vectors) (gates_text p.gates) (outputs_text p.outputs))
    (λ p f. (f.0, (f.1.0, (f.1.1.0, (f.1.1.1.0, f.1.1.1.1.0)))))
    (λ p f. (f.0, (f.1.0, (f.1.1.0, (f.1.1.1.0, (f.1.1.1.1, refl))))))
