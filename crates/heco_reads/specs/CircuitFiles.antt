-- How a circuit file is refused.
use Rattle.std.specs.Prelude.{◌≡◌, ℕ, List}
use Rattle.heco_circuit.specs.CircuitFile.{FileBreaksAt, IsNoisyFile}
use Rattle.heco_circuit.specs.declared.error.CirErr.{CirErr}
use Rattle.heco_circuit.specs.declared.error.CirErr.TheVariants as circuit
use Rattle.heco_jobs.specs.declared.outcome.Outcome.{Outcome}
use Rattle.heco_jobs.specs.declared.outcome.Outcome.TheVariants.{Refused, Memory}
use Rattle.heco_jobs.specs.declared.outcome.Refusal.{Refusal}
use Rattle.heco_jobs.specs.declared.outcome.Refusal.TheVariants.{Malformed, Noisy}

-- the file in this word breaks at this offset, or is well formed and the bound of this gate is the first that passes
abbrev pub IsCircuitRefusal : ℕ → List ℕ → Refusal → Type 0
IsCircuitRefusal k text (Malformed which at) = (which ≡ k) × FileBreaksAt text at
IsCircuitRefusal k text (Noisy which gate bound) = (which ≡ k) × IsNoisyFile text gate bound
IsCircuitRefusal k text refusal = ⊥

-- what an error of the circuit in this word is answered with
abbrev pub circuit_answer : ℕ → CirErr → Outcome
circuit_answer k (circuit.Malformed at) = Refused (Malformed k at)
circuit_answer k (circuit.Noisy gate bound) = Refused (Noisy k gate bound)
circuit_answer k circuit.Memory = Memory
