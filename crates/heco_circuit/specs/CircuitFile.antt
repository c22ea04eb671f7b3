-- What a circuit file is read as.
use Rattle.std.specs.Prelude.{◌≡◌, ℕ, ◌≤◌, List, length, take, drop, Option, Some, None, Result, Ok, Err, IsTrue}
use Rattle.heco_fields.specs.Formats.{BreaksAt}
use Rattle.heco_fields.specs.Readings.{reading, judged}
use Rattle.heco_circuit.specs.declared.error.CirErr.{CirErr}
use Rattle.heco_circuit.specs.declared.error.CirErr.TheVariants.{Malformed, Noisy, Memory}
use Rattle.heco_circuit.specs.Plans.{Plan, is_formed}
use Rattle.heco_circuit.specs.Circuits.{IsCircuit, passing, most, is_short}
use Rattle.heco_circuit.specs.CircuitFormat.{circuit, circuit_text}

-- the first broken field, or the first byte after the last field, stands there
abbrev pub FileBreaksAt : List ℕ → ℕ → Type 0
FileBreaksAt bytes at = BreaksAt circuit (take most bytes) (drop most bytes) at

-- the file is formed, and the bound of this gate is the first that passes
pub record IsNoisyFile (bytes : List ℕ) (gate bound : ℕ) : Type 0 where
  pub plan : Plan
  pub formed : IsTrue (is_formed plan)
  pub text : bytes ≡ circuit_text plan
  pub short : length bytes ≤ most
  pub noisy : passing plan ≡ Some (gate, bound)

-- the file spells this circuit
pub record Spells (bytes : List ℕ) (p : Plan) : Type 0 where
  pub valid : IsCircuit p
  pub text : bytes ≡ circuit_text p

-- why an answer may come
abbrev pub HasCause : List ℕ → Result Plan CirErr → Type 0
HasCause bytes (Ok p) = Spells bytes p
HasCause bytes (Err (Malformed at)) = FileBreaksAt bytes at
HasCause bytes (Err (Noisy gate bound)) = IsNoisyFile bytes gate bound
HasCause bytes (Err Memory) = Unit {0}

-- this answer, unless memory ran out
abbrev pub Answers : Result Plan CirErr → Result Plan CirErr → Type 0
Answers (Err Memory) answer = Unit {0}
Answers result answer = result ≡ answer

abbrev pub noted : Plan → Option (ℕ × ℕ) → Result Plan CirErr
noted p (Some x) = Err (Noisy x.0 x.1)
noted p None = Ok p

abbrev pub answer_to : Result Plan ℕ → Result Plan CirErr
answer_to (Ok p) = noted p (passing p)
answer_to (Err at) = Err (Malformed at)

-- what a file is judged to be
abbrev pub judged_file : List ℕ → Result Plan ℕ
judged_file bytes = judged (take most bytes) (drop most bytes) (reading circuit (take most bytes))

-- how a draft is judged
abbrev pub Drafts : Result Plan CirErr → Result Plan ℕ → Type 0
Drafts (Ok p) judgement = (judgement ≡ Ok p) × IsTrue (is_formed p) × IsTrue (is_short p)
Drafts (Err (Malformed at)) judgement = judgement ≡ Err at
Drafts (Err (Noisy gate bound)) judgement = ⊥
Drafts (Err Memory) judgement = Unit {0}

-- what a file is read as
unfoldable pub read_as : List ℕ → Result Plan CirErr
read_as bytes = answer_to (judged_file bytes)
