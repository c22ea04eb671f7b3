-- A circuit file whose first bytes were judged, one more than a circuit file may have.
use Rattle.std.proofs.Common.{◌≡◌, ◌≤◌, ◌<◌, ◌^◌, ◌∙◌, ℕ, List, length, take, drop, Result, Ok, Err, refl, sym, ap, subst, inl, inr, arith}
use Rattle.std.proofs.lemmas.List.{length-drop, take-take}
use Rattle.std.proofs.lemmas.Bool.{cases_lt}
use Rattle.heco_fields.specs.Formats.{Format, Value, Field, BreaksAt, IsBroken}
use Rattle.heco_circuit.specs.CircuitFile.{FileBreaksAt, IsNoisyFile, Spells, HasCause, Answers}
use Rattle.heco_circuit.specs.declared.error.CirErr.{CirErr}
use Rattle.heco_circuit.specs.declared.error.CirErr.TheVariants as circuit_error
use Rattle.heco_circuit.specs.CircuitFormat.{circuit}
use Rattle.heco_circuit.specs.Circuits.{most}
use Rattle.heco_circuit.specs.Plans.{Plan as Circuit}
use Rattle.heco_circuit.proofs.FileLaws.{short_to, spelling_judged}
use Rattle.heco_jobs.specs.declared.outcome.Outcome.{Outcome}
use Rattle.heco_jobs.specs.declared.outcome.Outcome.TheVariants.{Ok as Fine, Refused, ReadFault, WriteFault, Memory}
use Rattle.heco_jobs.specs.declared.outcome.Refusal.{Refusal}
use Rattle.heco_jobs.specs.declared.outcome.Refusal.TheVariants.{Malformed, Noisy}
use Rattle.heco_jobs.specs.Stages.{Judges}
use Rattle.heco_reads.specs.CircuitFiles.{IsCircuitRefusal, circuit_answer}
use Rattle.heco_reads.proofs.InputLaws.{cut_first, cut_whole}

spelled_short : (text : List ℕ) (c : Circuit) → Spells text c → length text ≤ most
spelled_short text c h = subst (λ t. length t ≤ most) (sym h.text) (short_to c h.valid.2)

-- two circuits have no text in common
pub spells_once : (text : List ℕ) (c d : Circuit) → Spells text c → Spells text d → c ≡ d
spells_once text c d hc hd =
    let first = spelling_judged text c hc.valid.0 hc.text (spelled_short text c hc) in
    let second = spelling_judged text d hd.valid.0 hd.text (spelled_short text d hd) in
    cc

-- why the reader refused it is why it is refused
pub refused_circuit : (k : ℕ) (text : List ℕ) (e : CirErr) → HasCause text (Err e) → ((c : Circuit) → Spells text c → Answers (Err e) (Ok c)) → Judges Spells (IsCircuitRefusal k) text (Err (circuit_answer k e))
refused_circuit k text (circuit_error.Malformed at) cause only = ((λ c h. let x = only c h in cc), (refl, cause))
refused_circuit k text (circuit_error.Noisy gate bound) cause only = ((λ c h. let x = only c h in cc), (refl, cause))
refused_circuit k text circuit_error.Memory cause only = tt

-- that bytes stand beyond is all that matters of them
broken_beyond : {A : Type 0} (next : Format A) (rest b c : List ℕ) → 0 < length c → IsBroken next rest b → IsBroken next rest c
broken_beyond (Value x) rest b c some h = omega arith
broken_beyond (Field w allowed f) rest b c some h = h

breaks_beyond : {A : Type 0} (f : Format A) (bytes b c : List ℕ) (at : ℕ) → 0 < length c → BreaksAt f bytes b at → BreaksAt f bytes c at
breaks_beyond f bytes b c at some h = record {
  fields = h.fields;
  rest = h.rest;
  next = h.next;
  parts = h.parts;
  place = h.place;
  taken = h.taken;
  broken = broken_beyond h.next h.rest b c some h.broken;
}

-- a file that is too long breaks where its first bytes do
breaks_whole : (text bytes : List ℕ) (at : ℕ) → take (2 ^ 29) text ≡ bytes → FileBreaksAt bytes at → FileBreaksAt text at
breaks_whole text bytes at cut h = elim (cases_lt (length text) (2 ^ 29)) [
  | inl short ↦ subst (λ t. FileBreaksAt t at) (cut_whole text bytes (2 ^ 29) cut short) h
  | inr long ↦ long_breaks text bytes at cut long h
]
  where
    long_breaks : (text bytes : List ℕ) (at : ℕ) → take (2 ^ 29) text ≡ bytes → 2 ^ 29 ≤ length text → FileBreaksAt bytes at → FileBreaksAt text at
    long_breaks text bytes at cut long h =
        let head : take most bytes ≡ take most text = ap (take most) (sym cut) ∙ take-take most (2 ^ 29) text (omega arith) in
        let more : 0 < length (drop most text) = omega (arith, length-drop most text) in
        breaks_beyond circuit (take most text) (drop most bytes) (drop most text) at more (subst (λ t. BreaksAt circuit t (drop most bytes) at) head h)

pub judged_circuit : (k : ℕ) (text bytes : List ℕ) (result : Result Circuit Outcome) → take (2 ^ 29) text ≡ bytes → Judges Spells (IsCircuitRefusal k) bytes result → Judges Spells (IsCircuitRefusal k) text result
judged_circuit k text bytes (Ok c) cut j = subst (λ t. Spells t c) (cut_first text bytes (2 ^ 29) cut (omega (arith, spelled_short bytes c j))) j
judged_circuit k text bytes (Err (Refused r)) cut j =
    ((λ c h. j.0 c (subst (λ t. Spells t c) (sym (cut_whole text bytes (2 ^ 29) cut (omega (arith, spelled_short text c h)))) h)), refused r j.1)
  where
    refused : (r : Refusal) → IsCircuitRefusal k bytes r → IsCircuitRefusal k text r
    refused (Malformed which at) h = (h.0, breaks_whole text bytes at cut h.1)
    refused (Noisy which gate bound) h = (h.0, subst (λ t. IsNoisyFile t gate bound) (cut_first text bytes (2 ^ 29) cut (omega (arith, h.1.short))) h.1)
    refused r h = absurd h
judged_circuit k text bytes (Err Memory) cut j = tt
judged_circuit k text bytes (Err Fine) cut j = absurd j
judged_circuit k text bytes (Err (ReadFault n)) cut j = absurd j
judged_circuit k text bytes (Err (WriteFault n)) cut j = absurd j
