-- What a circuit file is read as, from the laws of its format.
use Rattle.std.proofs.Common.{◌≡◌, ℕ, ◌≤◌, List, ◌++◌, length, take, drop, Option, Some, None, Result, Ok, Err, refl, sym, ap, subst, ◌∙◌, arith}
use Rattle.std.specs.Prelude.{IsTrue}
use Rattle.std.specs.Option.{is_none}
use Rattle.std.proofs.lemmas.Bool.{leb-true, le-leb}
use Rattle.std.proofs.lemmas.List.{append-nil, length-append, length-drop, take-append-drop}
use Rattle.heco_fields.specs.Readings.{reading, judged}
use Rattle.heco_fields.proofs.FirstBroken.{judged_breaks, breaks_judged}
use Rattle.heco_fields.proofs.Laws.{IsBytes}
use Rattle.heco_fields.proofs.FileLaws.{take_all, drop_all, judged_text, text_judged}
use Rattle.heco_circuit.specs.declared.error.CirErr.{CirErr}
use Rattle.heco_circuit.specs.declared.error.CirErr.TheVariants.{Malformed, Noisy, Memory}
use Rattle.heco_circuit.specs.Plans.{Plan, is_formed}
use Rattle.heco_circuit.specs.Circuits.{passing, most, is_short}
use Rattle.heco_circuit.specs.CircuitFormat.{circuit, circuit_text}
use Rattle.heco_circuit.specs.CircuitFile.{FileBreaksAt, IsNoisyFile, Spells, HasCause, Answers, noted, answer_to, judged_file}
use Rattle.heco_circuit.proofs.CircuitLaw.{IsPlan, circuit_law}
use Rattle.heco_circuit.proofs.Formed.{formed, spellable}

pub short_from : (p : Plan) → length (circuit_text p) ≤ most → IsTrue (is_short p)
unfolding is_short
short_from p le = le-leb (length (circuit_text p)) most le

pub short_to : (p : Plan) → IsTrue (is_short p) → length (circuit_text p) ≤ most
unfolding is_short
short_to p h = leb-true (length (circuit_text p)) most h

-- what is judged to be a circuit is its text
pub judged_whole : (bytes : List ℕ) (p : Plan) → IsBytes bytes → IsBytes (take most bytes) → judged_file bytes ≡ Ok p → IsTrue (is_formed p) × (bytes ≡ circuit_text p) × (length bytes ≤ most)
judged_whole bytes p fits head_fits e =
    let t = judged_text circuit circuit_text IsPlan circuit_law (take most bytes) (drop most bytes) p head_fits e in
    let all : bytes ≡ take most bytes = sym (take-append-drop most bytes) ∙ ap (λ r. take most bytes ++ r) t.1 ∙ append-nil (take most bytes) in
    (formed p t.2, all ∙ t.0, omega (arith, ap length t.1, length-drop most bytes))

-- a text of a formed circuit is judged to be it
pub spelling_judged : (bytes : List ℕ) (p : Plan) → IsTrue (is_formed p) → bytes ≡ circuit_text p → length bytes ≤ most → judged_file bytes ≡ Ok p
spelling_judged bytes p h text short =
    let head : take most bytes ≡ circuit_text p = take_all most bytes short ∙ text in
    let read = text_judged circuit circuit_text IsPlan circuit_law p (spellable p h) in
    rw (head, drop_all most bytes short) read

-- ---- the clauses of the public reader

quiet : (p : Plan) (o : Option (ℕ × ℕ)) → passing p ≡ o → o ≡ None → IsTrue (is_none (passing p))
quiet p o e n = rw (e ∙ n) refl

answers : (result answer other : Result Plan CirErr) → Answers result answer → answer ≡ other → Answers result other
answers result answer other a e = subst (Answers result) e a

cause_noted : (bytes : List ℕ) (p : Plan) (o : Option (ℕ × ℕ)) → passing p ≡ o → IsTrue (is_formed p) × (bytes ≡ circuit_text p) × (length bytes ≤ most) → HasCause bytes (noted p o)
cause_noted bytes p (Some x) e h = record { plan = p; formed = h.0; text = h.1; short = h.2; noisy = e }
cause_noted bytes p None e h = record { valid = (h.0, rw e refl, short_from p (omega (arith, ap length h.1))); text = h.1 }

cause_judged : (bytes : List ℕ) (j : Result Plan ℕ) → IsBytes bytes → IsBytes (take most bytes) → judged_file bytes ≡ j → HasCause bytes (answer_to j)
cause_judged bytes (Ok p) fits head_fits e = cause_noted bytes p (passing p) refl (judged_whole bytes p fits head_fits e)
cause_judged bytes (Err at) fits head_fits e = judged_breaks circuit (take most bytes) (drop most bytes) at e

has_cause : (bytes : List ℕ) (result answer : Result Plan CirErr) → Answers result answer → HasCause bytes answer → HasCause bytes result
has_cause bytes (Ok p) answer a h = subst (HasCause bytes) (sym a) h
has_cause bytes (Err (Malformed at)) answer a h = subst (HasCause bytes) (sym a) h
has_cause bytes (Err (Noisy gate bound)) answer a h = subst (HasCause bytes) (sym a) h
has_cause bytes (Err Memory) answer a h = tt

pub every_cause : (bytes : List ℕ) (result : Result Plan CirErr) → IsBytes bytes → IsBytes (take most bytes) → Answers result (answer_to (judged_file bytes)) → HasCause bytes result
every_cause bytes result fits head_fits a = has_cause bytes result (answer_to (judged_file bytes)) a (cause_judged bytes (judged_file bytes) fits head_fits refl)

none_is : (o : Option (ℕ × ℕ)) → IsTrue (is_none o) → o ≡ None
none_is (Some x) h = absurd cc
none_is None h = refl

pub spelled_answer : (bytes : List ℕ) (result : Result Plan CirErr) (p : Plan) → Answers result (answer_to (judged_file bytes)) → Spells bytes p → Answers result (Ok p)
spelled_answer bytes result p a s =
    answers result (answer_to (judged_file bytes)) (Ok p) a (ap answer_to (spelling_judged bytes p s.valid.0 s.text (omega (arith, ap length s.text, short_to p s.valid.2))) ∙ ap (noted p) (none_is (passing p) s.valid.1))

pub broken_answer : (bytes : List ℕ) (result : Result Plan CirErr) (at : ℕ) → Answers result (answer_to (judged_file bytes)) → FileBreaksAt bytes at → Answers result (Err (Malformed at))
broken_answer bytes result at a b = answers result (answer_to (judged_file bytes)) (Err (Malformed at)) a (ap answer_to (breaks_judged circuit (take most bytes) (drop most bytes) at b))

pub noisy_answer : (bytes : List ℕ) (result : Result Plan CirErr) (gate bound : ℕ) → Answers result (answer_to (judged_file bytes)) → IsNoisyFile bytes gate bound → Answers result (Err (Noisy gate bound))
noisy_answer bytes result gate bound a n =
    answers result (answer_to (judged_file bytes)) (Err (Noisy gate bound)) a (ap answer_to (spelling_judged bytes n.plan n.formed n.text n.short) ∙ ap (noted n.plan) n.noisy)

-- a reading with nothing left is judged to be its value
pub judged_at_end : (head beyond : List ℕ) (p : Plan) (rest : List ℕ) → IsBytes head → length head ≤ most → length rest ≡ 0 → length beyond ≡ 0 → reading circuit head ≡ Ok (p, rest)
    → (judged head beyond (reading circuit head) ≡ Ok p) × IsTrue (is_formed p) × IsTrue (is_short p)
judged_at_end head beyond p rest fits few no_rest no_beyond e =
    let t = circuit_law.takes head p rest fits e in
    (rw (e, no_rest, no_beyond) refl, formed p t.1, short_from p (omega (arith, ap length t.0.parts, length-append (circuit_text p) rest)))
