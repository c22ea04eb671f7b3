-- What a reader's answer says of a file with a header, from the law of its body.
use Rattle.std.proofs.Common.{◌≡◌, ◌≢◌, ℕ, ◌≤◌, Bool, true, false, cond, eqb, List, [], ◌++◌, Result, Ok, Err, refl, sym, ap, subst, ◌∙◌}
use Rattle.std.specs.Prelude.{IfOk, IfErr}
use Rattle.std.proofs.lemmas.Bool.{eqb-true, eqb-false, eq-eqb}
use Rattle.std.proofs.lemmas.List.{append-nil}
use Rattle.heco_fields.specs.Formats.{Format, BreaksAt, header, header_text}
use Rattle.heco_fields.specs.Readings.{Reading, reading, judged}
use Rattle.heco_fields.proofs.Steps.{reading_then}
use Rattle.heco_fields.proofs.FirstBroken.{judged_breaks, breaks_judged}
use Rattle.heco_fields.proofs.Laws.{IsBytes, Law}
use Rattle.heco_fields.proofs.FileLaws.{read_whole}
use Rattle.heco_lists.specs.declared.error.FileErr.{FileErr}
use Rattle.heco_lists.specs.declared.error.FileErr.TheVariants.{Malformed, WrongPreset, Count, Memory}
use Rattle.heco_key_files.specs.Judging.{placed, wanted, behind, body_as, file_as, whole, Answers, HasCause, NamesPreset, NamesNoOther}
use Rattle.heco_key_files.proofs.Headers.{header_read, reads_names, text_read, names_one, names_none}

abbrev value : {A : Type 0} → A → Result A FileErr
value x = Ok x

abbrev refusal : {A : Type 0} → FileErr → Result A FileErr
refusal e = Err e

pub value_is : {A : Type 0} (x y : A) → value x ≡ value y → x ≡ y
value_is x y e = cc

pub refusal_is : {A : Type 0} (d e : FileErr) → refusal {A = A} d ≡ refusal e → d ≡ e
refusal_is d e h = cc

-- the answer by the fields of the whole file
abbrev pub by_fields : {A : Type 0} → List ℕ → Format A → List ℕ → Result A FileErr
by_fields magic body bytes = placed (judged bytes [] (reading (whole magic body) bytes))

-- either the fields decide, or another preset is named
pub data Judged {A : Type 0} (magic : List ℕ) (kept : ℕ) (body : Format A) (bytes : List ℕ) : Type 0 where
  Plain : NamesNoOther magic kept bytes → file_as magic kept body bytes ≡ by_fields magic body bytes → Judged magic kept body bytes
  Other : (found : ℕ) → found ≢ kept → NamesPreset magic found bytes → file_as magic kept body bytes ≡ Err (WrongPreset kept found) → Judged magic kept body bytes

abbrev whole_reading : {A : Type 0} (magic : List ℕ) (body : Format A) (bytes : List ℕ) (r : Reading ℕ) → reading (header magic) bytes ≡ r → Type 0
whole_reading magic body bytes (Ok (found, rest)) e = reading (whole magic body) bytes ≡ reading body rest
whole_reading magic body bytes (Err left) e = reading (whole magic body) bytes ≡ Err left

whole_is : {A : Type 0} (magic : List ℕ) (body : Format A) (bytes : List ℕ) (r : Reading ℕ) → (e : reading (header magic) bytes ≡ r) → whole_reading magic body bytes r e
unfolding whole
whole_is magic body bytes (Ok (found, rest)) e = reading_then (header magic) (λ preset. body) bytes ∙ rw e refl
whole_is magic body bytes (Err left) e = reading_then (header magic) (λ preset. body) bytes ∙ rw e refl

judge_found : {A : Type 0} (magic : List ℕ) (kept : ℕ) (body : Format A) (bytes rest : List ℕ) (found : ℕ) (same : Bool) → IsBytes bytes → reading (header magic) bytes ≡ Ok (found, rest) → eqb found kept ≡ same → Judged magic kept body bytes
unfolding file_as wanted body_as
judge_found magic kept body bytes rest found true fits e is =
    let at : found ≡ kept = eqb-true found kept is in
    let w : reading (whole magic body) bytes ≡ reading body rest = whole_is magic body bytes (Ok (found, rest)) e in
    Plain (λ other n. names_one magic bytes rest found other e n ∙ at) (rw (e, is, w) refl)
judge_found magic kept body bytes rest found false fits e is =
    let r = header_read magic bytes rest found fits e in
    Other found (eqb-false found kept is) (reads_names magic bytes rest found r) (rw (e, is) refl)

judge_reading : {A : Type 0} (magic : List ℕ) (kept : ℕ) (body : Format A) (bytes : List ℕ) (r : Reading ℕ) → IsBytes bytes → reading (header magic) bytes ≡ r → Judged magic kept body bytes
unfolding file_as wanted body_as
judge_reading magic kept body bytes (Ok (found, rest)) fits e = judge_found magic kept body bytes rest found (eqb found kept) fits e refl
judge_reading magic kept body bytes (Err left) fits e =
    let w : reading (whole magic body) bytes ≡ Err left = whole_is magic body bytes (Err left) e in
    Plain (λ other n. names_none magic bytes left kept other e n) (rw (e, w) refl)

pub judge : {A : Type 0} (magic : List ℕ) (kept : ℕ) (body : Format A) (bytes : List ℕ) → IsBytes bytes → Judged magic kept body bytes
judge magic kept body bytes fits = judge_reading magic kept body bytes (reading (header magic) bytes) fits refl

-- ---- of Ok

placed_ok : {A : Type 0} (j : Result A ℕ) (x : A) → placed j ≡ Ok x → j ≡ Ok x
placed_ok (Ok y) x e = ap (λ z. Ok z) (value_is y x e)
placed_ok (Err at) x e = absurd cc

-- the body of a file that is read
pub body_text : {A : Type 0} (body : Format A) (spell : A → List ℕ) (Fits : A → Type 0) → Law body spell Fits → (bytes rest : List ℕ) (x : A) → IsBytes rest → body_as body bytes rest ≡ Ok x → Fits x × (rest ≡ spell x)
unfolding body_as
body_text body spell Fits law bytes rest x fits e =
    let w = read_whole bytes [] (reading body rest) x (placed_ok (judged bytes [] (reading body rest)) x e) in
    let t = law.takes rest x [] fits w.0 in
    (t.1, t.0.parts ∙ append-nil (spell x))

text_found : {A : Type 0} (magic : List ℕ) (kept : ℕ) (body : Format A) (spell : A → List ℕ) (Fits : A → Type 0) → Law body spell Fits → (bytes rest : List ℕ) (found : ℕ) (x : A) (same : Bool) → IsBytes bytes → reading (header magic) bytes ≡ Ok (found, rest) → eqb found kept ≡ same
    → behind (cond same (Ok rest) (Err (WrongPreset kept found))) (λ r. body_as body bytes r) ≡ Ok x → Fits x × (bytes ≡ header_text magic kept ++ spell x)
text_found magic kept body spell Fits law bytes rest found x true fits e is h =
    let r = header_read magic bytes rest found fits e in
    let t = body_text body spell Fits law bytes rest x r.rest_fits h in
    (t.0, r.parts ∙ ap (λ id. header_text magic id ++ rest) (eqb-true found kept is) ∙ ap (λ b. header_text magic kept ++ b) t.1)
text_found magic kept body spell Fits law bytes rest found x false fits e is h = absurd cc

text_reading : {A : Type 0} (magic : List ℕ) (kept : ℕ) (body : Format A) (spell : A → List ℕ) (Fits : A → Type 0) → Law body spell Fits → (bytes : List ℕ) (r : Reading ℕ) (x : A) → IsBytes bytes → reading (header magic) bytes ≡ r
    → behind (wanted bytes kept (λ found. WrongPreset kept found) r) (λ rest. body_as body bytes rest) ≡ Ok x → Fits x × (bytes ≡ header_text magic kept ++ spell x)
unfolding wanted
text_reading magic kept body spell Fits law bytes (Ok (found, rest)) x fits e h = text_found magic kept body spell Fits law bytes rest found x (eqb found kept) fits e refl h
text_reading magic kept body spell Fits law bytes (Err left) x fits e h = absurd cc

-- a value that is read has its text in the file, and fits
pub file_text : {A : Type 0} (magic : List ℕ) (kept : ℕ) (body : Format A) (spell : A → List ℕ) (Fits : A → Type 0) → Law body spell Fits → (bytes : List ℕ) (x : A) → IsBytes bytes → file_as magic kept body bytes ≡ Ok x → Fits x × (bytes ≡ header_text magic kept ++ spell x)
unfolding file_as
file_text magic kept body spell Fits law bytes x fits e = text_reading magic kept body spell Fits law bytes (reading (header magic) bytes) x fits refl e

pub spelled : {X A : Type 0} (view : X → A) (magic : List ℕ) (kept : ℕ) (body : Format A) (spell : A → List ℕ) (Fits : A → Type 0) → Law body spell Fits → (bytes : List ℕ) (r : Result X FileErr) → IsBytes bytes → Answers view r (file_as magic kept body bytes) → IfOk r (λ x. Fits (view x) × (bytes ≡ header_text magic kept ++ spell (view x)))
spelled view magic kept body spell Fits law bytes (Ok x) fits a = file_text magic kept body spell Fits law bytes (view x) fits a
spelled view magic kept body spell Fits law bytes (Err e) fits a = tt

pub fitting : {X A : Type 0} (view : X → A) (magic : List ℕ) (kept : ℕ) (body : Format A) (spell : A → List ℕ) (Fits : A → Type 0) → Law body spell Fits → (bytes : List ℕ) (r : Result X FileErr) → IsBytes bytes → Answers view r (file_as magic kept body bytes) → IfOk r (λ x. Fits (view x))
fitting view magic kept body spell Fits law bytes (Ok x) fits a = (file_text magic kept body spell Fits law bytes (view x) fits a).0
fitting view magic kept body spell Fits law bytes (Err e) fits a = tt

-- the text of a value that fits is read as that value
pub text_file : {A : Type 0} (magic : List ℕ) (kept : ℕ) (body : Format A) (spell : A → List ℕ) (Fits : A → Type 0) → Law body spell Fits → (x : A) → 1 ≤ kept → kept ≤ 5 → Fits x → file_as magic kept body (header_text magic kept ++ spell x) ≡ Ok x
unfolding file_as wanted body_as
text_file magic kept body spell Fits law x low high fits =
    let head = text_read magic (spell x) kept low high in
    let same = eq-eqb kept kept refl in
    let read : reading body (spell x) ≡ Ok (x, []) = ap (reading body) (sym (append-nil (spell x))) ∙ law.again x [] fits in
    rw (head, same, read) refl

pub answers : {X A : Type 0} (view : X → A) (r : Result X FileErr) (a b : Result A FileErr) → Answers view r a → a ≡ b → Answers view r b
answers view r a b h e = subst (Answers view r) e h

pub only : {X A : Type 0} (view : X → A) (magic : List ℕ) (kept : ℕ) (body : Format A) (spell : A → List ℕ) (Fits : A → Type 0) → Law body spell Fits → (bytes : List ℕ) (r : Result X FileErr) → Answers view r (file_as magic kept body bytes) → (x : A) → 1 ≤ kept → kept ≤ 5 → Fits x → bytes ≡ header_text magic kept ++ spell x → Answers view r (Ok x)
only view magic kept body spell Fits law bytes r a x low high fits text =
    answers view r (file_as magic kept body bytes) (Ok x) a (ap (file_as magic kept body) text ∙ text_file magic kept body spell Fits law x low high fits)

-- ---- of Err

pub placed_err : {A : Type 0} (whole_file : Format A) (bytes : List ℕ) (j : Result A ℕ) (e : FileErr) (Cause : FileErr → Type 0) → judged bytes [] (reading whole_file bytes) ≡ j → placed j ≡ Err e → ((at : ℕ) → BreaksAt whole_file bytes [] at → Cause (Malformed at)) → Cause e
placed_err whole_file bytes (Ok x) e Cause is h causes = absurd cc
placed_err {A = A} whole_file bytes (Err at) e Cause is h causes = subst Cause (refusal_is {A = A} (Malformed at) e h) (causes at (judged_breaks whole_file bytes [] at is))

cause_judged : {A : Type 0} (magic : List ℕ) (kept : ℕ) (body : Format A) (bytes : List ℕ) (e : FileErr) → Judged magic kept body bytes → file_as magic kept body bytes ≡ Err e → HasCause magic kept body bytes e
cause_judged magic kept body bytes e (Plain none same) h =
    placed_err (whole magic body) bytes (judged bytes [] (reading (whole magic body) bytes)) e (HasCause magic kept body bytes) refl (sym same ∙ h) (λ at b. (b, none))
cause_judged {A = A} magic kept body bytes e (Other found ne names same) h =
    subst (HasCause magic kept body bytes) (refusal_is {A = A} (WrongPreset kept found) e (sym same ∙ h)) (refl, ne, names)

pub caused : {X A : Type 0} (view : X → A) (magic : List ℕ) (kept : ℕ) (body : Format A) (bytes : List ℕ) (r : Result X FileErr) → IsBytes bytes → Answers view r (file_as magic kept body bytes) → IfErr r (HasCause magic kept body bytes)
caused view magic kept body bytes (Ok x) fits a = tt
caused view magic kept body bytes (Err Memory) fits a = tt
caused view magic kept body bytes (Err (Malformed at)) fits a = cause_judged magic kept body bytes (Malformed at) (judge magic kept body bytes fits) a
caused view magic kept body bytes (Err (WrongPreset k found)) fits a = cause_judged magic kept body bytes (WrongPreset k found) (judge magic kept body bytes fits) a
caused view magic kept body bytes (Err (Count want found)) fits a = cause_judged magic kept body bytes (Count want found) (judge magic kept body bytes fits) a

malformed_judged : {A : Type 0} (magic : List ℕ) (kept : ℕ) (body : Format A) (bytes : List ℕ) (at : ℕ) → Judged magic kept body bytes → BreaksAt (whole magic body) bytes [] at → NamesNoOther magic kept bytes → file_as magic kept body bytes ≡ Err (Malformed at)
malformed_judged magic kept body bytes at (Plain none same) b none_other = same ∙ ap placed (breaks_judged (whole magic body) bytes [] at b)
malformed_judged magic kept body bytes at (Other found ne names same) b none_other = absurd (ne (none_other found names))

pub malformed : {X A : Type 0} (view : X → A) (magic : List ℕ) (kept : ℕ) (body : Format A) (bytes : List ℕ) (r : Result X FileErr) → IsBytes bytes → Answers view r (file_as magic kept body bytes) → (at : ℕ) → BreaksAt (whole magic body) bytes [] at → NamesNoOther magic kept bytes → Answers view r (Err (Malformed at))
malformed view magic kept body bytes r fits a at b none_other = answers view r (file_as magic kept body bytes) (Err (Malformed at)) a (malformed_judged magic kept body bytes at (judge magic kept body bytes fits) b none_other)

wrong_judged : {A : Type 0} (magic : List ℕ) (kept : ℕ) (body : Format A) (bytes : List ℕ) (found : ℕ) → found ≢ kept → NamesPreset magic found bytes → (n : ℕ) → NamesPreset magic n bytes → n ≡ found
wrong_judged magic kept body bytes found ne names n other = names_same magic bytes found n names other
  where
    names_same : (magic bytes : List ℕ) (found n : ℕ) → NamesPreset magic found bytes → NamesPreset magic n bytes → n ≡ found
    names_same magic bytes found n names other = names_one magic bytes names.rest found n (ap (reading (header magic)) names.parts ∙ text_read magic names.rest found names.low names.high) other

wrong_by : {A : Type 0} (magic : List ℕ) (kept : ℕ) (body : Format A) (bytes : List ℕ) (found : ℕ) → Judged magic kept body bytes → found ≢ kept → NamesPreset magic found bytes → file_as magic kept body bytes ≡ Err (WrongPreset kept found)
wrong_by magic kept body bytes found (Plain none same) ne names = absurd (ne (none found names))
wrong_by magic kept body bytes found (Other n n_ne other same) ne names = same ∙ ap (λ k. Err (WrongPreset kept k)) (wrong_judged magic kept body bytes found ne names n other)

pub wrong : {X A : Type 0} (view : X → A) (magic : List ℕ) (kept : ℕ) (body : Format A) (bytes : List ℕ) (r : Result X FileErr) → IsBytes bytes → Answers view r (file_as magic kept body bytes) → (found : ℕ) → found ≢ kept → NamesPreset magic found bytes → Answers view r (Err (WrongPreset kept found))
wrong view magic kept body bytes r fits a found ne names = answers view r (file_as magic kept body bytes) (Err (WrongPreset kept found)) a (wrong_by magic kept body bytes found (judge magic kept body bytes fits) ne names)

-- ---- of a writer

pub read_back : {E A : Type 0} (magic : List ℕ) (kept : ℕ) (body : Format A) (spell : A → List ℕ) (Fits : A → Type 0) → Law body spell Fits → (x : A) (r : Result (List ℕ) E) → 1 ≤ kept → kept ≤ 5 → IfOk r (λ bytes. bytes ≡ header_text magic kept ++ spell x) → Fits x → IfOk r (λ bytes. file_as magic kept body bytes ≡ Ok x)
read_back magic kept body spell Fits law x (Ok bytes) low high text fits = ap (file_as magic kept body) text ∙ text_file magic kept body spell Fits law x low high fits
read_back magic kept body spell Fits law x (Err e) low high text fits = tt

-- two values that share a file are one
one_value : {A : Type 0} (magic : List ℕ) (kept : ℕ) (body : Format A) (spell : A → List ℕ) (Fits : A → Type 0) → Law body spell Fits → (x y : A) → 1 ≤ kept → kept ≤ 5 → Fits x → Fits y → header_text magic kept ++ spell x ≡ header_text magic kept ++ spell y → x ≡ y
one_value magic kept body spell Fits law x y low high p q same =
    value_is x y (sym (text_file magic kept body spell Fits law x low high p) ∙ ap (file_as magic kept body) same ∙ text_file magic kept body spell Fits law y low high q)

pub own_text : {E A : Type 0} (magic : List ℕ) (kept : ℕ) (body : Format A) (spell : A → List ℕ) (Fits : A → Type 0) → Law body spell Fits → (x : A) (r : Result (List ℕ) E) → 1 ≤ kept → kept ≤ 5 → IfOk r (λ bytes. bytes ≡ header_text magic kept ++ spell x) → (y : A) → Fits x → Fits y → IfOk r (λ bytes. bytes ≡ header_text magic kept ++ spell y → x ≡ y)
own_text magic kept body spell Fits law x (Ok bytes) low high text y p q = λ other. one_value magic kept body spell Fits law x y low high p q (sym text ∙ other)
own_text magic kept body spell Fits law x (Err e) low high text y p q = tt
