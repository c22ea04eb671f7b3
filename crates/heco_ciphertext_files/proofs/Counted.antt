-- What a reader's answer says of a file with a header and a count, from the law of its body.
use Rattle.std.proofs.Common.{◌≡◌, ◌≢◌, ℕ, ◌^◌, ◌<◌, ◌≤◌, Bool, true, false, cond, eqb, List, [], ◌++◌, Result, Ok, Err, refl, sym, ap, subst, ◌∙◌}
use Rattle.std.specs.Prelude.{IfOk, IfErr}
use Rattle.std.specs.Int.{w32, to_be_bytes}
use Rattle.std.proofs.lemmas.Bool.{eqb-true, eqb-false, eq-eqb}
use Rattle.std.proofs.lemmas.List.{append-nil}
use Rattle.heco_fields.specs.Formats.{Format, BreaksAt, any, header, header_text, ◌>>=◌ as ◌then◌}
use Rattle.heco_fields.specs.Readings.{Reading, reading, judged}
use Rattle.heco_fields.proofs.Steps.{reading_then}
use Rattle.heco_fields.proofs.FirstBroken.{breaks_judged}
use Rattle.heco_fields.proofs.Laws.{IsBytes, Law}
use Rattle.heco_lists.specs.declared.error.FileErr.{FileErr}
use Rattle.heco_lists.specs.declared.error.FileErr.TheVariants.{Malformed, WrongPreset, Count, Memory}
use Rattle.heco_key_files.specs.Judging.{placed, wanted, behind, body_as, Answers, NamesPreset, NamesNoOther}
use Rattle.heco_key_files.proofs.Headers.{Reads, header_read, reads_names, text_read, names_one, names_none}
use Rattle.heco_key_files.proofs.Judged.{refusal_is, placed_err, body_text, answers}
use Rattle.heco_ciphertext_files.specs.Counted.{behind_count, counted_as, NamesCount, CountsNoOther, whole_counted, HasCountedCause}
use Rattle.heco_ciphertext_files.proofs.CountLaws.{count_text_read, reads_count, count_rest_fits, counts_one, counts_none, counts_nothing, names_preset}

-- the answer by the fields of the whole file
abbrev pub by_fields : {A : Type 0} → List ℕ → Format A → List ℕ → Result A FileErr
by_fields magic body bytes = placed (judged bytes [] (reading (whole_counted magic body) bytes))

-- the fields decide, or another preset or another count is named
pub data Judged {A : Type 0} (magic : List ℕ) (kept want : ℕ) (body : Format A) (bytes : List ℕ) : Type 0 where
  Plain : NamesNoOther magic kept bytes → CountsNoOther magic kept want bytes → counted_as magic kept want body bytes ≡ by_fields magic body bytes → Judged magic kept want body bytes
  Other : (found : ℕ) → found ≢ kept → NamesPreset magic found bytes → counted_as magic kept want body bytes ≡ Err (WrongPreset kept found) → Judged magic kept want body bytes
  Counts : (found : ℕ) → found ≢ want → NamesNoOther magic kept bytes → NamesCount magic kept found bytes → counted_as magic kept want body bytes ≡ Err (Count want found) → Judged magic kept want body bytes

whole_err : {A : Type 0} (magic : List ℕ) (body : Format A) (bytes : List ℕ) (left : ℕ) → reading (header magic) bytes ≡ Err left → reading (whole_counted magic body) bytes ≡ Err left
unfolding whole_counted
whole_err magic body bytes left e = reading_then (header magic) (λ preset. any w32 then λ count. body) bytes ∙ rw e refl

whole_ok : {A : Type 0} (magic : List ℕ) (body : Format A) (bytes rest : List ℕ) (found : ℕ) → reading (header magic) bytes ≡ Ok (found, rest) → reading (whole_counted magic body) bytes ≡ reading (any w32 then λ count. body) rest
unfolding whole_counted
whole_ok magic body bytes rest found e = reading_then (header magic) (λ preset. any w32 then λ count. body) bytes ∙ rw e refl

count_err : {A : Type 0} (body : Format A) (rest : List ℕ) (left : ℕ) → reading (any w32) rest ≡ Err left → reading (any w32 then λ count. body) rest ≡ Err left
count_err body rest left e = reading_then (any w32) (λ count. body) rest ∙ rw e refl

count_ok : {A : Type 0} (body : Format A) (rest last : List ℕ) (found : ℕ) → reading (any w32) rest ≡ Ok (found, last) → reading (any w32 then λ count. body) rest ≡ reading body last
count_ok body rest last found e = reading_then (any w32) (λ count. body) rest ∙ rw e refl

judge_counted : {A : Type 0} (magic : List ℕ) (kept want : ℕ) (body : Format A) (bytes rest last : List ℕ) (found count : ℕ) (same : Bool) → IsBytes bytes → 1 ≤ kept → kept ≤ 5 → found ≡ kept → eqb found kept ≡ true
    → reading (header magic) bytes ≡ Ok (found, rest) → reading (any w32) rest ≡ Ok (count, last) → eqb count want ≡ same → Judged magic kept want body bytes
unfolding counted_as behind_count wanted body_as
judge_counted magic kept want body bytes rest last found count true fits low high at is e f same =
    let here : reading (header magic) bytes ≡ Ok (kept, rest) = subst (λ k. reading (header magic) bytes ≡ Ok (k, rest)) at e in
    let w : reading (whole_counted magic body) bytes ≡ reading body last = whole_ok magic body bytes rest found e ∙ count_ok body rest last count f in
    Plain (λ other n. names_one magic bytes rest found other e n ∙ at)
    (λ other n. counts_one magic kept count other bytes rest last low high here f n ∙ eqb-true count want same)
    (rw (e, is, f, same, w) refl)
judge_counted magic kept want body bytes rest last found count false fits low high at is e f same =
    let here : reading (header magic) bytes ≡ Ok (kept, rest) = subst (λ k. reading (header magic) bytes ≡ Ok (k, rest)) at e in
    let r = header_read magic bytes rest kept fits here in
    Counts count (eqb-false count want same) (λ other n. names_one magic bytes rest found other e n ∙ at) (reads_count magic kept count bytes rest last r f) (rw (e, is, f, same) refl)

judge_count : {A : Type 0} (magic : List ℕ) (kept want : ℕ) (body : Format A) (bytes rest : List ℕ) (found : ℕ) (c : Reading ℕ) → IsBytes bytes → 1 ≤ kept → kept ≤ 5 → eqb found kept ≡ true
    → reading (header magic) bytes ≡ Ok (found, rest) → reading (any w32) rest ≡ c → Judged magic kept want body bytes
unfolding counted_as behind_count wanted body_as
judge_count magic kept want body bytes rest found (Ok (count, last)) fits low high is e f = judge_counted magic kept want body bytes rest last found count (eqb count want) fits low high (eqb-true found kept is) is e f refl
judge_count magic kept want body bytes rest found (Err left) fits low high is e f =
    let at : found ≡ kept = eqb-true found kept is in
    let here : reading (header magic) bytes ≡ Ok (kept, rest) = subst (λ k. reading (header magic) bytes ≡ Ok (k, rest)) at e in
    let w : reading (whole_counted magic body) bytes ≡ Err left = whole_ok magic body bytes rest found e ∙ count_err body rest left f in
    Plain (λ other n. names_one magic bytes rest found other e n ∙ at) (λ other n. counts_none magic kept other want left bytes rest low high here f n) (rw (e, is, f, w) refl)

judge_found : {A : Type 0} (magic : List ℕ) (kept want : ℕ) (body : Format A) (bytes rest : List ℕ) (found : ℕ) (same : Bool) → IsBytes bytes → 1 ≤ kept → kept ≤ 5 → reading (header magic) bytes ≡ Ok (found, rest) → eqb found kept ≡ same → Judged magic kept want body bytes
unfolding counted_as wanted
judge_found magic kept want body bytes rest found true fits low high e is = judge_count magic kept want body bytes rest found (reading (any w32) rest) fits low high is e refl
judge_found magic kept want body bytes rest found false fits low high e is =
    let r = header_read magic bytes rest found fits e in
    Other found (eqb-false found kept is) (reads_names magic bytes rest found r) (rw (e, is) refl)

judge_reading : {A : Type 0} (magic : List ℕ) (kept want : ℕ) (body : Format A) (bytes : List ℕ) (r : Reading ℕ) → IsBytes bytes → 1 ≤ kept → kept ≤ 5 → reading (header magic) bytes ≡ r → Judged magic kept want body bytes
unfolding counted_as wanted
judge_reading magic kept want body bytes (Ok (found, rest)) fits low high e = judge_found magic kept want body bytes rest found (eqb found kept) fits low high e refl
judge_reading magic kept want body bytes (Err left) fits low high e =
    let w : reading (whole_counted magic body) bytes ≡ Err left = whole_err magic body bytes left e in
    Plain (λ other n. names_none magic bytes left kept other e n) (λ other n. counts_nothing magic kept other want left bytes low high e n) (rw (e, w) refl)

pub judge : {A : Type 0} (magic : List ℕ) (kept want : ℕ) (body : Format A) (bytes : List ℕ) → IsBytes bytes → 1 ≤ kept → kept ≤ 5 → Judged magic kept want body bytes
judge magic kept want body bytes fits low high = judge_reading magic kept want body bytes (reading (header magic) bytes) fits low high refl

-- ---- of Ok

abbrev pub counted_text : {A : Type 0} → List ℕ → ℕ → ℕ → (A → List ℕ) → A → List ℕ
counted_text magic kept want spell x = header_text magic kept ++ (to_be_bytes w32 want ++ spell x)

text_counted : {A : Type 0} (kept want : ℕ) (body : Format A) (spell : A → List ℕ) (Fits : A → Type 0) → Law body spell Fits → (bytes rest last : List ℕ) (count : ℕ) (x : A) (same : Bool) → IsBytes rest → reading (any w32) rest ≡ Ok (count, last) → eqb count want ≡ same
    → behind (cond same (Ok last) (Err (Count want count))) (λ l. body_as body bytes l) ≡ Ok x → (magic : List ℕ) → Reads magic kept bytes rest → Fits x × (bytes ≡ counted_text magic kept want spell x)
text_counted kept want body spell Fits law bytes rest last count x true fits e is h magic r =
    let n = reads_count magic kept count bytes rest last r e in
    let t = body_text body spell Fits law bytes n.rest x (count_rest_fits rest last count fits e) h in
    (t.0, n.parts ∙ ap (λ m. header_text magic kept ++ (to_be_bytes w32 m ++ n.rest)) (eqb-true count want is) ∙ ap (λ b. header_text magic kept ++ (to_be_bytes w32 want ++ b)) t.1)
text_counted kept want body spell Fits law bytes rest last count x false fits e is h magic r = absurd cc

text_count : {A : Type 0} (kept want : ℕ) (body : Format A) (spell : A → List ℕ) (Fits : A → Type 0) → Law body spell Fits → (bytes rest : List ℕ) (c : Reading ℕ) (x : A) → IsBytes rest → reading (any w32) rest ≡ c
    → behind (wanted bytes want (λ found. Count want found) c) (λ l. body_as body bytes l) ≡ Ok x → (magic : List ℕ) → Reads magic kept bytes rest → Fits x × (bytes ≡ counted_text magic kept want spell x)
unfolding wanted
text_count kept want body spell Fits law bytes rest (Ok (count, last)) x fits e h magic r = text_counted kept want body spell Fits law bytes rest last count x (eqb count want) fits e refl h magic r
text_count kept want body spell Fits law bytes rest (Err left) x fits e h magic r = absurd cc

text_found : {A : Type 0} (magic : List ℕ) (kept want : ℕ) (body : Format A) (spell : A → List ℕ) (Fits : A → Type 0) → Law body spell Fits → (bytes rest : List ℕ) (found : ℕ) (x : A) (same : Bool) → IsBytes bytes → reading (header magic) bytes ≡ Ok (found, rest) → eqb found kept ≡ same
    → behind (cond same (Ok rest) (Err (WrongPreset kept found))) (λ r. behind_count want body bytes r) ≡ Ok x → Fits x × (bytes ≡ counted_text magic kept want spell x)
unfolding behind_count
text_found magic kept want body spell Fits law bytes rest found x true fits e is h =
    let r = header_read magic bytes rest found fits e in
    let here : Reads magic kept bytes rest = subst (λ k. Reads magic k bytes rest) (eqb-true found kept is) r in
    text_count kept want body spell Fits law bytes rest (reading (any w32) rest) x here.rest_fits refl h magic here
text_found magic kept want body spell Fits law bytes rest found x false fits e is h = absurd cc

text_reading : {A : Type 0} (magic : List ℕ) (kept want : ℕ) (body : Format A) (spell : A → List ℕ) (Fits : A → Type 0) → Law body spell Fits → (bytes : List ℕ) (r : Reading ℕ) (x : A) → IsBytes bytes → reading (header magic) bytes ≡ r
    → behind (wanted bytes kept (λ found. WrongPreset kept found) r) (λ rest. behind_count want body bytes rest) ≡ Ok x → Fits x × (bytes ≡ counted_text magic kept want spell x)
unfolding wanted
text_reading magic kept want body spell Fits law bytes (Ok (found, rest)) x fits e h = text_found magic kept want body spell Fits law bytes rest found x (eqb found kept) fits e refl h
text_reading magic kept want body spell Fits law bytes (Err left) x fits e h = absurd cc

-- a value that is read has its text in the file, and fits
file_text : {A : Type 0} (magic : List ℕ) (kept want : ℕ) (body : Format A) (spell : A → List ℕ) (Fits : A → Type 0) → Law body spell Fits → (bytes : List ℕ) (x : A) → IsBytes bytes → counted_as magic kept want body bytes ≡ Ok x → Fits x × (bytes ≡ counted_text magic kept want spell x)
unfolding counted_as
file_text magic kept want body spell Fits law bytes x fits e = text_reading magic kept want body spell Fits law bytes (reading (header magic) bytes) x fits refl e

pub spelled : {X A : Type 0} (view : X → A) (magic : List ℕ) (kept want : ℕ) (body : Format A) (spell : A → List ℕ) (Fits : A → Type 0) → Law body spell Fits → (bytes : List ℕ) (r : Result X FileErr) → IsBytes bytes → Answers view r (counted_as magic kept want body bytes) → IfOk r (λ x. Fits (view x) × (bytes ≡ counted_text magic kept want spell (view x)))
spelled view magic kept want body spell Fits law bytes (Ok x) fits a = file_text magic kept want body spell Fits law bytes (view x) fits a
spelled view magic kept want body spell Fits law bytes (Err e) fits a = tt

-- the text of a value that fits is read as that value
pub text_file : {A : Type 0} (magic : List ℕ) (kept want : ℕ) (body : Format A) (spell : A → List ℕ) (Fits : A → Type 0) → Law body spell Fits → (x : A) → 1 ≤ kept → kept ≤ 5 → want < 2 ^ 32 → Fits x → counted_as magic kept want body (counted_text magic kept want spell x) ≡ Ok x
unfolding counted_as behind_count wanted body_as
text_file magic kept want body spell Fits law x low high few fits =
    let head = text_read magic (to_be_bytes w32 want ++ spell x) kept low high in
    let same = eq-eqb kept kept refl in
    let number = count_text_read want (spell x) few in
    let equal = eq-eqb want want refl in
    let read : reading body (spell x) ≡ Ok (x, []) = ap (reading body) (sym (append-nil (spell x))) ∙ law.again x [] fits in
    rw (head, same, number, equal, read) refl

pub only : {X A : Type 0} (view : X → A) (magic : List ℕ) (kept want : ℕ) (body : Format A) (spell : A → List ℕ) (Fits : A → Type 0) → Law body spell Fits → (bytes : List ℕ) (r : Result X FileErr) → Answers view r (counted_as magic kept want body bytes) → (x : A) → 1 ≤ kept → kept ≤ 5 → want < 2 ^ 32 → Fits x → bytes ≡ counted_text magic kept want spell x → Answers view r (Ok x)
only view magic kept want body spell Fits law bytes r a x low high few fits text =
    answers view r (counted_as magic kept want body bytes) (Ok x) a (ap (counted_as magic kept want body) text ∙ text_file magic kept want body spell Fits law x low high few fits)

-- ---- of Err

cause_judged : {A : Type 0} (magic : List ℕ) (kept want : ℕ) (body : Format A) (bytes : List ℕ) (e : FileErr) → Judged magic kept want body bytes → counted_as magic kept want body bytes ≡ Err e → HasCountedCause magic kept want body bytes e
cause_judged magic kept want body bytes e (Plain none counts same) h =
    placed_err (whole_counted magic body) bytes (judged bytes [] (reading (whole_counted magic body) bytes)) e (HasCountedCause magic kept want body bytes) refl (sym same ∙ h) (λ at b. (b, none, counts))
cause_judged {A = A} magic kept want body bytes e (Other found ne names same) h =
    subst (HasCountedCause magic kept want body bytes) (refusal_is {A = A} (WrongPreset kept found) e (sym same ∙ h)) (refl, ne, names)
cause_judged {A = A} magic kept want body bytes e (Counts found ne none names same) h =
    subst (HasCountedCause magic kept want body bytes) (refusal_is {A = A} (Count want found) e (sym same ∙ h)) (refl, ne, names)

pub caused : {X A : Type 0} (view : X → A) (magic : List ℕ) (kept want : ℕ) (body : Format A) (bytes : List ℕ) (r : Result X FileErr) → Judged magic kept want body bytes → Answers view r (counted_as magic kept want body bytes) → IfErr r (HasCountedCause magic kept want body bytes)
caused view magic kept want body bytes (Ok x) j a = tt
caused view magic kept want body bytes (Err Memory) j a = tt
caused view magic kept want body bytes (Err (Malformed at)) j a = cause_judged magic kept want body bytes (Malformed at) j a
caused view magic kept want body bytes (Err (WrongPreset k found)) j a = cause_judged magic kept want body bytes (WrongPreset k found) j a
caused view magic kept want body bytes (Err (Count w found)) j a = cause_judged magic kept want body bytes (Count w found) j a

malformed_judged : {A : Type 0} (magic : List ℕ) (kept want : ℕ) (body : Format A) (bytes : List ℕ) (at : ℕ) → Judged magic kept want body bytes → BreaksAt (whole_counted magic body) bytes [] at → NamesNoOther magic kept bytes → CountsNoOther magic kept want bytes → counted_as magic kept want body bytes ≡ Err (Malformed at)
malformed_judged magic kept want body bytes at (Plain none counts same) b none_other no_count = same ∙ ap placed (breaks_judged (whole_counted magic body) bytes [] at b)
malformed_judged magic kept want body bytes at (Other found ne names same) b none_other no_count = absurd (ne (none_other found names))
malformed_judged magic kept want body bytes at (Counts found ne none names same) b none_other no_count = absurd (ne (no_count found names))

pub malformed : {X A : Type 0} (view : X → A) (magic : List ℕ) (kept want : ℕ) (body : Format A) (bytes : List ℕ) (r : Result X FileErr) → Judged magic kept want body bytes → Answers view r (counted_as magic kept want body bytes) → (at : ℕ) → BreaksAt (whole_counted magic body) bytes [] at → NamesNoOther magic kept bytes → CountsNoOther magic kept want bytes → Answers view r (Err (Malformed at))
malformed view magic kept want body bytes r j a at b none_other no_count = answers view r (counted_as magic kept want body bytes) (Err (Malformed at)) a (malformed_judged magic kept want body bytes at j b none_other no_count)

names_same : (magic bytes : List ℕ) (found n : ℕ) → NamesPreset magic found bytes → NamesPreset magic n bytes → n ≡ found
names_same magic bytes found n names other = names_one magic bytes names.rest found n (ap (reading (header magic)) names.parts ∙ text_read magic names.rest found names.low names.high) other

wrong_by : {A : Type 0} (magic : List ℕ) (kept want : ℕ) (body : Format A) (bytes : List ℕ) (found : ℕ) → Judged magic kept want body bytes → found ≢ kept → NamesPreset magic found bytes → counted_as magic kept want body bytes ≡ Err (WrongPreset kept found)
wrong_by magic kept want body bytes found (Plain none counts same) ne names = absurd (ne (none found names))
wrong_by magic kept want body bytes found (Other n n_ne other same) ne names = same ∙ ap (λ k. Err (WrongPreset kept k)) (names_same magic bytes found n names other)
wrong_by magic kept want body bytes found (Counts n n_ne none other same) ne names = absurd (ne (none found names))

pub wrong : {X A : Type 0} (view : X → A) (magic : List ℕ) (kept want : ℕ) (body : Format A) (bytes : List ℕ) (r : Result X FileErr) → Judged magic kept want body bytes → Answers view r (counted_as magic kept want body bytes) → (found : ℕ) → found ≢ kept → NamesPreset magic found bytes → Answers view r (Err (WrongPreset kept found))
wrong view magic kept want body bytes r j a found ne names = answers view r (counted_as magic kept want body bytes) (Err (WrongPreset kept found)) a (wrong_by magic kept want body bytes found j ne names)

pub counts_same : (magic bytes : List ℕ) (kept found n : ℕ) → 1 ≤ kept → kept ≤ 5 → NamesCount magic kept found bytes → NamesCount magic kept n bytes → n ≡ found
counts_same magic bytes kept found n low high names other =
    counts_one magic kept found n bytes (to_be_bytes w32 found ++ names.rest) names.rest low high (ap (reading (header magic)) names.parts ∙ text_read magic (to_be_bytes w32 found ++ names.rest) kept low high) (count_text_read found names.rest names.fits) other

count_by : {A : Type 0} (magic : List ℕ) (kept want : ℕ) (body : Format A) (bytes : List ℕ) (found : ℕ) → 1 ≤ kept → kept ≤ 5 → Judged magic kept want body bytes → found ≢ want → NamesCount magic kept found bytes → counted_as magic kept want body bytes ≡ Err (Count want found)
count_by magic kept want body bytes found low high (Plain none counts same) ne names = absurd (ne (counts found names))
count_by magic kept want body bytes found low high (Other n n_ne other same) ne names = absurd (n_ne (sym (names_same magic bytes n kept other (names_preset magic kept found bytes low high names))))
count_by magic kept want body bytes found low high (Counts n n_ne none other same) ne names = same ∙ ap (λ k. Err (Count want k)) (counts_same magic bytes kept found n low high names other)

pub counted : {X A : Type 0} (view : X → A) (magic : List ℕ) (kept want : ℕ) (body : Format A) (bytes : List ℕ) (r : Result X FileErr) → 1 ≤ kept → kept ≤ 5 → Judged magic kept want body bytes → Answers view r (counted_as magic kept want body bytes) → (found : ℕ) → found ≢ want → NamesCount magic kept found bytes → Answers view r (Err (Count want found))
counted view magic kept want body bytes r low high j a found ne names = answers view r (counted_as magic kept want body bytes) (Err (Count want found)) a (count_by magic kept want body bytes found low high j ne names)
