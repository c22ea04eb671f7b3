-- What the first bytes of a file name, the whole file names.
use Rattle.std.proofs.Common.{◌≡◌, ◌≤◌, ◌<◌, ◌+◌, ◌-◌, ◌∙◌, ℕ, List, ◌++◌, length, take, drop, sym, ap, subst, arith, append_assoc}
use Rattle.std.specs.Int.{w8, w32, to_be_bytes}
use Rattle.std.proofs.lemmas.List.{length-append, take-append-drop}
use Rattle.std.proofs.Math.Seq.{take-append-add}
use Rattle.heco_fields.specs.Formats.{Format, header_text}
use Rattle.heco_fields.proofs.FieldLaws.{wide8, wide32}
use Rattle.heco_key_files.specs.Judging.{HasCause, NamesPreset, NamesNoOther, whole}
use Rattle.heco_lists.specs.declared.error.FileErr.{FileErr}
use Rattle.heco_lists.specs.declared.error.FileErr.TheVariants.{Malformed, WrongPreset, Count, Memory}
use Rattle.heco_ciphertext_files.specs.Counted.{HasCountedCause, NamesCount, CountsNoOther, whole_counted}
use Rattle.heco_files.proofs.Spans.{Spans, breaks_whole}

-- the first bytes of a text that begins so
take_behind : (limit : ℕ) (front rest : List ℕ) → length front ≤ limit → take limit (front ++ rest) ≡ front ++ take (limit - length front) rest
take_behind limit front rest le = subst (λ n. take n (front ++ rest) ≡ front ++ take (limit - length front) rest) (omega arith) (take-append-add front rest (limit - length front))

pub header_long : (magic : List ℕ) (id : ℕ) → length magic ≡ 4 → length (header_text magic id) ≡ 6
header_long magic id four =
    length-append magic (to_be_bytes w8 1 ++ to_be_bytes w8 id) ∙ ap (λ n. n + length (to_be_bytes w8 1 ++ to_be_bytes w8 id)) four
    ∙ ap (λ n. 4 + n) (length-append (to_be_bytes w8 1) (to_be_bytes w8 id) ∙ ap (λ n. n + length (to_be_bytes w8 id)) (wide8.len 1) ∙ ap (λ n. 1 + n) (wide8.len id))

-- ---- the preset

names_whole : (magic text : List ℕ) (limit found : ℕ) → NamesPreset magic found (take limit text) → NamesPreset magic found text
names_whole magic text limit found h = record {
  rest = h.rest ++ drop limit text;
  parts = sym (take-append-drop limit text) ∙ ap (λ (t : List ℕ). t ++ drop limit text) h.parts ∙ append_assoc (header_text magic found) h.rest (drop limit text);
  low = h.low;
  high = h.high;
}

names_first : (magic text : List ℕ) (limit found : ℕ) → length magic ≡ 4 → 6 ≤ limit → NamesPreset magic found text → NamesPreset magic found (take limit text)
names_first magic text limit found four le h = record {
  rest = take (limit - length (header_text magic found)) h.rest;
  parts = ap (take limit) h.parts ∙ take_behind limit (header_text magic found) h.rest (omega (arith, header_long magic found four));
  low = h.low;
  high = h.high;
}

no_other : (magic text : List ℕ) (limit kept : ℕ) → length magic ≡ 4 → 6 ≤ limit → NamesNoOther magic kept (take limit text) → NamesNoOther magic kept text
no_other magic text limit kept four le none found names = none found (names_first magic text limit found four le names)

-- why the first bytes, more than a file may have, are refused is why the whole file is
pub cause_whole : {A : Type 0} (magic : List ℕ) (kept : ℕ) (body : Format A) (most limit : ℕ) (Has : A → Type 0) (text bytes : List ℕ) (e : FileErr) → length magic ≡ 4 → 6 ≤ limit → Spans most Has (whole magic body) → most < limit → take limit text ≡ bytes
    → HasCause magic kept body bytes e → HasCause magic kept body text e
cause_whole magic kept body most limit Has text bytes (Malformed at) four six spans more cut h =
    (breaks_whole most limit Has (whole magic body) text bytes at spans more cut h.0, no_other magic text limit kept four six (subst (NamesNoOther magic kept) (sym cut) h.1))
cause_whole magic kept body most limit Has text bytes (WrongPreset k found) four six spans more cut h = (h.0, h.1, names_whole magic text limit found (subst (NamesPreset magic found) (sym cut) h.2))
cause_whole magic kept body most limit Has text bytes (Count want found) four six spans more cut h = h
cause_whole magic kept body most limit Has text bytes Memory four six spans more cut h = tt

-- ---- the count

count_whole : (magic text : List ℕ) (limit kept found : ℕ) → NamesCount magic kept found (take limit text) → NamesCount magic kept found text
count_whole magic text limit kept found h = record {
  rest = h.rest ++ drop limit text;
  parts = sym (take-append-drop limit text) ∙ ap (λ (t : List ℕ). t ++ drop limit text) h.parts ∙ append_assoc (header_text magic kept) (to_be_bytes w32 found ++ h.rest) (drop limit text) ∙ ap (λ (t : List ℕ). header_text magic kept ++ t) (append_assoc (to_be_bytes w32 found) h.rest (drop limit text));
  fits = h.fits;
}

count_first : (magic text : List ℕ) (limit kept found : ℕ) → length magic ≡ 4 → 10 ≤ limit → NamesCount magic kept found text → NamesCount magic kept found (take limit text)
count_first magic text limit kept found four le h =
    let front : length (header_text magic kept) ≡ 6 = header_long magic kept four in
    let count : length (to_be_bytes w32 found) ≡ 4 = wide32.len found in
    record {
      rest = take (limit - length (header_text magic kept) - length (to_be_bytes w32 found)) h.rest;
      parts = ap (take limit) h.parts ∙ take_behind limit (header_text magic kept) (to_be_bytes w32 found ++ h.rest) (omega (arith, front))
          ∙ ap (λ (t : List ℕ). header_text magic kept ++ t) (take_behind (limit - length (header_text magic kept)) (to_be_bytes w32 found) h.rest (omega (arith, front, count)));
      fits = h.fits;
    }

no_other_count : (magic text : List ℕ) (limit kept want : ℕ) → length magic ≡ 4 → 10 ≤ limit → CountsNoOther magic kept want (take limit text) → CountsNoOther magic kept want text
no_other_count magic text limit kept want four le none found names = none found (count_first magic text limit kept found four le names)

pub counted_cause_whole : {A : Type 0} (magic : List ℕ) (kept want : ℕ) (body : Format A) (most limit : ℕ) (Has : A → Type 0) (text bytes : List ℕ) (e : FileErr) → length magic ≡ 4 → 10 ≤ limit → Spans most Has (whole_counted magic body) → most < limit → take limit text ≡ bytes
    → HasCountedCause magic kept want body bytes e → HasCountedCause magic kept want body text e
counted_cause_whole magic kept want body most limit Has text bytes (Malformed at) four ten spans more cut h = (
  breaks_whole most limit Has (whole_counted magic body) text bytes at spans more cut h.0,
  no_other magic text limit kept four (omega arith) (subst (NamesNoOther magic kept) (sym cut) h.1),
  no_other_count magic text limit kept want four ten (subst (CountsNoOther magic kept want) (sym cut) h.2),
)
counted_cause_whole magic kept want body most limit Has text bytes (WrongPreset k found) four ten spans more cut h = (h.0, h.1, names_whole magic text limit found (subst (NamesPreset magic found) (sym cut) h.2))
counted_cause_whole magic kept want body most limit Has text bytes (Count w found) four ten spans more cut h = (h.0, h.1, count_whole magic text limit kept found (subst (NamesCount magic kept found) (sym cut) h.2))
counted_cause_whole magic kept want body most limit Has text bytes Memory four ten spans more cut h = tt
