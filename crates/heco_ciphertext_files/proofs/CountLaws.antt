-- A count that is read is one that the file has behind its header.
use Rattle.std.proofs.Common.{◌≡◌, ℕ, ◌^◌, ◌<◌, ◌≤◌, true, List, ◌++◌, Ok, Err, refl, sym, ap, ◌∙◌}
use Rattle.std.specs.Prelude.{IsTrue}
use Rattle.std.specs.Int.{w32, to_be_bytes}
use Rattle.heco_fields.specs.Formats.{any, header, header_text}
use Rattle.heco_fields.specs.Readings.{reading}
use Rattle.heco_fields.proofs.Laws.{IsBytes, Law, done, ok_is}
use Rattle.heco_fields.proofs.FieldLaws.{number_law, wide32}
use Rattle.heco_key_files.specs.Judging.{NamesPreset}
use Rattle.heco_key_files.proofs.Headers.{Reads, names_rest, not_names}
use Rattle.heco_ciphertext_files.specs.Counted.{NamesCount}

abbrev pub IsCount : ℕ → Type 0
IsCount n = (n < 2 ^ 32) × IsTrue true

pub count_law : Law (any w32) (to_be_bytes w32) IsCount
count_law = number_law w32 (2 ^ 32) wide32 (λ n. true)

pub count_text_read : (n : ℕ) (rest : List ℕ) → n < 2 ^ 32 → reading (any w32) (to_be_bytes w32 n ++ rest) ≡ Ok (n, rest)
count_text_read n rest lt = count_law.again n rest (lt, refl)

-- a count behind the header of a preset
abbrev pub names_preset : (magic : List ℕ) (kept found : ℕ) (bytes : List ℕ) → 1 ≤ kept → kept ≤ 5 → NamesCount magic kept found bytes → NamesPreset magic kept bytes
names_preset magic kept found bytes low high n = record { rest = to_be_bytes w32 found ++ n.rest; parts = n.parts; low = low; high = high }

abbrev pub reads_count : (magic : List ℕ) (kept found : ℕ) (bytes rest last : List ℕ) → Reads magic kept bytes rest → reading (any w32) rest ≡ Ok (found, last) → NamesCount magic kept found bytes
reads_count magic kept found bytes rest last r e =
    let t = count_law.takes rest found last r.rest_fits e in
    record { rest = last; parts = r.parts ∙ ap (λ b. header_text magic kept ++ b) t.0.parts; fits = t.1.0 }

pub count_rest_fits : (rest last : List ℕ) (found : ℕ) → IsBytes rest → reading (any w32) rest ≡ Ok (found, last) → IsBytes last
count_rest_fits rest last found fits e = (count_law.takes rest found last fits e).0.rest_fits

names_reading : (magic : List ℕ) (kept found : ℕ) (bytes rest : List ℕ) → 1 ≤ kept → kept ≤ 5 → reading (header magic) bytes ≡ Ok (kept, rest) → (n : NamesCount magic kept found bytes) → reading (any w32) rest ≡ Ok (found, n.rest)
names_reading magic kept found bytes rest low high e n =
    ap (reading (any w32)) (sym (names_rest magic bytes rest kept kept e (names_preset magic kept found bytes low high n))) ∙ count_text_read found n.rest n.fits

abbrev pair_of : ℕ → List ℕ → ℕ × List ℕ
pair_of a r = (a, r)

first_is : (a b : ℕ) (r s : List ℕ) → done (pair_of a r) ≡ done (pair_of b s) → a ≡ b
first_is a b r s e = ap (λ (p : ℕ × List ℕ). p.0) (ok_is (pair_of a r) (pair_of b s) e)

-- a file has one count
pub counts_one : (magic : List ℕ) (kept found other : ℕ) (bytes rest last : List ℕ) → 1 ≤ kept → kept ≤ 5 → reading (header magic) bytes ≡ Ok (kept, rest) → reading (any w32) rest ≡ Ok (found, last) → NamesCount magic kept other bytes → other ≡ found
counts_one magic kept found other bytes rest last low high e f n = first_is other found n.rest last (sym (names_reading magic kept other bytes rest low high e n) ∙ f)

pub counts_none : (magic : List ℕ) (kept other want left : ℕ) (bytes rest : List ℕ) → 1 ≤ kept → kept ≤ 5 → reading (header magic) bytes ≡ Ok (kept, rest) → reading (any w32) rest ≡ Err left → NamesCount magic kept other bytes → other ≡ want
counts_none magic kept other want left bytes rest low high e f n = let g = sym f ∙ names_reading magic kept other bytes rest low high e n in absurd cc

pub counts_nothing : (magic : List ℕ) (kept other want left : ℕ) (bytes : List ℕ) → 1 ≤ kept → kept ≤ 5 → reading (header magic) bytes ≡ Err left → NamesCount magic kept other bytes → other ≡ want
counts_nothing magic kept other want left bytes low high e n = not_names magic bytes left kept (other ≡ want) e (names_preset magic kept other bytes low high n)
