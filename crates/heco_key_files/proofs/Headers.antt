-- A header that is read is one that the file begins with.
use Rattle.std.proofs.Common.{◌≡◌, ℕ, ◌<◌, ◌≤◌, ◌^◌, ◌&&◌, leb, List, ◌++◌, Result, Ok, Err, sym, ap, ◌∙◌, arith}
use Rattle.std.specs.Prelude.{IsTrue, IfOk}
use Rattle.std.proofs.lemmas.Bool.{leb-true, le-leb}
use Rattle.heco_fields.specs.Formats.{Format, header, header_text}
use Rattle.heco_fields.specs.Readings.{Gives, reading}
use Rattle.heco_fields.specs.declared.fault.Fault.{Fault}
use Rattle.heco_fields.proofs.Bools.{both_true, and_true}
use Rattle.heco_fields.proofs.Laws.{IsBytes, Law, done, ok_is}
use Rattle.heco_fields.proofs.FieldLaws.{header_law}
use Rattle.heco_key_files.specs.Judging.{NamesPreset}

is_preset : (id : ℕ) → 1 ≤ id → id ≤ 5 → (id < 2 ^ 8) × IsTrue (leb 1 id && leb id 5)
is_preset id low high = (omega arith, and_true (leb 1 id) (leb id 5) (le-leb 1 id low) (le-leb id 5 high))

-- what is read behind a header is what stands there
pub record Reads (magic : List ℕ) (found : ℕ) (bytes rest : List ℕ) : Type 0 where
  pub parts : bytes ≡ header_text magic found ++ rest
  pub rest_fits : IsBytes rest
  pub low : 1 ≤ found
  pub high : found ≤ 5

pub header_read : (magic bytes rest : List ℕ) (found : ℕ) → IsBytes bytes → reading (header magic) bytes ≡ Ok (found, rest) → Reads magic found bytes rest
header_read magic bytes rest found fits e =
    let t = (header_law magic).takes bytes found rest fits e in
    let range = both_true (leb 1 found) (leb found 5) t.1.1 in
    record { parts = t.0.parts; rest_fits = t.0.rest_fits; low = leb-true 1 found range.0; high = leb-true found 5 range.1 }

pub reads_names : (magic bytes rest : List ℕ) (found : ℕ) → Reads magic found bytes rest → NamesPreset magic found bytes
reads_names magic bytes rest found r = record { rest = rest; parts = r.parts; low = r.low; high = r.high }

pub text_read : (magic rest : List ℕ) (id : ℕ) → 1 ≤ id → id ≤ 5 → reading (header magic) (header_text magic id ++ rest) ≡ Ok (id, rest)
text_read magic rest id low high = (header_law magic).again id rest (is_preset id low high)

pub names_read : (magic bytes : List ℕ) (found : ℕ) → (n : NamesPreset magic found bytes) → reading (header magic) bytes ≡ Ok (found, n.rest)
names_read magic bytes found n = ap (reading (header magic)) n.parts ∙ text_read magic n.rest found n.low n.high

abbrev pair_of : ℕ → List ℕ → ℕ × List ℕ
pair_of a r = (a, r)

rest_is : (a b : ℕ) (r s : List ℕ) → done (pair_of a r) ≡ done (pair_of b s) → r ≡ s
rest_is a b r s e = ap (λ (p : ℕ × List ℕ). p.1) (ok_is (pair_of a r) (pair_of b s) e)

first_is : (a b : ℕ) (r s : List ℕ) → done (pair_of a r) ≡ done (pair_of b s) → a ≡ b
first_is a b r s e = ap (λ (p : ℕ × List ℕ). p.0) (ok_is (pair_of a r) (pair_of b s) e)

-- a file names one preset
pub names_one : (magic bytes rest : List ℕ) (found other : ℕ) → reading (header magic) bytes ≡ Ok (found, rest) → NamesPreset magic other bytes → other ≡ found
names_one magic bytes rest found other e n = first_is other found n.rest rest (sym (names_read magic bytes other n) ∙ e)

-- the bytes behind a header are those that are read there
pub names_rest : (magic bytes rest : List ℕ) (found other : ℕ) → reading (header magic) bytes ≡ Ok (found, rest) → (n : NamesPreset magic other bytes) → n.rest ≡ rest
names_rest magic bytes rest found other e n = rest_is other found n.rest rest (sym (names_read magic bytes other n) ∙ e)

pub not_names : (magic bytes : List ℕ) (left other : ℕ) (A : Type 0) → reading (header magic) bytes ≡ Err left → NamesPreset magic other bytes → A
not_names magic bytes left other A e n = let f = sym e ∙ names_read magic bytes other n in absurd cc

-- a header that is not whole names no preset
pub names_none : (magic bytes : List ℕ) (left kept other : ℕ) → reading (header magic) bytes ≡ Err left → NamesPreset magic other bytes → other ≡ kept
names_none magic bytes left kept other e n = not_names magic bytes left other (other ≡ kept) e n

-- what holds of each value that fits holds of the one that is read
pub read_has : {X A : Type 0} (view : X → A × List ℕ) (format : Format A) (spell : A → List ℕ) (Fits : A → Type 0) → Law format spell Fits → (bytes : List ℕ) (r : Result X Fault) → IsBytes bytes → Gives view r (reading format bytes) → {Has : A → Type 0} → ((a : A) → Fits a → Has a) → IfOk r (λ x. Has (view x).0)
read_has view format spell Fits law bytes (Ok x) fits e has = has (view x).0 (law.takes bytes (view x).0 (view x).1 fits e).1
read_has view format spell Fits law bytes (Err f) fits e has = tt
