-- The laws of single fields: bytes, numbers, signed bytes, fixed texts, and the header of a file.
use Rattle.std.proofs.Common.{◌≡◌, ℕ, ◌^◌, ◌<◌, ◌≤◌, Bool, true, false, cond, ◌&&◌, leb, List, [], ◌∷◌, ◌++◌, length, take, drop, Ok, Err, refl, sym, ap, subst, ◌∙◌, arith}
use Rattle.std.specs.Prelude.{IsTrue, ℤ, pos, negsuc, FitsSigned}
use Rattle.std.specs.Int.{Width, w8, w16, w32, w64, byte_len, from_be_bytes, to_be_bytes, cast_signed, cast_unsigned}
use Rattle.std.proofs.lemmas.Bool.{leb-true, le-leb}
use Rattle.std.proofs.lemmas.List.{take_at, drop_at, take-append-drop, length-append, length-take, append-nil}
use Rattle.std.proofs.lemmas.Int.{of_z-to_z, to_z-of_z, ints}
use borrow.Author.Gap.{read_sfits}
use Rattle.std.proofs.lemmas.Nat.{be_bytes_2, be_bytes_4, be_bytes_8, from_be_bytes-to_be_bytes_2, from_be_bytes-to_be_bytes_4, from_be_bytes-to_be_bytes_8}
use Rattle.std.specs.Str.{bytes_eq}
use Rattle.std.proofs.lemmas.Slice.Eq.{bytes_eq-Decides}
use Rattle.heco_fields.specs.Formats.{Value, Field, number, signed_byte, within, fixed, versioned, versioned_text, header, header_text, ◌>>=◌ as ◌then◌}
use Rattle.heco_fields.specs.declared.header.Header.{Header}
use Rattle.heco_fields.specs.Readings.{Reading, reading}
use Rattle.heco_fields.proofs.Bools.{both_true}
use Rattle.heco_fields.proofs.Laws.{IsBytes, IsBytes-take, IsBytes-drop, Takes, Law, ok_is, value_law, then_law, same_law, skip_law, last_law}

passed : {A : Type 0} (b : Bool) (r : Reading A) (left : ℕ) (y : A × List ℕ) → cond b r (Err left) ≡ Ok y → (b ≡ true) × (r ≡ Ok y)
passed true r left y e = (refl, e)
passed false r left y e = absurd cc

-- so many bytes
pub bytes_law : (w : ℕ) (allowed : List ℕ → Bool) → Law (Field w allowed (λ b. Value b)) (λ b. b) (λ b. (length b ≡ w) × IsTrue (allowed b))
unfolding reading
bytes_law w allowed = record {
  takes = λ bytes b rest fits e.
      let p = passed (leb w (length bytes) && allowed (take w bytes)) (Ok (take w bytes, drop w bytes)) (length bytes) (b, rest) e in
      let t = both_true (leb w (length bytes)) (allowed (take w bytes)) p.0 in
      let long : w ≤ length bytes = leb-true _ _ t.0 in
      let made : Takes bytes (take w bytes) (drop w bytes) × ((length (take w bytes) ≡ w) × IsTrue (allowed (take w bytes))) =
      (record { parts = sym (take-append-drop w bytes); rest_fits = IsBytes-drop w bytes fits }, (omega (arith, length-take w bytes), t.1)) in
      subst (λ (y : List ℕ × List ℕ). Takes bytes y.0 y.1 × ((length y.0 ≡ w) × IsTrue (allowed y.0))) (ok_is (take w bytes, drop w bytes) (b, rest) p.1) made;
  again = λ b rest fits.
      let long : leb w (length (b ++ rest)) ≡ true = le-leb _ _ (omega (arith, fits.0, length-append b rest)) in
      let ok : allowed b ≡ true = fits.1 in
      rw (long, take_at b rest w fits.0, drop_at b rest w fits.0, ok) refl;
}

-- so many bytes stand for a value
pub record IsCode {A : Type 0} (w : ℕ) (view : List ℕ → A) (spell : A → List ℕ) (Fits : A → Type 0) : Type 0 where
  pub len : (x : A) → length (spell x) ≡ w
  pub back : (bytes : List ℕ) → length bytes ≡ w → IsBytes bytes → spell (view bytes) ≡ bytes
  pub again : (x : A) → Fits x → view (spell x) ≡ x
  pub fits : (bytes : List ℕ) → length bytes ≡ w → IsBytes bytes → Fits (view bytes)

pub coded_law : {A : Type 0} (w : ℕ) (view : List ℕ → A) (spell : A → List ℕ) (Fits : A → Type 0) → IsCode w view spell Fits → (allowed : A → Bool) → Law (Field w (λ b. allowed (view b)) (λ b. Value (view b))) spell (λ x. Fits x × IsTrue (allowed x))
unfolding reading
coded_law {A = A} w view spell Fits code allowed = record {
  takes = λ bytes x rest fits e.
      let front = take w bytes in
      let p = passed (leb w (length bytes) && allowed (view front)) (Ok (view front, drop w bytes)) (length bytes) (x, rest) e in
      let t = both_true (leb w (length bytes)) (allowed (view front)) p.0 in
      let long : w ≤ length bytes = leb-true _ _ t.0 in
      let width : length front ≡ w = omega (arith, length-take w bytes) in
      let front_fits = IsBytes-take w bytes fits in
      let made : Takes bytes (spell (view front)) (drop w bytes) × (Fits (view front) × IsTrue (allowed (view front))) =
      (record { parts = sym (take-append-drop w bytes) ∙ ap (λ (f : List ℕ). f ++ drop w bytes) (sym (code.back front width front_fits)); rest_fits = IsBytes-drop w bytes fits }, (code.fits front width front_fits, t.1)) in
      subst (λ (y : A × List ℕ). Takes bytes (spell y.0) y.1 × (Fits y.0 × IsTrue (allowed y.0))) (ok_is (view front, drop w bytes) (x, rest) p.1) made;
  again = λ x rest fits.
      let len = code.len x in
      let long : leb w (length (spell x ++ rest)) ≡ true = le-leb _ _ (omega (arith, length-append (spell x) rest)) in
      let ok : allowed x ≡ true = fits.1 in
      rw (long, take_at (spell x) rest w len, drop_at (spell x) rest w len, code.again x fits.0, ok) refl;
}

-- ---- numbers

pub record IsWide (w : Width) (limit : ℕ) : Type 0 where
  pub len : (n : ℕ) → length (to_be_bytes w n) ≡ byte_len w
  pub back : (bytes : List ℕ) → length bytes ≡ byte_len w → IsBytes bytes → to_be_bytes w (from_be_bytes w bytes) ≡ bytes
  pub again : (n : ℕ) → n < limit → from_be_bytes w (to_be_bytes w n) ≡ n
  pub below : (bytes : List ℕ) → IsBytes bytes → from_be_bytes w bytes < limit

back8 : (bytes : List ℕ) → length bytes ≡ 1 → IsBytes bytes → to_be_bytes w8 (from_be_bytes w8 bytes) ≡ bytes
back8 [] len fits = absurd (omega arith)
back8 (b ∷ []) len fits = grind (arith, fits 0)
back8 (b ∷ c ∷ bytes) len fits = absurd (omega arith)

pub wide8 : IsWide w8 (2 ^ 8)
wide8 = record {
  len = λ n. refl;
  back = back8;
  again = λ n lt. grind (arith, lt);
  below = λ bytes fits. omega (arith, fits 0);
}

pub wide16 : IsWide w16 (2 ^ 16)
wide16 = record {
  len = λ n. refl;
  back = λ bytes len fits. be_bytes_2 bytes _ len fits refl;
  again = λ n lt. from_be_bytes-to_be_bytes_2 n lt;
  below = λ bytes fits. omega (arith, fits 0, fits 1);
}

pub wide32 : IsWide w32 (2 ^ 32)
wide32 = record {
  len = λ n. refl;
  back = λ bytes len fits. be_bytes_4 bytes _ len fits refl;
  again = λ n lt. from_be_bytes-to_be_bytes_4 n lt;
  below = λ bytes fits. omega (arith, fits 0, fits 1, fits 2, fits 3);
}

pub wide64 : IsWide w64 (2 ^ 64)
wide64 = record {
  len = λ n. refl;
  back = λ bytes len fits. be_bytes_8 bytes _ len fits refl;
  again = λ n lt. from_be_bytes-to_be_bytes_8 n lt;
  below = λ bytes fits. omega (arith, fits 0, fits 1, fits 2, fits 3, fits 4, fits 5, fits 6, fits 7);
}

pub number_law : (w : Width) (limit : ℕ) → IsWide w limit → (allowed : ℕ → Bool) → Law (number w allowed) (to_be_bytes w) (λ n. (n < limit) × IsTrue (allowed n))
number_law w limit wide allowed =
    coded_law (byte_len w) (from_be_bytes w) (to_be_bytes w) (λ n. n < limit) (record { len = wide.len; back = wide.back; again = wide.again; fits = λ bytes _ fits. wide.below bytes fits }) allowed

-- ---- a byte in two's complement

unsigned_small : (z : ℤ) → FitsSigned w8 z → cast_unsigned w8 z < 2 ^ 8
unsigned_small (pos n) fits = omega (arith, ints)
unsigned_small (negsuc n) fits = omega (arith, ints)

signed_code : IsCode 1 (λ b. cast_signed w8 (from_be_bytes w8 b)) (λ z. to_be_bytes w8 (cast_unsigned w8 z)) (FitsSigned w8)
signed_code = record {
  len = λ z. refl;
  back = λ bytes len fits. ap (to_be_bytes w8) (of_z-to_z w8 (from_be_bytes w8 bytes) (wide8.below bytes fits)) ∙ wide8.back bytes len fits;
  again = λ z fits. ap (cast_signed w8) (wide8.again (cast_unsigned w8 z) (unsigned_small z fits)) ∙ to_z-of_z w8 z fits;
  fits = λ bytes len fits. read_sfits w8 (from_be_bytes w8 bytes);
}

pub signed_law : (allowed : ℤ → Bool) → Law (signed_byte allowed) (λ z. to_be_bytes w8 (cast_unsigned w8 z)) (λ z. FitsSigned w8 z × IsTrue (allowed z))
signed_law allowed = coded_law 1 (λ b. cast_signed w8 (from_be_bytes w8 b)) (λ z. to_be_bytes w8 (cast_unsigned w8 z)) (FitsSigned w8) signed_code allowed

-- ---- texts that are given

equal : (b text : List ℕ) → IsTrue (bytes_eq b text) → b ≡ text
equal b text h = (bytes_eq-Decides b text).0 h

same : (text : List ℕ) → IsTrue (bytes_eq text text)
same text = (bytes_eq-Decides text text).1 refl

pub fixed_law : (text : List ℕ) → Law (fixed text) (λ _. text) (λ x. text ≡ x)
fixed_law text =
    same_law (fixed text) (λ b. b) (λ _. text) (λ b. (length b ≡ length text) × IsTrue (bytes_eq b text)) (λ x. text ≡ x) (bytes_law (length text) (λ b. bytes_eq b text))
    (λ b h. equal b text h.1)
    (λ b h. sym (equal b text h.1))
    (λ b e. (ap length (sym e), subst (λ x. IsTrue (bytes_eq x text)) e (same text)))

only_is : (v n : ℕ) → IsTrue (leb v n && leb n v) → v ≡ n
only_is v n h = let t = both_true (leb v n) (leb n v) h in let low = leb-true _ _ t.0 in let high = leb-true _ _ t.1 in omega arith

-- a byte that has one value
pub only_law : (v : ℕ) → v < 2 ^ 8 → Law (within w8 v v) (λ _. to_be_bytes w8 v) (λ n. v ≡ n)
only_law v lt =
    same_law (within w8 v v) (to_be_bytes w8) (λ _. to_be_bytes w8 v) (λ n. (n < 2 ^ 8) × IsTrue (leb v n && leb n v)) (λ n. v ≡ n) (number_law w8 (2 ^ 8) wide8 (λ n. leb v n && leb n v))
    (λ n h. ap (to_be_bytes w8) (sym (only_is v n h.1)))
    (λ n h. only_is v n h.1)
    (λ n e. subst (λ m. (m < 2 ^ 8) × IsTrue (leb v m && leb m v)) e (lt, let t : leb v v ≡ true = le-leb v v (omega arith) in rw t refl))

-- ---- headers

-- a version from 1 to the newest, and the number of a preset
abbrev pub IsHeader : ℕ → Header → Type 0
IsHeader newest h = ((h.version < 2 ^ 8) × IsTrue (leb 1 h.version && leb h.version newest)) × ((h.preset < 2 ^ 8) × IsTrue (leb 1 h.preset && leb h.preset 5))

pub versioned_law : (newest : ℕ) (magic : List ℕ) → Law (versioned newest magic) (versioned_text magic) (IsHeader newest)
unfolding versioned
versioned_law newest magic =
    let made : ℕ → ℕ → Header = λ v id. record { version = v; preset = id } in
    let Number : ℕ → ℕ → Type 0 = λ most n. (n < 2 ^ 8) × IsTrue (leb 1 n && leb n most) in
    let preset : (v : ℕ) → Law (within w8 1 5 then λ id. Value (made v id)) (λ h. to_be_bytes w8 h.preset) (λ h. Number 5 h.preset × (made v h.preset ≡ h)) = λ v.
    last_law (within w8 1 5) (made v) (λ h. h.preset) (to_be_bytes w8) (Number 5) (number_law w8 (2 ^ 8) wide8 (λ n. leb 1 n && leb n 5)) (λ id. refl) in
    skip_law (fixed magic) (within w8 1 newest then λ v. within w8 1 5 then λ id. Value (made v id)) magic magic (λ h. to_be_bytes w8 h.version ++ to_be_bytes w8 h.preset) (IsHeader newest) (fixed_law magic)
    (same_law (within w8 1 newest then λ v. within w8 1 5 then λ id. Value (made v id)) (λ h. to_be_bytes w8 h.version ++ to_be_bytes w8 h.preset) (λ h. to_be_bytes w8 h.version ++ to_be_bytes w8 h.preset)
    (λ h. Number newest h.version × (Number 5 h.preset × (made h.version h.preset ≡ h))) (IsHeader newest)
    (then_law (within w8 1 newest) (λ v. within w8 1 5 then λ id. Value (made v id)) (to_be_bytes w8) (λ h. to_be_bytes w8 h.preset) (Number newest) (λ v h. Number 5 h.preset × (made v h.preset ≡ h)) (λ h. h.version)
    (number_law w8 (2 ^ 8) wide8 (λ n. leb 1 n && leb n newest)) (λ v _. preset v) (λ v h f. ap (λ (k : Header). k.version) (sym f.1)))
    (λ h _. refl) (λ h f. (f.0, f.1.0)) (λ h f. (f.0, (f.1, refl))))

pub header_law : (magic : List ℕ) → Law (header magic) (header_text magic) (λ id. (id < 2 ^ 8) × IsTrue (leb 1 id && leb id 5))
unfolding header
header_law magic =
    let first : ℕ → Header = λ id. record { version = 1; preset = id } in
    let Id : ℕ → Type 0 = λ id. (id < 2 ^ 8) × IsTrue (leb 1 id && leb id 5) in
    same_law (header magic) (λ id. versioned_text magic (first id) ++ []) (header_text magic) (λ id. IsHeader 1 (first id) × (first id ≡ first id)) Id
    (then_law (versioned 1 magic) (λ h. Value h.preset) (versioned_text magic) (λ _. []) (IsHeader 1) (λ (h : Header) (id : ℕ). first id ≡ h) first (versioned_law 1 magic)
    (λ h f. same_law (Value h.preset) (λ _. []) (λ _. []) (λ id. h.preset ≡ id) (λ id. first id ≡ h) (value_law h.preset) (λ id _. refl)
    (λ id e. subst (λ (k : ℕ). first k ≡ h) e (ap (λ v. record { version = v; preset = h.preset }) (only_is 1 h.version f.0.1)))
    (λ id e. ap (λ (k : Header). k.preset) (sym e)))
    (λ h id e. e))
    (λ id _. append-nil (header_text magic id)) (λ id f. f.0.1) (λ id f. (((omega arith, refl), f), refl))
