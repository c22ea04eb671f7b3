-- What is read of lists of places, words and errors is what was spelled, for exactly the lists within bounds.
use Rattle.std.proofs.Common.{◌≡◌, ℕ, ◌+◌, ◌-◌, ◌^◌, ◌<◌, ◌≤◌, Bool, true, false, cond, ◌&&◌, ◌||◌, not, leb, ltb, eqb, List, [], ◌∷◌, length, refl, sym, ap, subst, ◌∙◌, arith}
use Rattle.std.specs.Prelude.{IsTrue, ℤ, FitsSigned, count_by}
use Rattle.std.specs.List.{flat_map, All}
use Rattle.std.specs.Int.{w8, w64, to_be_bytes}
use Rattle.std.specs.Int.RustNames.{unsigned_abs}
use Rattle.std.proofs.lemmas.Bool.{leb-true, le-leb, ltb-true, lt-ltb}
use Rattle.std.proofs.lemmas.Int.{fits_signed_from_abs}
use Rattle.std.proofs.lemmas.List.Elements.{All-nil, All-cons, All-head, All-tail}
use Rattle.std.proofs.lemmas.List.Sums.{sum_by-cons}
use Rattle.heco_fields.specs.Formats.{many}
use Rattle.heco_nums.specs.Runs.{FitAlong, stays}
use Rattle.heco_fields.proofs.Bools.{both_true, and_true}
use Rattle.heco_fields.proofs.Laws.{Law, same_law}
use Rattle.heco_fields.proofs.FieldLaws.{signed_law, number_law, wide64}
use Rattle.heco_fields.proofs.ManyLaws.{many_law, each_law}
use Rattle.heco_nums.specs.MaterialBounds.{IsSparse, AreErrors, AreWords, is_used}
use Rattle.heco_lists.specs.ListFormat.{is_place, secret_place, counted, sparse, word, words, error, errors, byte_text, bytes_text, words_text}

-- ---- words

small_word : (x : ℕ) → IsTrue (leb 0 x && leb x (2 ^ 58 - 1)) → x < 2 ^ 58
small_word x h = let t = leb-true _ _ (both_true (leb 0 x) (leb x (2 ^ 58 - 1)) h).1 in omega arith

is_word : (x : ℕ) → x < 2 ^ 58 → IsTrue (leb 0 x && leb x (2 ^ 58 - 1))
is_word x h = and_true (leb 0 x) (leb x (2 ^ 58 - 1)) (le-leb 0 x (omega arith)) (le-leb x (2 ^ 58 - 1) (omega arith))

word_law : (s : ℕ) → Law (word s) (to_be_bytes w64) (λ x. x < 2 ^ 58)
word_law s =
    same_law (word s) (to_be_bytes w64) (to_be_bytes w64) (λ x. (x < 2 ^ 64) × IsTrue (leb 0 x && leb x (2 ^ 58 - 1))) (λ x. x < 2 ^ 58) (number_law w64 (2 ^ 64) wide64 (λ x. leb 0 x && leb x (2 ^ 58 - 1)))
    (λ x _. refl) (λ x h. small_word x h.1) (λ x h. (omega arith, is_word x h))

pub words_law : (n : ℕ) → Law (words n) words_text (AreWords n)
unfolding words words_text
words_law n =
    same_law (many word stays n 0) (flat_map (to_be_bytes w64)) (flat_map (to_be_bytes w64)) (λ xs. (length xs ≡ n) × All (λ x. x < 2 ^ 58) xs) (AreWords n) (each_law word (to_be_bytes w64) (λ x. x < 2 ^ 58) word_law n 0)
    (λ xs _. refl) (λ xs h. record { long = h.0; below = h.1 }) (λ xs h. (h.long, h.below))

-- ---- errors

error_law : (b : ℕ) → b < 128 → (s : ℕ) → Law (error b s) byte_text (λ z. unsigned_abs z ≤ b)
error_law b small s =
    same_law (error b s) byte_text byte_text (λ z. FitsSigned w8 z × IsTrue (leb (unsigned_abs z) b)) (λ z. unsigned_abs z ≤ b) (signed_law (λ z. leb (unsigned_abs z) b))
    (λ z _. refl) (λ z h. leb-true _ _ h.1) (λ z h. (fits_signed_from_abs w8 z (omega arith), le-leb _ _ h))

pub errors_law : (n b : ℕ) → b < 128 → Law (errors n b) bytes_text (AreErrors n b)
unfolding errors bytes_text
errors_law n b small =
    same_law (many (error b) stays n 0) (flat_map byte_text) (flat_map byte_text) (λ xs. (length xs ≡ n) × All (λ z. unsigned_abs z ≤ b) xs) (AreErrors n b) (each_law (error b) byte_text (λ z. unsigned_abs z ≤ b) (error_law b small) n 0)
    (λ xs _. refl) (λ xs h. record { long = h.0; small = h.1 }) (λ xs h. (h.long, h.small))

-- ---- places of which few are not 0

abbrev pub Place : ℕ → ℕ → ℤ → Type 0
Place h used z = IsTrue (is_place h used z)

place_small : (h used : ℕ) (z : ℤ) → Place h used z → unsigned_abs z ≤ 1
place_small h used z p = leb-true _ _ (both_true (leb (unsigned_abs z) 1) (eqb (unsigned_abs z) 0 || ltb used h) p).0

place_law : (h used : ℕ) → Law (secret_place h used) byte_text (Place h used)
place_law h used =
    same_law (secret_place h used) byte_text byte_text (λ z. FitsSigned w8 z × IsTrue (is_place h used z)) (Place h used) (signed_law (is_place h used))
    (λ z _. refl) (λ z h. h.1) (λ z p. let s = place_small h used z p in (fits_signed_from_abs w8 z (omega arith), p))

count_cons : (z : ℤ) (zs : List ℤ) → count_by is_used (z ∷ zs) ≡ cond (eqb (unsigned_abs z) 0) 0 1 + count_by is_used zs
count_cons z zs = sum_by-cons (λ x. cond (is_used x) 1 0) z zs ∙ ap (λ m. m + count_by is_used zs) (swapped (eqb (unsigned_abs z) 0))
  where
    swapped : (b : Bool) → ◌≡◌ {A = ℕ} (cond (not b) 1 0) (cond b 0 1)
    swapped true = refl
    swapped false = refl

step : (used more : ℕ) (b : Bool) → cond b used (used + 1) + more ≡ used + (cond b 0 1 + more)
step used more true = omega arith
step used more false = omega arith

-- a place and the count behind it
counted_by : (used : ℕ) (z : ℤ) (zs : List ℤ) → counted used z + count_by is_used zs ≡ used + count_by is_used (z ∷ zs)
counted_by used z zs = step used (count_by is_used zs) (eqb (unsigned_abs z) 0) ∙ ap (λ m. used + m) (sym (count_cons z zs))

counted_within : (h used : ℕ) (b : Bool) → used ≤ h → IsTrue (b || ltb used h) → cond b used (used + 1) ≤ h
counted_within h used true le t = le
counted_within h used false le t = let lt = ltb-true used h t in omega arith

next_within : (h used : ℕ) (z : ℤ) → used ≤ h → Place h used z → counted used z ≤ h
next_within h used z le p = counted_within h used (eqb (unsigned_abs z) 0) le (both_true (leb (unsigned_abs z) 1) (eqb (unsigned_abs z) 0 || ltb used h) p).1

places_are : (h used : ℕ) (zs : List ℤ) → used ≤ h → FitAlong (Place h) counted used zs → All (λ z. unsigned_abs z ≤ 1) zs × (used + count_by is_used zs ≤ h)
unfolding FitAlong
places_are h used [] le fits = (All-nil (λ z. unsigned_abs z ≤ 1), omega arith)
places_are h used (z ∷ zs) le fits =
    let rest = places_are h (counted used z) zs (next_within h used z le fits.0) fits.1 in
    let count = counted_by used z zs in
    (All-cons (λ z. unsigned_abs z ≤ 1) z zs (place_small h used z fits.0) rest.0, subst (λ m. m ≤ h) count rest.1)

may_be : (h used : ℕ) (b : Bool) (more : ℕ) → used + (cond b 0 1 + more) ≤ h → IsTrue (b || ltb used h)
may_be h used true more le = refl
may_be h used false more le = lt-ltb used h (omega arith)

is_place_here : (h used : ℕ) (z : ℤ) (zs : List ℤ) → unsigned_abs z ≤ 1 → used + count_by is_used (z ∷ zs) ≤ h → Place h used z
is_place_here h used z zs small few = and_true (leb (unsigned_abs z) 1) (eqb (unsigned_abs z) 0 || ltb used h) (le-leb _ _ small) (may_be h used (eqb (unsigned_abs z) 0) (count_by is_used zs) (subst (λ m. used + m ≤ h) (count_cons z zs) few))

are_places : (h used : ℕ) (zs : List ℤ) → All (λ z. unsigned_abs z ≤ 1) zs → used + count_by is_used zs ≤ h → FitAlong (Place h) counted used zs
unfolding FitAlong
are_places h used [] small few = tt
are_places h used (z ∷ zs) small few = (
  is_place_here h used z zs (All-head (λ z. unsigned_abs z ≤ 1) z zs small) few,
  are_places h (counted used z) zs (All-tail (λ z. unsigned_abs z ≤ 1) z zs small) (subst (λ m. m ≤ h) (sym (counted_by used z zs)) few),
)

pub sparse_law : (n h : ℕ) → Law (sparse n h) bytes_text (IsSparse n h)
unfolding sparse bytes_text
sparse_law n h =
    same_law (many (secret_place h) counted n 0) (flat_map byte_text) (flat_map byte_text) (λ zs. (length zs ≡ n) × FitAlong (Place h) counted 0 zs) (IsSparse n h) (many_law (secret_place h) counted byte_text (Place h) (place_law h) n 0)
    (λ zs _. refl)
    (λ zs f. let p = places_are h 0 zs (omega arith) f.1 in record { long = f.0; small = p.0; few = omega (arith, p.1) })
    (λ zs s. (s.long, are_places h 0 zs s.small (omega (arith, s.few))))
