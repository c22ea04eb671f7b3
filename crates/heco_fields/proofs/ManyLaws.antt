-- The laws of so many values in a row, each by what stands before it.
use Rattle.std.proofs.Common.{◌≡◌, ℕ, zero, suc, Bool, true, List, [], ◌∷◌, ◌++◌, length, Ok, refl, sym, ap, subst, ◌∙◌, append_assoc}
use Rattle.std.specs.Prelude.{IsTrue}
use Rattle.std.specs.List.{flat_map, list_all}
use Rattle.std.proofs.lemmas.List.Concat.{flat_map-cons}
use Rattle.heco_fields.specs.Formats.{Format, Value, many, ◌>>=◌ as ◌then◌}
use Rattle.heco_fields.specs.Readings.{reading, ◌>>=◌}
use Rattle.std.specs.List.{All}
use Rattle.std.proofs.lemmas.List.Elements.{All-nil, All-cons, All-head, All-tail}
use Rattle.heco_nums.specs.Runs.{stays, FitAlong, all_along}
use Rattle.heco_fields.proofs.Bools.{both_true}
use Rattle.heco_fields.proofs.Steps.{reading_then}
use Rattle.heco_fields.proofs.Laws.{IsBytes, Takes, Takes-then, Law, ok_is, bind_ok, then_law, same_law}

many_takes : {S A : Type 0} (format : S → Format A) (next : S → A → S) (spell : A → List ℕ) (Fits : S → A → Type 0) → ((s : S) → Law (format s) spell (Fits s)) → (n : ℕ) (s : S) (bytes : List ℕ) (xs : List A) (rest : List ℕ) → IsBytes bytes
    → reading (many format next n s) bytes ≡ Ok (xs, rest) → Takes bytes (flat_map spell xs) rest × ((length xs ≡ n) × FitAlong Fits next s xs)
unfolding many reading FitAlong
many_takes {S = S} {A = A} format next spell Fits law zero s bytes xs rest fits e =
    subst (λ (y : List A × List ℕ). Takes bytes (flat_map spell y.0) y.1 × ((length y.0 ≡ 0) × FitAlong Fits next s y.0)) (ok_is ([], bytes) (xs, rest) e) (record { parts = refl; rest_fits = fits }, (refl, tt))
many_takes {S = S} {A = A} format next spell Fits law (suc n) s bytes xs rest fits e =
    let k = λ (x : A). many format next n (next s x) then λ ys. Value (x ∷ ys) in
    let a = bind_ok (reading (format s) bytes) (λ x. reading (k x.0) x.1) (xs, rest) (sym (reading_then (format s) k bytes) ∙ e) in
    let last = λ (ys : List A). Format.Value (a.0.0 ∷ ys) in
    let b = bind_ok (reading (many format next n (next s a.0.0)) a.0.1) (λ ys. reading (last ys.0) ys.1) (xs, rest) (sym (reading_then (many format next n (next s a.0.0)) last a.0.1) ∙ a.2) in
    let first = (law s).takes bytes a.0.0 a.0.1 fits a.1 in
    let others = many_takes format next spell Fits law n (next s a.0.0) a.0.1 b.0.0 b.0.1 first.0.rest_fits b.1 in
    let both = Takes-then bytes (spell a.0.0) a.0.1 (flat_map spell b.0.0) b.0.1 first.0 others.0 in
    subst (λ (y : List A × List ℕ). Takes bytes (flat_map spell y.0) y.1 × ((length y.0 ≡ suc n) × FitAlong Fits next s y.0)) (ok_is (a.0.0 ∷ b.0.0, b.0.1) (xs, rest) b.2)
    (rw flat_map-cons both, (ap suc others.1.0, (first.1, others.1.1)))

many_again : {S A : Type 0} (format : S → Format A) (next : S → A → S) (spell : A → List ℕ) (Fits : S → A → Type 0) → ((s : S) → Law (format s) spell (Fits s)) → (s : S) (xs : List A) (rest : List ℕ)
    → FitAlong Fits next s xs → reading (many format next (length xs) s) (flat_map spell xs ++ rest) ≡ Ok (xs, rest)
unfolding many reading FitAlong
many_again format next spell Fits law s [] rest fits = refl
many_again {S = S} {A = A} format next spell Fits law s (x ∷ xs) rest fits =
    let k = λ (y : A). many format next (length xs) (next s y) then λ ys. Value (y ∷ ys) in
    let last = λ (ys : List A). Format.Value (x ∷ ys) in
    let regrouped : flat_map spell (x ∷ xs) ++ rest ≡ spell x ++ (flat_map spell xs ++ rest) = ap (λ (t : List ℕ). t ++ rest) (flat_map-cons spell x xs) ∙ append_assoc (spell x) (flat_map spell xs) rest in
    ap (reading (many format next (suc (length xs)) s)) regrouped
    ∙ reading_then (format s) k (spell x ++ (flat_map spell xs ++ rest))
    ∙ ap (λ r. r >>= λ z. reading (k z.0) z.1) ((law s).again x (flat_map spell xs ++ rest) fits.0)
    ∙ reading_then (many format next (length xs) (next s x)) last (flat_map spell xs ++ rest)
    ∙ ap (λ r. r >>= λ z. reading (last z.0) z.1) (many_again format next spell Fits law (next s x) xs rest fits.1)

pub many_law : {S A : Type 0} (format : S → Format A) (next : S → A → S) (spell : A → List ℕ) (Fits : S → A → Type 0) → ((s : S) → Law (format s) spell (Fits s)) → (n : ℕ) (s : S)
    → Law (many format next n s) (flat_map spell) (λ xs. (length xs ≡ n) × FitAlong Fits next s xs)
many_law format next spell Fits law n s = record {
  takes = many_takes format next spell Fits law n s;
  again = λ xs rest fits. ap (λ m. reading (many format next m s) (flat_map spell xs ++ rest)) (sym fits.0) ∙ many_again format next spell Fits law s xs rest fits.1;
}

-- ---- a count and then so many values

-- so many values behind their count
abbrev pub Counted : {A : Type 0} → (ℕ → Type 0) → (List A → Type 0) → List A → Type 0
Counted Count Fits xs = Count (length xs) × Fits xs

pub counted_law : {S A : Type 0} (count : Format ℕ) (spell_count : ℕ → List ℕ) (Count : ℕ → Type 0) (format : S → Format A) (next : S → A → S) (spell : A → List ℕ) (Fits : S → A → Type 0) (s : S)
    → Law count spell_count Count → ((s : S) → Law (format s) spell (Fits s))
    → Law (count then λ n. many format next n s) (λ xs. spell_count (length xs) ++ flat_map spell xs) (Counted Count (FitAlong Fits next s))
counted_law {A = A} count spell_count Count format next spell Fits s number law =
    let text : List A → List ℕ = λ xs. spell_count (length xs) ++ flat_map spell xs in
    same_law (count then λ n. many format next n s) text text (λ xs. Count (length xs) × ((length xs ≡ length xs) × FitAlong Fits next s xs)) (Counted Count (FitAlong Fits next s))
    (then_law count (λ n. many format next n s) spell_count (flat_map spell) Count (λ n xs. (length xs ≡ n) × FitAlong Fits next s xs) length number (λ n _. many_law format next spell Fits law n s) (λ n xs h. h.0))
    (λ xs _. refl) (λ xs h. (h.0, h.1.1)) (λ xs h. (h.0, (refl, h.1)))

-- ---- the same as a test

pub along_passes : {S A : Type 0} (Fits : S → A → Type 0) (test : S → A → Bool) (next : S → A → S) → ((s : S) (x : A) → Fits s x → IsTrue (test s x)) → (s : S) (xs : List A) → FitAlong Fits next s xs → IsTrue (all_along test next s xs)
unfolding FitAlong
along_passes Fits test next to s [] fits = refl
along_passes Fits test next to s (x ∷ xs) fits = let h : test s x ≡ true = to s x fits.0 in rw h (along_passes Fits test next to (next s x) xs fits.1)

-- each value passes a test besides
pub both_along : {S A : Type 0} (Fits : S → A → Type 0) (test : A → Bool) (next : S → A → S) (s : S) (xs : List A) → FitAlong Fits next s xs → IsTrue (list_all test xs) → FitAlong (λ s x. Fits s x × IsTrue (test x)) next s xs
unfolding FitAlong
both_along Fits test next s [] fits h = tt
both_along Fits test next s (x ∷ xs) fits h = let b = both_true (test x) (list_all test xs) h in ((fits.0, b.0), both_along Fits test next (next s x) xs fits.1 b.1)

-- Holds is kept along the values, with so many to come
pub passes_along : {S A : Type 0} (Fits : S → A → Type 0) (test : S → A → Bool) (next : S → A → S) (Holds : ℕ → S → Type 0)
    → ((n : ℕ) (s : S) (x : A) → Holds (suc n) s → Holds n (next s x)) → ((n : ℕ) (s : S) (x : A) → Holds (suc n) s → IsTrue (test s x) → Fits s x)
    → (s : S) (xs : List A) → Holds (length xs) s → IsTrue (all_along test next s xs) → FitAlong Fits next s xs
unfolding FitAlong
passes_along Fits test next Holds keeps from s [] holds h = tt
passes_along Fits test next Holds keeps from s (x ∷ xs) holds h =
    let b = both_true (test s x) (all_along test next (next s x) xs) h in
    (from (length xs) s x holds b.0, passes_along Fits test next Holds keeps from (next s x) xs (keeps (length xs) s x holds) b.1)

-- ---- values that each fit by themselves

all_from_fit : {S A : Type 0} (F : A → Type 0) (s : S) (xs : List A) → FitAlong (λ s x. F x) stays s xs → All F xs
unfolding FitAlong
all_from_fit F s [] fits = All-nil F
all_from_fit F s (x ∷ xs) fits = All-cons F x xs fits.0 (all_from_fit F s xs fits.1)

fit_from_all : {S A : Type 0} (F : A → Type 0) (s : S) (xs : List A) → All F xs → FitAlong (λ s x. F x) stays s xs
unfolding FitAlong
fit_from_all F s [] h = tt
fit_from_all F s (x ∷ xs) h = (All-head F x xs h, fit_from_all F s xs (All-tail F x xs h))

pub each_law : {S A : Type 0} (format : S → Format A) (spell : A → List ℕ) (F : A → Type 0) → ((s : S) → Law (format s) spell F) → (n : ℕ) (s : S) → Law (many format stays n s) (flat_map spell) (λ xs. (length xs ≡ n) × All F xs)
each_law {S = S} {A = A} format spell F law n s =
    same_law (many format stays n s) (flat_map spell) (flat_map spell) (λ xs. (length xs ≡ n) × FitAlong (λ (s : S) (x : A). F x) stays s xs) (λ xs. (length xs ≡ n) × All F xs)
    (many_law format stays spell (λ (s : S) (x : A). F x) law n s) (λ xs _. refl) (λ xs h. (h.0, all_from_fit F s xs h.1)) (λ xs h. (h.0, fit_from_all F s xs h.1))
