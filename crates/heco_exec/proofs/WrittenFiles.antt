-- What files hold after writes in order, and words that differ.
use Rattle.std.proofs.Common.{◌≡◌, ◌≢◌, ◌∙◌, refl, ap, ℕ, ◌+◌, Bool, true, false, not, ◌&&◌, ◌||◌, List, [], ◌∷◌, Some}
use Rattle.std.specs.Prelude.{if◌then◌else◌}
use Rattle.std.specs.List.{list_any}
use Rattle.std.specs.Str.{bytes_eq}
use Rattle.std.proofs.lemmas.Slice.Eq.{bytes_eq-Decides}
use Rattle.heco_jobs.specs.Done.{after_writes, with_file}
use Rattle.heco_jobs.specs.Outsides.{Files}
use Rattle.heco_jobs.specs.Words.{name_of, are_distinct}
use Rattle.heco_exec.specs.Chain.{numbered}
use Rattle.heco_exec.specs.Headline.{IsOther, AreApart}
use Rattle.heco_exec.specs.Laws.{DistinctAreApart}

-- the numbers from this one on, one for each file
abbrev pub numbers : ℕ → List (List ℕ) → List ℕ
numbers which [] = []
numbers which (f ∷ fs) = which ∷ numbers (which + 1) fs

module _ (words : List (List ℕ)) where
  with_same : (name bytes : List ℕ) (file : Files) → with_file name bytes file name ≡ Some bytes
  with_same name bytes file = let e : bytes_eq name name ≡ true = (bytes_eq-Decides name name).1 refl in ap (λ b. if b then Some bytes else file name) e

  by_test : (name other bytes : List ℕ) (file : Files) (b : Bool) → bytes_eq other name ≡ b → other ≢ name → (if b then Some bytes else file other) ≡ file other
  by_test name other bytes file true e differ = absurd (differ ((bytes_eq-Decides other name).0 e))
  by_test name other bytes file false e differ = refl

  with_other : (name bytes other : List ℕ) (file : Files) → other ≢ name → with_file name bytes file other ≡ file other
  with_other name bytes other file differ = by_test name other bytes file (bytes_eq other name) refl differ

  -- a name that is none of theirs is as before
  pub others_stand : (which : ℕ) (fs : List (List ℕ)) (file : Files) (name : List ℕ) → IsOther words name (numbers which fs) → after_writes words (numbered which fs) file name ≡ file name
  others_stand which [] file name h = refl
  others_stand which (f ∷ fs) file name h = others_stand (which + 1) fs (with_file (name_of words which) f file) name h.1 ∙ with_other (name_of words which) f name file h.0

  -- each of these words holds its file
  abbrev pub AllHeld : ℕ → List (List ℕ) → Files → Type 0
  AllHeld which [] file = Unit {0}
  AllHeld which (f ∷ fs) file = (file (name_of words which) ≡ Some f) × AllHeld (which + 1) fs file

  pub all_held : (which : ℕ) (fs : List (List ℕ)) (file : Files) → AreApart words (numbers which fs) → AllHeld which fs (after_writes words (numbered which fs) file)
  all_held which [] file h = tt
  all_held which (f ∷ fs) file h = (
    others_stand (which + 1) fs (with_file (name_of words which) f file) (name_of words which) h.0 ∙ with_same (name_of words which) f file,
    all_held (which + 1) fs (with_file (name_of words which) f file) h.1,
  )

-- ---- distinct words

or_none : (a b : Bool) → a || b ≡ false → (a ≡ false) × (b ≡ false)
or_none true b e = absurd (let no : ⊥ = cc in no)
or_none false b e = (refl, e)

and_both : (a b : Bool) → a && b ≡ true → (a ≡ true) × (b ≡ true)
and_both true b e = (refl, e)
and_both false b e = absurd (let no : ⊥ = cc in no)

not_true : (b : Bool) → not b ≡ true → b ≡ false
not_true true e = absurd (let no : ⊥ = cc in no)
not_true false e = refl

abbrev pub AreOthers : List ℕ → List (List ℕ) → Type 0
AreOthers w [] = Unit {0}
AreOthers w (v ∷ vs) = (w ≢ v) × AreOthers w vs

differs : (w v : List ℕ) → bytes_eq w v ≡ false → w ≢ v
differs w v e s = let t : bytes_eq w v ≡ true = (bytes_eq-Decides w v).1 s in let no : ⊥ = cc in no

others : (w : List ℕ) (vs : List (List ℕ)) → list_any (bytes_eq w) vs ≡ false → AreOthers w vs
others w [] e = tt
others w (v ∷ vs) e = let h = or_none (bytes_eq w v) (list_any (bytes_eq w) vs) e in (differs w v h.0, others w vs h.1)

abbrev pub AllDiffer : List (List ℕ) → Type 0
AllDiffer [] = Unit {0}
AllDiffer (w ∷ ws) = AreOthers w ws × AllDiffer ws

pub all_differ : (ws : List (List ℕ)) → are_distinct ws ≡ true → AllDiffer ws
all_differ [] e = tt
all_differ (w ∷ ws) e = let h = and_both (not (list_any (bytes_eq w) ws)) (are_distinct ws) e in (others w ws (not_true _ h.0), all_differ ws h.1)

pub distinct_are_apart : DistinctAreApart
distinct_are_apart command a1 a2 a3 a4 a5 a6 a7 a8 a9 e =
    let h = all_differ (a1 ∷ a2 ∷ a3 ∷ a4 ∷ a5 ∷ a6 ∷ a7 ∷ a8 ∷ a9 ∷ []) e in
    let five = h.1.1.1.1 in
    (five.0, (five.1.0, (five.1.1.0, (five.1.1.1.0, (tt, tt)))))
