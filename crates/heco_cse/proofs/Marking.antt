-- Marks of operands.
use Rattle.std.proofs.Common.{◌≡◌, ℕ, zero, suc, ◌+◌, ◌<◌, List, [], ◌∷◌, length, refl, ap, sym, ◌∙◌, arith, Bool, true, false, ◌⊎◌, inl, inr, get_or, below_more}
use Rattle.std.specs.Prelude.{Some, slice_get, Contains, ◌↔◌}
use Rattle.std.proofs.Math.ListN.{set}
use Rattle.std.proofs.lemmas.List.{length-set}
use Rattle.std.proofs.lemmas.Option.{slice_get-get_or, get_or_from_slice_get}

set-there : (s : List Bool) (i : ℕ) → i < length s → slice_get (set s i true) i ≡ Some true
set-there [] i h = elim h [ ]
set-there (x ∷ s) zero h = refl
set-there (x ∷ s) (suc i) h = set-there s i (omega arith)

set-keeps : (s : List Bool) (i j : ℕ) → slice_get s j ≡ Some true → slice_get (set s i true) j ≡ Some true
set-keeps [] i j h = h
set-keeps (x ∷ s) zero zero h = refl
set-keeps (x ∷ s) zero (suc j) h = h
set-keeps (x ∷ s) (suc i) zero h = h
set-keeps (x ∷ s) (suc i) (suc j) h = set-keeps s i j h

set-from : (s : List Bool) (i j : ℕ) → slice_get (set s i true) j ≡ Some true → (slice_get s j ≡ Some true) ⊎ (j ≡ i)
set-from [] i j h = inl h
set-from (x ∷ s) zero zero h = inr refl
set-from (x ∷ s) zero (suc j) h = inl h
set-from (x ∷ s) (suc i) zero h = inl h
set-from (x ∷ s) (suc i) (suc j) h = elim (set-from s i j h) [ inl a ↦ inl a | inr e ↦ inr (ap suc e) ]

-- the default does not matter within the list
pub other_default : (os : List ℕ) (k d e : ℕ) → k < length os → get_or os k d ≡ get_or os k e
other_default os k d e l = get_or_from_slice_get os k (get_or os k e) d (slice_get-get_or os k e l)

-- the first k of these places are marked, beside those that were
pub record Marking (old now : List Bool) (os : List ℕ) (k : ℕ) : Type 0 where
  pub count : length now ≡ length old
  pub keeps : (j : ℕ) → slice_get old j ≡ Some true → slice_get now j ≡ Some true
  pub marked : (i : ℕ) → i < k → slice_get now (get_or os i 0) ≡ Some true
  pub sound : (j : ℕ) → slice_get now j ≡ Some true → (slice_get old j ≡ Some true) ⊎ Contains os j

pub marking_start : (old : List Bool) (os : List ℕ) → Marking old old os 0
marking_start old os = record { count = refl; keeps = λ j h. h; marked = λ i l. absurd (omega arith); sound = λ j h. inl h }

pub marking_next : {old now now2 : List Bool} {os : List ℕ} {k : ℕ} (o : ℕ) → Marking old now os k → k < length os → o ≡ get_or os k 0 → o < length now
    → now2 ≡ set now o true → Marking old now2 os (k + 1)
marking_next {old} {now} {now2} {os} {k} o m l eo lo e = record {
  count = ap length e ∙ length-set now o true ∙ m.count;
  keeps = λ j h. rw e (set-keeps now o j (m.keeps j h));
  marked = below_more _ _ (λ i li. rw e (set-keeps now o (get_or os i 0) (m.marked i li))) (rw (e, ← eo) (set-there now o lo));
  sound = λ j h.
      elim (set-from now o j (rw e at h)) [
        | inl a ↦ m.sound j a
        | inr f ↦ inr (k, l, other_default os k j 0 l ∙ sym eo ∙ sym f)
      ];
}

pub marking_end : {old now : List Bool} {os : List ℕ} {k : ℕ} → Marking old now os k → k ≡ length os
    → (j : ℕ) → (slice_get now j ≡ Some true) ↔ ((slice_get old j ≡ Some true) ⊎ Contains os j)
marking_end {old} {now} {os} {k} m e j = (
  m.sound j,
  λ h. elim h [
    | inl a ↦ m.keeps j a
    | inr (i, l, f) ↦
        let there : get_or os i 0 ≡ j = other_default os i 0 j l ∙ f in
        rw there at (m.marked i (omega arith))
  ],
)

-- what a test of a mark says
pub marked_at : (marks : List Bool) (i : ℕ) (d : Bool) → i < length marks → get_or marks i d ≡ true → slice_get marks i ≡ Some true
marked_at marks i d l h = slice_get-get_or marks i d l ∙ ap Some h

pub unmarked_at : (marks : List Bool) (i : ℕ) (d : Bool) → get_or marks i d ≡ false → slice_get marks i ≡ Some true → ⊥
unmarked_at marks i d h s = let e : get_or marks i d ≡ true = get_or_from_slice_get marks i true d s in cc
