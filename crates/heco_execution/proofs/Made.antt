-- What an execution on terms gives is made by the three operations.
use Rattle.std.proofs.Common.{refl, ℕ, zero, suc, ◌+◌, ◌-◌, ◌%◌, ◌<◌, ◌≤◌, ℤ, pos, negsuc, List, [], ◌∷◌, Ok, Err, arith}
use Rattle.std.proofs.Math.Nat.{mod-lt}
use Rattle.std.proofs.lemmas.List.Elements.{All-cons, All-nil}
use Rattle.std.specs.List.{All}
use Rattle.heco_written.specs.ScalarTerm.{ScalarTerm, IsMade, number, element, sum, product, negation}
use Rattle.heco_execution.specs.declared.progress.Progress.{Progress}
use Rattle.heco_execution.specs.Laws.{input_lengths, elements_from, elements, AreMade, TermsAreMade}
use Rattle.heco_execution.specs.Outcomes.{Outcome, after}
use Rattle.heco_execution.specs.Secrets.{residue, terms, storeless}
use Rattle.heco_execution.proofs.Evaluations.{AreFollowed}
use Rattle.heco_execution.proofs.Following.{AllLike, Comes}
use Rattle.heco_execution.proofs.Wholes.{execute_follows}

module _ (t slots : ℕ) (positive : 0 < t) where
  residue_below : (z : ℤ) → residue t z < t
  residue_below (pos n) = mod-lt n positive
  residue_below (negsuc n) = mod-lt (t - suc n % t) positive

  abbrev Grows : Unit {0} → Unit {0} → Type 0
  Grows s u = Unit {0}

  -- the term is made, whatever stands beside it
  abbrev Made : Unit {0} → ScalarTerm → ScalarTerm → Type 0
  Made s x y = IsMade t slots x

  made_followed : AreFollowed (storeless {S = Unit {0}} (terms t)) (terms t) Grows Made
  made_followed = record {
    growth = record { stays = λ s. tt; further = λ s u v g h. tt; kept = λ s u x y g h. h };
    of_number = λ s z. (tt, number (residue t z) (residue_below z));
    add = λ s x y u v h k. (tt, sum x y _ h k refl);
    multiply = λ s x y u v h k. (tt, product x y _ h k refl);
    negate = λ s x u h. (tt, negation x _ h refl);
  }

  abbrev MadeRow : List ScalarTerm → List ScalarTerm → Type 0
  MadeRow = AllLike (Made tt)

  elements_made : (a i n : ℕ) → i + n ≤ slots → MadeRow (elements_from a i n) (elements_from a i n)
  elements_made a i zero h = tt
  elements_made a i (suc n) h = (element a i (omega arith), elements_made a (suc i) n (omega arith))

  inputs_made : (a : ℕ) (ns : List ℕ) → All (λ n. n ≤ slots) ns → AllLike MadeRow (elements a ns) (elements a ns)
  inputs_made a [] h = tt
  inputs_made a (n ∷ ns) h = (elements_made a 0 n (let first : n ≤ slots = h 0 0 (omega arith) in omega arith), inputs_made (suc a) ns (λ k d l. h (suc k) d (omega arith)))

  all_of_row : (xs ys : List ScalarTerm) → MadeRow xs ys → All (λ x. IsMade t slots x) xs
  all_of_row [] [] h = All-nil (λ x. IsMade t slots x)
  all_of_row (x ∷ xs) (y ∷ ys) h = All-cons (λ x. IsMade t slots x) x xs h.0 (all_of_row xs ys h.1)
  all_of_row [] (y ∷ ys) h = absurd h
  all_of_row (x ∷ xs) [] h = absurd h

  all_of_rows : (rows others : List (List ScalarTerm)) → AllLike MadeRow rows others → All (λ row. All (λ x. IsMade t slots x) row) rows
  all_of_rows [] [] h = All-nil (λ row. All (λ x. IsMade t slots x) row)
  all_of_rows (row ∷ rows) (other ∷ others) h = All-cons (λ r. All (λ x. IsMade t slots x) r) row rows (all_of_row row other h.0) (all_of_rows rows others h.1)
  all_of_rows [] (other ∷ others) h = absurd h
  all_of_rows (row ∷ rows) [] h = absurd h

  made_outcome : (o u : Outcome (List (List ScalarTerm) × Progress (Unit {0}))) → Comes Grows (λ s. AllLike MadeRow) tt o u → AreMade t slots (after o (λ r. Ok r.0))
  made_outcome (Ok x) (Ok y) c = all_of_rows x.0 y.0 c.2
  made_outcome (Err e) (Err f) c = tt
  made_outcome (Ok x) (Err f) c = absurd c
  made_outcome (Err e) (Ok y) c = absurd c

pub terms_are_made : TermsAreMade
terms_are_made t slots source positive h =
    made_outcome t slots positive _ _
    (execute_follows (storeless {S = Unit {0}} (terms t)) (terms t) (Grows t slots positive) (Made t slots positive) (made_followed t slots positive) source tt
    (elements 0 (input_lengths source.ports)) (elements 0 (input_lengths source.ports)) (inputs_made t slots positive 0 (input_lengths source.ports) h)
    (record { steps = 0; store = tt }) (record { steps = 0; store = tt }) tt refl)
