-- The rows of the switch keys that are made from key material: they are keys of its secret, each for its purpose.
use Rattle.std.proofs.Common.{◌≡◌, ◌≢◌, ◌∙◌, ℕ, ◌+◌, ◌-◌, ◌<◌, ◌^◌, Bool, true, false, List, [], length, map, get_or, Some, refl, sym, ap, subst, arith, if◌then◌else◌}
use Rattle.std.specs.Prelude.{All}
use lib.IntN.{ℤ, pos}
use Rattle.std.proofs.lemmas.Bool.{ne_eqb}
use Rattle.std.proofs.lemmas.List.{get_or-map, length-map}
use Rattle.std.proofs.lemmas.List.Elements.{All-get_or, All-from_get_or}
use Rattle.std.proofs.lemmas.List.FromFn.{get_or-map-range_with_len}
use Rattle.heco_ring.specs.Remainders.{reduced}
use Rattle.heco_ring.specs.Ring.{wholes, plus, negate, scale, times}
use Rattle.heco_ring.proofs.Reduced.{length-reduced, reduced-lt}
use Rattle.heco_nums.specs.MaterialBounds.{AreErrors, AreWords}
use Rattle.heco_scheme.specs.Keys.{key_part, switch_part, row, square, turned_secret, AreRows, IsPublicKey, IsSwitchKey}
use Rattle.heco_nums.specs.Listed.{listed}
use Rattle.heco_nums.proofs.ListedLaws.{length-listed}
use Rattle.heco_material.specs.declared.words.SwitchRow.{SwitchRow}
use Rattle.heco_material.specs.declared.words.SwitchWords.{SwitchWords}
use Rattle.heco_material.specs.KeyLists.{IsSwitchRow, IsSwitch}
use Rattle.heco_keys.specs.declared.switch_key.SwitchKey.{SwitchKey}
use Rattle.heco_keys.specs.Made.{all_rows, no_row, no_rows, pair_of, purpose, source_of, switch_rows}

pub made_public : (n b : ℕ) (s e : List ℤ) (a : List ℕ) → AreErrors n b e → IsPublicKey n b s (key_part n s a e) a
made_public n b s e a h = record { error = e; small = h; first = refl }

-- what is reduced modulo q are words
pub reduced_words : (n : ℕ) (z : List ℤ) → AreWords n (reduced (2 ^ 58) n z)
reduced_words n z = record {
  long = length-reduced (2 ^ 58) n z;
  below = All-from_get_or (λ x. x < 2 ^ 58) (reduced (2 ^ 58) n z) 0 (λ k l. reduced-lt (2 ^ 58) n z k (omega arith) (omega (arith, length-reduced (2 ^ 58) n z)));
}

-- ---- one switch key

pub row_is : (n i : ℕ) (s t : List ℤ) (rows : List SwitchRow) → i < 29 → row (switch_rows n s t rows) i ≡ pair_of n s t i (get_or rows i no_row)
unfolding switch_rows listed
row_is n i s t rows h = get_or-map-range_with_len (λ i. pair_of n s t i (get_or rows i no_row)) 0 29 i i ([], []) h (omega arith)

pub words_row : (n b i : ℕ) (w : SwitchWords) → IsSwitch n b w → i < 29 → IsSwitchRow n b (get_or w.rows i no_row)
words_row n b i w h l = All-get_or (IsSwitchRow n b) w.rows i no_row (omega (arith, h.count)) h.rows

pub switch_part_words : (n i : ℕ) (s t e : List ℤ) (a : List ℕ) → AreWords n (switch_part n s t i a e)
unfolding switch_part
switch_part_words n i s t e a = reduced_words n (plus n (negate n (plus n (times n (wholes a) s) e)) (scale n (pos (4 ^ i)) t))

pub rows_long : (n : ℕ) (s t : List ℤ) (rows : List SwitchRow) → length (switch_rows n s t rows) ≡ 29
unfolding switch_rows listed
rows_long n s t rows = refl

switch_rows_are : (n b : ℕ) (s t : List ℤ) (w : SwitchWords) → IsSwitch n b w → AreRows n (switch_rows n s t w.rows)
switch_rows_are n b s t w h = record {
  count = rows_long n s t w.rows;
  firsts = λ i l. rw (row_is n i s t w.rows l) (switch_part_words n i s t (get_or w.rows i no_row).e (get_or w.rows i no_row).a).long;
  seconds = λ i l. rw (row_is n i s t w.rows l) (words_row n b i w h l).words.long;
}

switch_rows_key : (n b : ℕ) (s t : List ℤ) (w : SwitchWords) → IsSwitch n b w → IsSwitchKey n b s t (switch_rows n s t w.rows)
switch_rows_key n b s t w h = record {
  errors = λ i. (get_or w.rows i no_row).e;
  small = λ i l. (words_row n b i w h l).errors;
  first = λ i l. rw (row_is n i s t w.rows l) refl;
}

-- ---- all of them

module _ (n : ℕ) (s : List ℤ) (relin : Bool) (turns : List ℕ) (switch : List SwitchWords) where
  pub length-all : length (all_rows n s relin turns switch) ≡ length switch
  unfolding all_rows
  length-all = length-listed (λ j. switch_rows n s (source_of n s (purpose relin turns j)) (get_or switch j no_rows).rows) (length switch)

  pub key_is : (j : ℕ) → j < length switch → get_or (all_rows n s relin turns switch) j [] ≡ switch_rows n s (source_of n s (purpose relin turns j)) (get_or switch j no_rows).rows
  unfolding all_rows listed
  key_is j h = get_or-map-range_with_len (λ j. switch_rows n s (source_of n s (purpose relin turns j)) (get_or switch j no_rows).rows) 0 (length switch) j j [] h (omega arith)

  pub made_rows : (b : ℕ) → All (IsSwitch n b) switch → All (AreRows n) (all_rows n s relin turns switch)
  made_rows b h = All-from_get_or (AreRows n) (all_rows n s relin turns switch) [] (λ j l.
      let inside : j < length switch = omega (arith, length-all) in
      rw (key_is j inside) (switch_rows_are n b s (source_of n s (purpose relin turns j)) (get_or switch j no_rows) (All-get_or (IsSwitch n b) switch j no_rows inside h)))

  pub made_switch : (b j : ℕ) → All (IsSwitch n b) switch → j < length switch → IsSwitchKey n b s (source_of n s (purpose relin turns j)) (get_or (all_rows n s relin turns switch) j [])
  made_switch b j h inside =
      rw (key_is j inside) (switch_rows_key n b s (source_of n s (purpose relin turns j)) (get_or switch j no_rows) (All-get_or (IsSwitch n b) switch j no_rows inside h))

-- what holds of the rows of all keys
pub seen_rows : (P : List (List ℕ × List ℕ) → Type 0) (keys : List SwitchKey) (all : List (List (List ℕ × List ℕ))) → map (λ key. key.rows) keys ≡ all → All P all → All (λ key. P key.rows) keys
seen_rows P keys all e h = λ j key l.
    let m : length all ≡ length keys = ap length (sym e) ∙ length-map keys (λ (key : SwitchKey). key.rows) in
    subst P (ap (λ (xs : List (List (List ℕ × List ℕ))). get_or xs j []) (sym e) ∙ get_or-map (λ (key : SwitchKey). key.rows) keys j key [] l) (All-get_or P all j [] (omega arith) h)

-- ---- what a key is for

pub relin_source : (n : ℕ) (s : List ℤ) (turns : List ℕ) → source_of n s (purpose true turns 0) ≡ square n s
unfolding purpose source_of
relin_source n s turns = refl

turn_purpose : (relin : Bool) (turns : List ℕ) (j : ℕ) → purpose relin turns ((if relin then 1 else 0) + j) ≡ Some (get_or turns j 0)
unfolding purpose
turn_purpose true turns j =
    let ne : 1 + j ≢ 0 = omega arith in
    let back : 1 + j - 1 ≡ j = omega arith in
    rw (ne_eqb (1 + j) 0 ne, back) refl
turn_purpose false turns j = let none : 0 + j ≡ j = omega arith in rw none refl

pub turn_source : (n : ℕ) (s : List ℤ) (relin : Bool) (turns : List ℕ) (j : ℕ) → source_of n s (purpose relin turns ((if relin then 1 else 0) + j)) ≡ turned_secret n s (get_or turns j 0)
unfolding source_of
turn_source n s relin turns j = rw (turn_purpose relin turns j) refl
