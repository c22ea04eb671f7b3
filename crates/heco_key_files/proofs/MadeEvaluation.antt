-- The evaluation key that is made from key material has a file.
use Rattle.std.proofs.Common.{◌∙◌, ℕ, ◌+◌, ◌<◌, Bool, List, [], length, get_or, sym, subst, arith}
use Rattle.std.specs.Prelude.{All}
use lib.IntN.{ℤ}
use Rattle.std.proofs.lemmas.List.Elements.{All-get_or, All-from_get_or}
use Rattle.heco_keys.specs.Made.{all_rows, no_row, no_rows, purpose, source_of, switch_rows}
use Rattle.heco_keys.proofs.MadeRows.{reduced_words, switch_part_words, row_is, rows_long, words_row, length-all, key_is}
use Rattle.heco_material.specs.KeyLists.{KeyLists, IsKeyMaterial, IsSwitch}
use Rattle.heco_material.specs.declared.words.SwitchWords.{SwitchWords}
use Rattle.heco_ring.specs.Ring.{wholes, plus, negate, times}
use Rattle.heco_nums.specs.MaterialBounds.{AreWords}
use Rattle.heco_scheme.specs.Keys.{key_part}
use Rattle.heco_key_files.specs.KeyFiles.{AreEvalLists, AreTurns, IsPair, IsSwitchList, bit, made_key}

key_part_words : (n : ℕ) (s e : List ℤ) (a : List ℕ) → AreWords n (key_part n s a e)
unfolding key_part
key_part_words n s e a = reduced_words n (negate n (plus n (times n (wholes a) s) e))

rows_are_pairs : (n b : ℕ) (s t : List ℤ) (w : SwitchWords) → IsSwitch n b w → IsSwitchList n (switch_rows n s t w.rows)
rows_are_pairs n b s t w h = (
  rows_long n s t w.rows,
  All-from_get_or (IsPair n) (switch_rows n s t w.rows) ([], []) (λ i l.
      let inside : i < 29 = omega (arith, rows_long n s t w.rows) in
      subst (IsPair n) (sym (row_is n i s t w.rows inside))
      (switch_part_words n i s t (get_or w.rows i no_row).e (get_or w.rows i no_row).a, (words_row n b i w h inside).words)),
)

module _ (n h b slots : ℕ) (relin : Bool) (turns : List ℕ) (k : KeyLists) (amounts : AreTurns slots turns) (material : IsKeyMaterial n h b (bit relin + length turns) k) where
  switches_are_keys : All (IsSwitchList n) (all_rows n k.s relin turns k.switch)
  switches_are_keys = All-from_get_or (IsSwitchList n) (all_rows n k.s relin turns k.switch) [] (λ j l.
      let inside : j < length k.switch = omega (arith, length-all n k.s relin turns k.switch) in
      subst (IsSwitchList n) (sym (key_is n k.s relin turns k.switch j inside))
      (rows_are_pairs n b k.s (source_of n k.s (purpose relin turns j)) (get_or k.switch j no_rows) (All-get_or (IsSwitch n b) k.switch j no_rows inside material.switch)))

  pub made_evaluation : AreEvalLists n slots (made_key n relin turns k)
  unfolding made_key
  made_evaluation = record {
    turns = amounts;
    p0 = key_part_words n k.s k.e k.a;
    p1 = material.words;
    count = length-all n k.s relin turns k.switch ∙ material.count;
    switch = switches_are_keys;
  }
