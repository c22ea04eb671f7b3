-- What comes of one circuit, of material and of two rows of values: the files and the text.
use Rattle.std.specs.Prelude.{◌≡◌, ℕ, List, Some}
use Rattle.heco_circuit.specs.Plans.{Plan as Circuit}
use Rattle.heco_headline.specs.Pair.{pair_files, first_text, second_text}
use Rattle.heco_material.specs.KeyLists.{KeyLists}
use Rattle.heco_material.specs.declared.words.EncRow.{EncRow}
use Rattle.heco_jobs.specs.declared.product.Product.{Product}
use Rattle.heco_exec.specs.Chain.{numbered}
use Rattle.heco_pair.specs.Texts.{both_texts}

-- the circuit, both keys, the inputs that are encrypted in two rows and the result are written into words 6 to 10, and what decrypting the result prints of
-- both rows is printed
pub record YieldsPair (c : Circuit) (k : KeyLists) (material : List EncRow) (first second : List (List ℕ)) (p : Product) : Type 0 where
  pub writes : p.writes ≡ numbered 6 (pair_files c k material first second)
  pub text : p.text ≡ Some (both_texts (first_text c k material first second) (second_text c k material first second))
