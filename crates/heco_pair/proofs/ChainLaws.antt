-- What a good circuit yields of two rows of values, and what its steps need.
use Rattle.std.proofs.Common.{◌≡◌, ◌∙◌, ℕ, List, length, ap}
use Rattle.heco_circuit.specs.Circuits.{IsCircuit}
use Rattle.heco_circuit.specs.Plans.{Plan as Circuit}
use Rattle.heco_exec.proofs.ChainLaws.{can_run}
use Rattle.heco_exec.specs.Chain.{AreKeysFor}
use Rattle.heco_good.specs.Compiled.{IsPassedOf}
use Rattle.heco_headline.specs.Pair.{CanRunBoth}
use Rattle.heco_headline.proofs.PairLaw.{first_plain, second_plain}
use Rattle.heco_jobs.specs.Agents.{Agents}
use Rattle.heco_jobs.specs.declared.product.Product.{Product}
use Rattle.heco_key_files.specs.KeyFiles.{EvalLists}
use Rattle.heco_material.specs.KeyLists.{KeyLists, IsEncMaterial, lists_of}
use Rattle.heco_material.specs.declared.words.EncRow.{EncRow}
use Rattle.heco_material.specs.declared.words.KeyWords.{KeyWords}
use Rattle.heco_nums.specs.declared.preset.Preset.{Preset}
use Rattle.heco_nums.specs.declared.shape.Values.{Values}
use Rattle.heco_products.specs.Encrypting.{encrypted_pairs}
use Rattle.heco_products.specs.KeyProducts.{circuit_key}
use Rattle.heco_nums.specs.PresetRows.{preset_of}
use Rattle.heco_run_laws.specs.Runs.{Ciphertext}
use Rattle.heco_syntax.specs.declared.tree.Source.{Source}
use Rattle.heco_tasks.specs.Running.{Leads}
use Rattle.heco_texts.specs.Answers.{HaveFit}
use Rattle.heco_pair.specs.Chain.{YieldsPair}
use Rattle.heco_pair.specs.PairTask.{Pairs}

-- values that were encrypted row beside row by the key that was made of the material
pub made_pairs : (p : Preset) (c : Circuit) (k : KeyLists) (material : List EncRow) (first second : List (List ℕ)) (q : Preset) (e : EvalLists) (inputs : List Ciphertext) → q ≡ p → e ≡ circuit_key p c k
    → inputs ≡ encrypted_pairs q e material first second → inputs ≡ encrypted_pairs p (circuit_key p c k) material first second
made_pairs p c k material first second q e inputs preset lists is = is ∙ ap (λ x. encrypted_pairs x e material first second) preset ∙ ap (λ x. encrypted_pairs p x material first second) lists

-- a valid circuit, key words for it, material for so many inputs and values that fit twice can be run on both rows
pub can_run_both : (c : Circuit) (k : KeyWords) (q : Preset) (n : ℕ) (material : List EncRow) (first second : List (List ℕ)) → IsCircuit c → AreKeysFor c k → q ≡ preset_of c.preset → n ≡ length c.inputs
    → IsEncMaterial q.n q.h q.b n material → HaveFit (preset_of c.preset).t c.inputs first → HaveFit (preset_of c.preset).t c.inputs second → CanRunBoth c (lists_of k) material first second
can_run_both c k q n material first second valid keys whole many within fit beside = record {
  on_first = can_run c k q n material first valid keys whole many within fit;
  on_second = can_run c k q n material second valid keys whole many within beside;
}

pub pairs : (agents left : Agents) (s : Source) (c : Circuit) (v w : Values) (k : KeyLists) (material : List EncRow) (p : Product) → IsPassedOf s agents.passes c left.passes → CanRunBoth c k material v.rows w.rows
    → YieldsPair c k material v.rows w.rows p → Leads c agents.picker left.picker → Pairs agents s v w k material p left
pairs agents left s c v w k material p of_source runs yields leads = record {
  circuit = c;
  of_source = of_source;
  yields = yields;
  first = first_plain s c k material v.rows w.rows of_source.good runs;
  second = second_plain s c k material v.rows w.rows of_source.good runs;
  leads = leads;
}
