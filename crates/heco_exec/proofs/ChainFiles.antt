-- What `exec` has written of its circuit, both keys and its inputs are files of one chain.
use Rattle.std.proofs.Common.{◌≡◌, ℕ, List, [], ◌∷◌, length, sym, ap, subst}
use Rattle.heco_circuit.specs.Needs.{needed_keys}
use Rattle.heco_circuit.specs.Plans.{Plan as Circuit}
use Rattle.heco_end_to_end.specs.EndToEnd.{IsRunnable}
use Rattle.heco_good.specs.Good.{Good}
use Rattle.heco_headline.proofs.Chain as chain
use Rattle.heco_headline.proofs.ExecLaw.{preset_number, source_keys_are_needed}
use Rattle.heco_headline.specs.Headline.{IsChain}
use Rattle.heco_material.specs.KeyLists.{KeyLists, IsKeyMaterial, IsEncMaterial}
use Rattle.heco_material.specs.declared.words.EncRow.{EncRow}
use Rattle.heco_nums.specs.declared.preset.Preset.{Preset}
use Rattle.heco_nums.specs.declared.shape.Shape.{Shape}
use Rattle.heco_nums.specs.declared.shape.Values.{Values}
use Rattle.heco_products.proofs.Products.{fit_count}
use Rattle.heco_nums.specs.PresetRows.{preset_of}
use Rattle.heco_sources.specs.Inputs.{IsInput}
use Rattle.heco_syntax.specs.declared.tree.Source.{Source}
use Rattle.heco_jobs.specs.Words.{name_of}
use Rattle.heco_tasks.proofs.MeasureLaws.{encrypted_of_the_chain}
use Rattle.heco_exec.specs.ExecTask.{source_preset, IsKeyMaterialOf, IsEncryptionMaterialOf}
use Rattle.heco_exec.specs.Laws.{ExecutedFilesAreOfOneChain}

-- whatever good circuit was chosen of what was given can be run
pub given_runs : (source : Source) (c : Circuit) (text kmat emat : List ℕ) (v : Values) (k : KeyLists) (material : List EncRow) → Good source c → IsInput source text v
    → IsKeyMaterialOf source kmat k → IsEncryptionMaterialOf source emat material → IsRunnable (preset_of c.preset) c k material v.rows
given_runs source c text kmat emat v k material good input keys words =
    let p : Preset = source_preset source in
    let same : p ≡ preset_of c.preset = ap preset_of (sym good.preset) in
    let links : IsChain source c (preset_of c.preset) text v k material = record {
      good = good;
      preset = preset_number c good.valid;
      values = input;
      keys = subst (λ (q : Preset). IsKeyMaterial q.n q.h q.b (needed_keys c) k) same (subst (λ count. IsKeyMaterial p.n p.h p.b count k) (source_keys_are_needed source c good) keys.within);
      words = subst (λ (q : Preset). IsEncMaterial q.n q.h q.b (length c.inputs) material) same
          (subst (λ (shapes : List Shape). IsEncMaterial p.n p.h p.b (length shapes) material) (sym good.inputs) words.within);
    } in
    chain.runs source c (preset_of c.preset) text v k material links

pub executed_of_one_chain : ExecutedFilesAreOfOneChain
executed_of_one_chain words command file file' printed handed left e =
    let given = e.given in
    let runs = given_runs e.source e.circuit given.inputs.text given.kmat.text given.emat.text e.values e.keys e.material e.of_source.good given.inputs.fits given.kmat.fits given.emat.fits in
    let many = fit_count (preset_of e.circuit.preset).t e.circuit.inputs e.values.rows runs.fit in
    (encrypted_of_the_chain (command ∷ name_of words 5 ∷ name_of words 6 ∷ name_of words 7 ∷ name_of words 8 ∷ []) file' e.circuit e.keys e.material e.values.rows e.values.rows
    (record { provided = runs.provided; circuit = e.cir; secret = e.sec; evaluation = e.eva }) many many).0 e.cts
