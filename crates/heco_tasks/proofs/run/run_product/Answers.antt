use Rattle.std.proofs.Common.{◌≡◌, ◌∙◌, ◌∷◌, [], IfOk, List, ℕ, ap, subst}
use Rattle.heco_ciphertext_files.specs.CiphertextFiles.{file_text, magic_of}
use Rattle.heco_ciphertext_files.specs.declared.kind.FileKind.TheVariants.{Res}
use Rattle.heco_key_files.specs.KeyFiles.{lists_of}
use Rattle.heco_nums.specs.declared.preset.Preset.{Preset}
use Rattle.heco_products.specs.Results.{results_file}
use Rattle.heco_jobs.specs.Products.{Stores, planned}
use Rattle.heco_tasks.proofs.run.run_product.Goals as goal

pub returns-clause-stores : goal.returns-clause-stores
unfolding results_file
returns-clause-stores g c =
    let p = c.args.key.now.preset in
    let same : c.in_ok-bytes.bytes ≡ results_file p c.args.circuit.now (lists_of c.args.key.now) c.args.inputs.items =
    c.in_ok-bytes.ensures.text
    ∙ (ap (λ (q : Preset). file_text (magic_of Res) q.id c.as_slice.result.now) c.preset.ensures
    ∙ ap (λ (cs : List (List (List ℕ))). file_text (magic_of Res) p.id cs) (c.as_slice.ensures ∙ c.in_ok-results.ensures.results))
    in
    subst (λ b. IfOk c.storing.result (Stores (planned 4 b ∷ []))) same c.storing.ensures
