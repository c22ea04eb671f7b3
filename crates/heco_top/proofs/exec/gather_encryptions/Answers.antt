use Rattle.std.proofs.Common.{◌∙◌, refl, inl, inr, Ok, Err}
use Rattle.std.proofs.lemmas.Result.{err_from_is_err_and}
use Rattle.heco_jobs.specs.Jobs.{Give}
use Rattle.heco_jobs.proofs.StageLaws.{gathered_on, gathered_stopped, gathered_decided, given, given_none}
use Rattle.heco_jobs.specs.Words.{texts}
use Rattle.heco_material.specs.KeyLists.{lists_of}
use Rattle.heco_exec.proofs.ChainLaws.{can_run, executes}
use Rattle.heco_exec.proofs.JobLaws.{fits_exec}
use Rattle.heco_exec.proofs.KeyLaws.{encryptions_judged}
use Rattle.heco_exec.specs.ExecTask.{exec_plan, encryptions_job, Executes, IsEncryptionMaterialOf, IsNoEncryptionMaterialOf}
use Rattle.heco_top.proofs.exec.gather_encryptions.Goals as goal

pub chain_product-requires-clause-kept : goal.chain_product-requires-clause-kept
chain_product-requires-clause-kept g c = c.in_ok-material.ensures.kept ∙ c.preset-preset.ensures.whole

pub chain_product-requires-clause-runs : goal.chain_product-requires-clause-runs
chain_product-requires-clause-runs g c =
    can_run c.args.circuit.now c.args.k.now c.preset-preset.result.now c.input_count.result c.in_ok-material.material.rows c.args.values.now.rows
    c.preset-preset.ensures.valid c.requires.keys c.preset-preset.ensures.whole c.input_count.ensures c.in_ok-material.ensures.within c.requires.fit

pub returns-in_err-material-clause-gathered : goal.returns-in_err-material-clause-gathered
unfolding encryptions_job
returns-in_err-material-clause-gathered g c = λ s handed left of_source.
    let o = c.in_err-material.field-0.0 in
    let p = err_from_is_err_and c.from_residual.result c.from_residual.ensures.1 in
    rw (p.1, p.2) (gathered_stopped g.S.Store (texts c.args.words.now) exec_plan 4 (IsEncryptionMaterialOf s) (IsNoEncryptionMaterialOf s)
    (λ material. Give (Executes _ s c.args.values.now (lists_of c.args.k.now) material)) _
    c.args.store.now c.read_encryptions.new.store o (inr (inr (inr (inl refl))))
    (encryptions_judged g.S.Store (texts c.args.words.now) s c.args.circuit.now of_source.good c.preset-preset.result.now c.args.store.now c.read_encryptions.new.store 4 c.input_count.result (Err o)
    c.preset-preset.ensures.whole c.input_count.ensures c.in_err-material.ensures.read))

pub returns-in_err-product-clause-gathered : goal.returns-in_err-product-clause-gathered
unfolding encryptions_job
returns-in_err-product-clause-gathered g c = λ s handed left of_source.
    let rows = c.in_ok-material.material.rows in
    let p = err_from_is_err_and c.from_residual-in_err-product.result c.from_residual-in_err-product.ensures.1 in
    rw (p.1, p.2) (gathered_on g.S.Store (texts c.args.words.now) exec_plan 4 (IsEncryptionMaterialOf s) (IsNoEncryptionMaterialOf s)
    (λ material. Give (Executes _ s c.args.values.now (lists_of c.args.k.now) material)) _
    c.args.store.now c.read_encryptions.new.store c.read_encryptions.new.store rows _
    (encryptions_judged g.S.Store (texts c.args.words.now) s c.args.circuit.now of_source.good c.preset-preset.result.now c.args.store.now c.read_encryptions.new.store 4 c.input_count.result (Ok rows)
    c.preset-preset.ensures.whole c.input_count.ensures c.in_ok-material.ensures.read)
    (gathered_decided g.S.Store (texts c.args.words.now) exec_plan _ _ c.read_encryptions.new.store _ (given_none exec_plan _ _)))

pub returns-clause-gathered : goal.returns-clause-gathered
unfolding encryptions_job
returns-clause-gathered g c = λ s handed left of_source.
    let rows = c.in_ok-material.material.rows in
    let k = lists_of c.args.k.now in
    let v = c.args.values.now in
    let product = c.in_ok-product.product in
    gathered_on g.S.Store (texts c.args.words.now) exec_plan 4 (IsEncryptionMaterialOf s) (IsNoEncryptionMaterialOf s)
    (λ material. Give (Executes _ s v k material)) _
    c.args.store.now c.read_encryptions.new.store c.read_encryptions.new.store rows (Ok product)
    (encryptions_judged g.S.Store (texts c.args.words.now) s c.args.circuit.now of_source.good c.preset-preset.result.now c.args.store.now c.read_encryptions.new.store 4 c.input_count.result (Ok rows)
    c.preset-preset.ensures.whole c.input_count.ensures c.in_ok-material.ensures.read)
    (gathered_decided g.S.Store (texts c.args.words.now) exec_plan _ _ c.read_encryptions.new.store (Ok product)
    (given exec_plan (Executes _ s v k rows) _ (Ok product) (λ p h. fits_exec h.circuit k rows v.rows p h.yields)
    (executes _ _ s c.args.circuit.now v k rows product of_source (can_run c.args.circuit.now c.args.k.now c.preset-preset.result.now c.input_count.result c.in_ok-material.material.rows c.args.values.now.rows c.preset-preset.ensures.valid c.requires.keys c.preset-preset.ensures.whole c.input_count.ensures c.in_ok-material.ensures.within c.requires.fit)
    c.in_ok-product.ensures.yields c.in_ok-product.ensures.leads)))
