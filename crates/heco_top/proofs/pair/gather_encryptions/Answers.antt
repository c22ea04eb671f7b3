use Rattle.std.proofs.Common.{◌∙◌, refl, inl, inr, Ok, Err}
use Rattle.std.proofs.lemmas.Result.{err_from_is_err_and}
use Rattle.heco_jobs.specs.Jobs.{Give}
use Rattle.heco_jobs.proofs.StageLaws.{gathered_on, gathered_stopped, gathered_decided, given, given_none}
use Rattle.heco_jobs.specs.Words.{texts}
use Rattle.heco_material.specs.KeyLists.{lists_of}
use Rattle.heco_pair.proofs.ChainLaws.{can_run_both, pairs}
use Rattle.heco_pair.proofs.JobLaws.{fits_pair}
use Rattle.heco_exec.proofs.KeyLaws.{encryptions_judged}
use Rattle.heco_exec.specs.ExecTask.{IsEncryptionMaterialOf, IsNoEncryptionMaterialIn}
use Rattle.heco_pair.specs.PairTask.{pair_plan, encryptions_job, Pairs}
use Rattle.heco_top.proofs.pair.gather_encryptions.Goals as goal

pub pair_product-requires-clause-kept : goal.pair_product-requires-clause-kept
pair_product-requires-clause-kept g c = c.in_ok-material.ensures.kept ∙ c.preset-preset.ensures.whole

pub pair_product-requires-clause-runs : goal.pair_product-requires-clause-runs
pair_product-requires-clause-runs g c =
    can_run_both c.args.circuit.now c.args.k.now c.preset-preset.result.now c.input_count.result c.in_ok-material.material.rows c.args.first.now.rows c.args.second.now.rows
    c.preset-preset.ensures.valid c.requires.keys c.preset-preset.ensures.whole c.input_count.ensures c.in_ok-material.ensures.within c.requires.first c.requires.second

pub returns-in_err-material-clause-gathered : goal.returns-in_err-material-clause-gathered
unfolding encryptions_job
returns-in_err-material-clause-gathered g c = λ s handed left of_source.
    let o = c.in_err-material.field-0.0 in
    let p = err_from_is_err_and c.from_residual.result c.from_residual.ensures.1 in
    rw (p.1, p.2) (gathered_stopped g.S.Store (texts c.args.words.now) pair_plan 5 (IsEncryptionMaterialOf s) (IsNoEncryptionMaterialIn 5 s)
    (λ material. Give (Pairs _ s c.args.first.now c.args.second.now (lists_of c.args.k.now) material)) _
    c.args.store.now c.read_encryptions.new.store o (inr (inr (inr (inr (inl refl)))))
    (encryptions_judged g.S.Store (texts c.args.words.now) s c.args.circuit.now of_source.good c.preset-preset.result.now c.args.store.now c.read_encryptions.new.store 5 c.input_count.result (Err o)
    c.preset-preset.ensures.whole c.input_count.ensures c.in_err-material.ensures.read))

pub returns-in_err-product-clause-gathered : goal.returns-in_err-product-clause-gathered
unfolding encryptions_job
returns-in_err-product-clause-gathered g c = λ s handed left of_source.
    let rows = c.in_ok-material.material.rows in
    let p = err_from_is_err_and c.from_residual-in_err-product.result c.from_residual-in_err-product.ensures.1 in
    rw (p.1, p.2) (gathered_on g.S.Store (texts c.args.words.now) pair_plan 5 (IsEncryptionMaterialOf s) (IsNoEncryptionMaterialIn 5 s)
    (λ material. Give (Pairs _ s c.args.first.now c.args.second.now (lists_of c.args.k.now) material)) _
    c.args.store.now c.read_encryptions.new.store c.read_encryptions.new.store rows _
    (encryptions_judged g.S.Store (texts c.args.words.now) s c.args.circuit.now of_source.good c.preset-preset.result.now c.args.store.now c.read_encryptions.new.store 5 c.input_count.result (Ok rows)
    c.preset-preset.ensures.whole c.input_count.ensures c.in_ok-material.ensures.read)
    (gathered_decided g.S.Store (texts c.args.words.now) pair_plan _ _ c.read_encryptions.new.store _ (given_none pair_plan _ _)))

pub returns-clause-gathered : goal.returns-clause-gathered
unfolding encryptions_job
returns-clause-gathered g c = λ s handed left of_source.
    let rows = c.in_ok-material.material.rows in
    let k = lists_of c.args.k.now in
    let v = c.args.first.now in
    let w = c.args.second.now in
    let product = c.in_ok-product.product in
    gathered_on g.S.Store (texts c.args.words.now) pair_plan 5 (IsEncryptionMaterialOf s) (IsNoEncryptionMaterialIn 5 s)
    (λ material. Give (Pairs _ s v w k material)) _
    c.args.store.now c.read_encryptions.new.store c.read_encryptions.new.store rows (Ok product)
    (encryptions_judged g.S.Store (texts c.args.words.now) s c.args.circuit.now of_source.good c.preset-preset.result.now c.args.store.now c.read_encryptions.new.store 5 c.input_count.result (Ok rows)
    c.preset-preset.ensures.whole c.input_count.ensures c.in_ok-material.ensures.read)
    (gathered_decided g.S.Store (texts c.args.words.now) pair_plan _ _ c.read_encryptions.new.store (Ok product)
    (given pair_plan (Pairs _ s v w k rows) _ (Ok product) (λ p h. fits_pair h.circuit k rows v.rows w.rows p h.yields)
    (pairs _ _ s c.args.circuit.now v w k rows product of_source (can_run_both c.args.circuit.now c.args.k.now c.preset-preset.result.now c.input_count.result c.in_ok-material.material.rows c.args.first.now.rows c.args.second.now.rows c.preset-preset.ensures.valid c.requires.keys c.preset-preset.ensures.whole c.input_count.ensures c.in_ok-material.ensures.within c.requires.first c.requires.second)
    c.in_ok-product.ensures.yields c.in_ok-product.ensures.leads)))
