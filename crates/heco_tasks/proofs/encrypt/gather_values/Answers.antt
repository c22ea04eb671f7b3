use Rattle.std.proofs.Common.{[], ◌∷◌, length, refl, sym, subst, inl, inr, Ok, Err}
use Rattle.std.proofs.lemmas.Result.{err_from_is_err_and}
use Rattle.heco_jobs.specs.Words.{texts}
use Rattle.heco_key_files.specs.KeyFiles.{lists_of}
use Rattle.heco_products.specs.Encrypting.{inputs_file}
use Rattle.heco_texts.specs.Answers.{IsRead, HaveFit}
use Rattle.heco_jobs.specs.Agents.{asking_none}
use Rattle.heco_jobs.specs.Jobs.{Give}
use Rattle.heco_jobs.specs.Products.{Stores, planned}
use Rattle.heco_jobs.specs.Stages.{IsThingRead}
use Rattle.heco_jobs.proofs.ProductLaws.{gives_store}
use Rattle.heco_jobs.proofs.StageLaws.{gathered_on, gathered_stopped, gathered_decided, given_none}
use Rattle.heco_reads.specs.SourceFiles.{IsTextRefusal}
use Rattle.heco_tasks.specs.CircuitTasks.{encrypt_plan, inputs_job}
use Rattle.heco_material.specs.KeyLists.{IsEncMaterial}
use Rattle.heco_nums.specs.declared.preset.Preset.{Preset}
use Rattle.heco_tasks.proofs.encrypt.gather_values.Goals as goal

pub returns-in_err-values : goal.returns-in_err-values
unfolding inputs_job
returns-in_err-values g c = λ agents.
    let q = c.args.preset.now in
    let i = c.args.circuit.now.inputs in
    let o = c.in_err-values.field-0.0 in
    let p = err_from_is_err_and c.from_residual.result c.from_residual.ensures.1 in
    rw (p.1, p.2) (gathered_stopped g.S.Store (texts c.args.words.now) encrypt_plan 4 (IsRead q.t i) (IsTextRefusal q.t i)
    (λ v. Give (asking_none agents (Stores (planned 5 (inputs_file q (lists_of c.args.key.now) c.args.material.now.rows v.rows) ∷ [])))) agents
    c.args.store.now c.read_inputs.new.store o (inr (inr (inr (inl refl))))
    (subst (λ j. IsThingRead g.S.Store (texts c.args.words.now) 4 (IsRead q.t j) (IsTextRefusal q.t j) c.args.store.now c.read_inputs.new.store (Err o)) c.inputs_of-inputs.ensures.inputs c.in_err-values.ensures.read))

pub encrypt_product-requires-clause-fit : goal.encrypt_product-requires-clause-fit
encrypt_product-requires-clause-fit g c =
    let v = c.in_ok-values.values in
    subst (λ q. HaveFit q.t c.args.circuit.now.inputs v.rows) (sym c.requires.key)
    (subst (λ j. HaveFit c.args.preset.now.t j v.rows) c.inputs_of-inputs.ensures.inputs c.in_ok-values.ensures.fit)

pub encrypt_product-requires-clause-within : goal.encrypt_product-requires-clause-within
encrypt_product-requires-clause-within g c =
    subst (λ q. IsEncMaterial q.n q.h q.b (length c.args.circuit.now.inputs) c.args.material.now.rows) (sym c.requires.key) c.requires.within

pub returns-in_err-product : goal.returns-in_err-product
unfolding inputs_job
returns-in_err-product g c = λ agents.
    let q = c.args.preset.now in
    let i = c.args.circuit.now.inputs in
    let v = c.in_ok-values.values in
    let p = err_from_is_err_and c.from_residual-in_err-product.result c.from_residual-in_err-product.ensures.1 in
    rw (p.1, p.2) (gathered_on g.S.Store (texts c.args.words.now) encrypt_plan 4 (IsRead q.t i) (IsTextRefusal q.t i)
    (λ v. Give (asking_none agents (Stores (planned 5 (inputs_file q (lists_of c.args.key.now) c.args.material.now.rows v.rows) ∷ [])))) agents
    c.args.store.now c.read_inputs.new.store c.read_inputs.new.store v _
    (subst (λ j. IsThingRead g.S.Store (texts c.args.words.now) 4 (IsRead q.t j) (IsTextRefusal q.t j) c.args.store.now c.read_inputs.new.store (Ok v)) c.inputs_of-inputs.ensures.inputs c.in_ok-values.ensures.read)
    (gathered_decided g.S.Store (texts c.args.words.now) encrypt_plan _ agents c.read_inputs.new.store _ (given_none encrypt_plan _ agents)))

pub returns : goal.returns
unfolding inputs_job
returns g c = λ agents.
    let q = c.args.preset.now in
    let i = c.args.circuit.now.inputs in
    let v = c.in_ok-values.values in
    let product = c.in_ok-product.product in
    let files = λ (r : Preset). planned 5 (inputs_file r (lists_of c.args.key.now) c.args.material.now.rows v.rows) ∷ [] in
    gathered_on g.S.Store (texts c.args.words.now) encrypt_plan 4 (IsRead q.t i) (IsTextRefusal q.t i)
    (λ v. Give (asking_none agents (Stores (planned 5 (inputs_file q (lists_of c.args.key.now) c.args.material.now.rows v.rows) ∷ [])))) agents
    c.args.store.now c.read_inputs.new.store c.read_inputs.new.store v (Ok product)
    (subst (λ j. IsThingRead g.S.Store (texts c.args.words.now) 4 (IsRead q.t j) (IsTextRefusal q.t j) c.args.store.now c.read_inputs.new.store (Ok v)) c.inputs_of-inputs.ensures.inputs c.in_ok-values.ensures.read)
    (gathered_decided g.S.Store (texts c.args.words.now) encrypt_plan _ agents c.read_inputs.new.store (Ok product)
    (gives_store encrypt_plan (files q) agents product refl refl (subst (λ r. Stores (files r) product) c.requires.key c.in_ok-product.ensures)))
