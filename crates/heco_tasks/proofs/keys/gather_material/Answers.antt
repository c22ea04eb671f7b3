use Rattle.std.proofs.Common.{◌∙◌, length, refl, sym, ap, subst, inl, inr, Ok, Err}
use Rattle.std.proofs.lemmas.Result.{err_from_is_err_and}
use Rattle.heco_jobs.specs.Words.{texts}
use Rattle.std.specs.Prelude.{◌≤◌}
use Rattle.heco_circuit.specs.Needs.{needed_keys}
use Rattle.heco_circuit.specs.Plans.{Plan as Circuit}
use Rattle.heco_material.specs.KeyLists.{KeyLists, lists_of}
use Rattle.heco_nums.specs.declared.preset.Preset.{Preset}
use Rattle.heco_products.specs.KeyProducts.{secret_file, evaluation_file}
use Rattle.heco_jobs.specs.Agents.{Agents, asking_none}
use Rattle.heco_jobs.specs.Jobs.{Job, Give}
use Rattle.heco_jobs.specs.Products.{Stores}
use Rattle.heco_jobs.specs.Stages.{IsThingRead}
use Rattle.heco_jobs.specs.declared.outcome.Outcome.TheVariants.{Memory}
use Rattle.heco_jobs.proofs.ProductLaws.{gives_store}
use Rattle.heco_jobs.proofs.StageLaws.{gathered_on, gathered_stopped, gathered_decided, given_none, read_unbegun}
use Rattle.heco_reads.specs.MaterialFiles.{SpellsKeys, IsKeysRefusal}
use Rattle.heco_tasks.specs.CircuitTasks.{keys_plan, material_job, two_files}
use Rattle.heco_tasks.proofs.KeyLaws.{count_is, few_turns, material_amounts, stored_for}
use Rattle.heco_tasks.proofs.keys.gather_material.Goals as goal

abbrev behind : Agents → Preset → Circuit → KeyLists → Job
behind agents q c = λ k. Give (asking_none agents (Stores (two_files (secret_file q k) (evaluation_file q c k))))

pub read_material-requires : goal.read_material-requires
read_material-requires g c = subst (λ turns. length turns ≤ 511) (sym c.in_ok-needs.ensures.turns) (few_turns c.args.circuit.now)

pub keys_product-requires-clause-amounts : goal.keys_product-requires-clause-amounts
keys_product-requires-clause-amounts g c =
    let m = c.in_ok-material.material in
    let kept = c.in_ok-material.ensures.kept in
    material_amounts c.args.circuit.now m.preset m.needs.turns (ap (λ z. z.id) kept.0 ∙ c.requires) (kept.2 ∙ c.in_ok-needs.ensures.turns)

pub returns-in_err-needs : goal.returns-in_err-needs
unfolding material_job
returns-in_err-needs g c = λ agents.
    let q = c.args.preset.now in
    let n = needed_keys c.args.circuit.now in
    let p = err_from_is_err_and c.from_residual.result c.from_residual.ensures.1 in
    rw (p.1, p.2) (gathered_stopped g.S.Store (texts c.args.words.now) keys_plan 2 (SpellsKeys q n) (IsKeysRefusal 2 q n) (behind agents q c.args.circuit.now) agents
    c.args.store.now c.args.store.now Memory (inr (inl refl)) (read_unbegun g.S.Store (texts c.args.words.now) 2 (SpellsKeys q n) (IsKeysRefusal 2 q n) c.args.store.now))

pub returns-in_err-material : goal.returns-in_err-material
unfolding material_job
returns-in_err-material g c = λ agents.
    let q = c.args.preset.now in
    let n = needed_keys c.args.circuit.now in
    let o = c.in_err-material.field-0.0 in
    let count = count_is c.args.circuit.now c.in_ok-needs.needs c.in_ok-needs.ensures.relin c.in_ok-needs.ensures.turns in
    let p = err_from_is_err_and c.from_residual-in_err-material.result c.from_residual-in_err-material.ensures.1 in
    rw (p.1, p.2) (gathered_stopped g.S.Store (texts c.args.words.now) keys_plan 2 (SpellsKeys q n) (IsKeysRefusal 2 q n) (behind agents q c.args.circuit.now) agents
    c.args.store.now c.read_material.new.store o (inr (inl refl))
    (subst (λ m. IsThingRead g.S.Store (texts c.args.words.now) 2 (SpellsKeys q m) (IsKeysRefusal 2 q m) c.args.store.now c.read_material.new.store (Err o)) count c.in_err-material.ensures.read))

pub returns-in_err-product : goal.returns-in_err-product
unfolding material_job
returns-in_err-product g c = λ agents.
    let q = c.args.preset.now in
    let n = needed_keys c.args.circuit.now in
    let k = lists_of c.in_ok-material.material in
    let count = count_is c.args.circuit.now c.in_ok-needs.needs c.in_ok-needs.ensures.relin c.in_ok-needs.ensures.turns in
    let p = err_from_is_err_and c.from_residual-in_err-product.result c.from_residual-in_err-product.ensures.1 in
    rw (p.1, p.2) (gathered_on g.S.Store (texts c.args.words.now) keys_plan 2 (SpellsKeys q n) (IsKeysRefusal 2 q n) (behind agents q c.args.circuit.now) agents
    c.args.store.now c.read_material.new.store c.read_material.new.store k _
    (subst (λ m. IsThingRead g.S.Store (texts c.args.words.now) 2 (SpellsKeys q m) (IsKeysRefusal 2 q m) c.args.store.now c.read_material.new.store (Ok k)) count c.in_ok-material.ensures.read)
    (gathered_decided g.S.Store (texts c.args.words.now) keys_plan (behind agents q c.args.circuit.now k) agents c.read_material.new.store _ (given_none keys_plan _ agents)))

pub returns : goal.returns
unfolding material_job
returns g c = λ agents.
    let q = c.args.preset.now in
    let circuit = c.args.circuit.now in
    let n = needed_keys circuit in
    let m = c.in_ok-material.material in
    let k = lists_of m in
    let kept = c.in_ok-material.ensures.kept in
    let count = count_is circuit c.in_ok-needs.needs c.in_ok-needs.ensures.relin c.in_ok-needs.ensures.turns in
    let stored = stored_for circuit q m c.in_ok-product.product kept.0 (kept.1 ∙ c.in_ok-needs.ensures.relin) (kept.2 ∙ c.in_ok-needs.ensures.turns) c.in_ok-product.ensures in
    gathered_on g.S.Store (texts c.args.words.now) keys_plan 2 (SpellsKeys q n) (IsKeysRefusal 2 q n) (behind agents q circuit) agents
    c.args.store.now c.read_material.new.store c.read_material.new.store k (Ok c.in_ok-product.product)
    (subst (λ x. IsThingRead g.S.Store (texts c.args.words.now) 2 (SpellsKeys q x) (IsKeysRefusal 2 q x) c.args.store.now c.read_material.new.store (Ok k)) count c.in_ok-material.ensures.read)
    (gathered_decided g.S.Store (texts c.args.words.now) keys_plan (behind agents q circuit k) agents c.read_material.new.store (Ok c.in_ok-product.product)
    (gives_store keys_plan (two_files (secret_file q k) (evaluation_file q circuit k)) agents c.in_ok-product.product refl refl stored))
