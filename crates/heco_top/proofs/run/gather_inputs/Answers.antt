use Rattle.std.proofs.Common.{◌∷◌, [], length, refl, subst, inl, inr, Ok, Err}
use Rattle.std.proofs.lemmas.Result.{err_from_is_err_and}
use Rattle.heco_ciphertext_files.specs.CiphertextFiles.{AreCiphertexts}
use Rattle.heco_ciphertext_files.specs.declared.kind.FileKind.TheVariants.{Cts}
use Rattle.heco_key_files.specs.KeyFiles.{lists_of}
use Rattle.heco_products.specs.Results.{results_file}
use Rattle.heco_jobs.specs.Agents.{agents, picking}
use Rattle.heco_jobs.specs.Jobs.{Give}
use Rattle.heco_jobs.specs.Products.{planned}
use Rattle.heco_jobs.specs.Stages.{IsThingRead}
use Rattle.heco_jobs.specs.Words.{texts}
use Rattle.heco_jobs.proofs.PlanLaws.{fits_store}
use Rattle.heco_jobs.proofs.StageLaws.{gathered_on, gathered_stopped, gathered_decided, given, given_none}
use Rattle.heco_reads.specs.CiphertextFiles.{SpellsCiphertexts, IsCiphertextsRefusal}
use Rattle.heco_tasks.specs.CircuitTasks.{run_plan, ciphertexts_job, Runs}
use Rattle.heco_tasks.proofs.RunLaws.{left_alone}
use Rattle.heco_top.proofs.run.gather_inputs.Goals as goal

pub run_product-requires-clause-inputs : goal.run_product-requires-clause-inputs
run_product-requires-clause-inputs g c =
    subst (λ q. AreCiphertexts q.n (length c.args.circuit.now.inputs) c.in_ok-inputs.inputs.items) c.preset.ensures
    (subst (λ m. AreCiphertexts c.preset.result.now.n m c.in_ok-inputs.inputs.items) c.input_count-count.ensures c.in_ok-inputs.ensures.within)

pub returns-in_err-inputs-clause-gathered : goal.returns-in_err-inputs-clause-gathered
unfolding ciphertexts_job
returns-in_err-inputs-clause-gathered g c = λ passes.
    let was = goal.Picker-dyn g (c.args.picker.now.vtable, c.args.picker.now.value) in
    let from = agents (picking (was.rule c.args.picker.now.value) (was.state c.args.picker.now.value)) passes in
    let q = c.args.key.now.preset in
    let e = lists_of c.args.key.now in
    let m = length c.args.circuit.now.inputs in
    let o = c.in_err-inputs.field-0.0 in
    let p = err_from_is_err_and c.from_residual.result c.from_residual.ensures.1 in
    rw (p.1, p.2) (gathered_stopped g.S.Store (texts c.args.words.now) run_plan 3 (SpellsCiphertexts Cts q m) (IsCiphertextsRefusal 3 Cts q m) (λ inputs. Give (Runs from q c.args.circuit.now e inputs)) from
    c.args.store.now c.read_ciphertexts.new.store o (inr (inr (inl refl)))
    (subst (λ r. IsThingRead g.S.Store (texts c.args.words.now) 3 (SpellsCiphertexts Cts r m) (IsCiphertextsRefusal 3 Cts r m) c.args.store.now c.read_ciphertexts.new.store (Err o)) c.preset.ensures
    (subst (λ k. IsThingRead g.S.Store (texts c.args.words.now) 3 (SpellsCiphertexts Cts c.preset.result.now k) (IsCiphertextsRefusal 3 Cts c.preset.result.now k) c.args.store.now c.read_ciphertexts.new.store (Err o))
    c.input_count-count.ensures c.in_err-inputs.ensures.read)))

pub returns-in_err-inputs-clause-left : goal.returns-in_err-inputs-clause-left
returns-in_err-inputs-clause-left g c =
    let p = err_from_is_err_and c.from_residual.result c.from_residual.ensures.1 in
    rw (p.1, p.2) (left_alone c.in_err-inputs.field-0.0 c.args.picker.now)

pub returns-in_err-product-clause-gathered : goal.returns-in_err-product-clause-gathered
unfolding ciphertexts_job
returns-in_err-product-clause-gathered g c = λ passes.
    let was = goal.Picker-dyn g (c.args.picker.now.vtable, c.args.picker.now.value) in
    let now = goal.Picker-dyn g (c.run_product.new.picker.vtable, c.run_product.new.picker.value) in
    let from = agents (picking (was.rule c.args.picker.now.value) (was.state c.args.picker.now.value)) passes in
    let to = agents (picking (now.rule c.run_product.new.picker.value) (now.state c.run_product.new.picker.value)) passes in
    let q = c.args.key.now.preset in
    let e = lists_of c.args.key.now in
    let m = length c.args.circuit.now.inputs in
    let cs = c.in_ok-inputs.inputs.items in
    let p = err_from_is_err_and c.from_residual-in_err-product.result c.from_residual-in_err-product.ensures.1 in
    rw (p.1, p.2) (gathered_on g.S.Store (texts c.args.words.now) run_plan 3 (SpellsCiphertexts Cts q m) (IsCiphertextsRefusal 3 Cts q m) (λ inputs. Give (Runs from q c.args.circuit.now e inputs)) to
    c.args.store.now c.read_ciphertexts.new.store c.read_ciphertexts.new.store cs _
    (subst (λ r. IsThingRead g.S.Store (texts c.args.words.now) 3 (SpellsCiphertexts Cts r m) (IsCiphertextsRefusal 3 Cts r m) c.args.store.now c.read_ciphertexts.new.store (Ok cs)) c.preset.ensures
    (subst (λ k. IsThingRead g.S.Store (texts c.args.words.now) 3 (SpellsCiphertexts Cts c.preset.result.now k) (IsCiphertextsRefusal 3 Cts c.preset.result.now k) c.args.store.now c.read_ciphertexts.new.store (Ok cs))
    c.input_count-count.ensures c.in_ok-inputs.ensures.read))
    (gathered_decided g.S.Store (texts c.args.words.now) run_plan _ to c.read_ciphertexts.new.store _ (given_none run_plan _ to)))

pub returns-clause-gathered : goal.returns-clause-gathered
unfolding ciphertexts_job
returns-clause-gathered g c = λ passes.
    let was = goal.Picker-dyn g (c.args.picker.now.vtable, c.args.picker.now.value) in
    let now = goal.Picker-dyn g (c.run_product.new.picker.vtable, c.run_product.new.picker.value) in
    let from = agents (picking (was.rule c.args.picker.now.value) (was.state c.args.picker.now.value)) passes in
    let to = agents (picking (now.rule c.run_product.new.picker.value) (now.state c.run_product.new.picker.value)) passes in
    let q = c.args.key.now.preset in
    let e = lists_of c.args.key.now in
    let m = length c.args.circuit.now.inputs in
    let cs = c.in_ok-inputs.inputs.items in
    let product = c.in_ok-product.product in
    gathered_on g.S.Store (texts c.args.words.now) run_plan 3 (SpellsCiphertexts Cts q m) (IsCiphertextsRefusal 3 Cts q m) (λ inputs. Give (Runs from q c.args.circuit.now e inputs)) to
    c.args.store.now c.read_ciphertexts.new.store c.read_ciphertexts.new.store cs (Ok product)
    (subst (λ r. IsThingRead g.S.Store (texts c.args.words.now) 3 (SpellsCiphertexts Cts r m) (IsCiphertextsRefusal 3 Cts r m) c.args.store.now c.read_ciphertexts.new.store (Ok cs)) c.preset.ensures
    (subst (λ k. IsThingRead g.S.Store (texts c.args.words.now) 3 (SpellsCiphertexts Cts c.preset.result.now k) (IsCiphertextsRefusal 3 Cts c.preset.result.now k) c.args.store.now c.read_ciphertexts.new.store (Ok cs))
    c.input_count-count.ensures c.in_ok-inputs.ensures.read))
    (gathered_decided g.S.Store (texts c.args.words.now) run_plan _ to c.read_ciphertexts.new.store (Ok product)
    (given run_plan (Runs from q c.args.circuit.now e cs) to (Ok product) (λ o h. fits_store run_plan (planned 4 (results_file q c.args.circuit.now e cs) ∷ []) o refl refl h.0)
    (c.in_ok-product.ensures.stores, (c.in_ok-product.ensures.leads, refl))))
