use Rattle.std.proofs.Common.{length, refl, sym, subst, inl, inr, Ok, Err}
use Rattle.std.proofs.lemmas.Result.{err_from_is_err_and}
use Rattle.heco_jobs.specs.Words.{texts}
use Rattle.heco_ciphertext_files.specs.CiphertextFiles.{AreCiphertexts}
use Rattle.heco_ciphertext_files.specs.declared.kind.FileKind.TheVariants.{Cts}
use Rattle.heco_key_files.specs.KeyFiles.{lists_of}
use Rattle.heco_jobs.specs.Agents.{asking_none}
use Rattle.heco_jobs.specs.Jobs.{Give}
use Rattle.heco_jobs.specs.Products.{Prints}
use Rattle.heco_jobs.specs.Stages.{IsThingRead}
use Rattle.heco_jobs.proofs.ProductLaws.{gives_print}
use Rattle.heco_jobs.proofs.StageLaws.{gathered_on, gathered_stopped, gathered_decided, given_none}
use Rattle.heco_reads.specs.CiphertextFiles.{SpellsCiphertexts, IsCiphertextsRefusal}
use Rattle.heco_tasks.specs.MeasureTask.{measure_plan, noise_job, noise_text}
use Rattle.heco_tasks.proofs.measure.gather_inputs.Goals as goal

pub measure_product-requires-clause-inputs : goal.measure_product-requires-clause-inputs
measure_product-requires-clause-inputs g c =
    subst (λ cs. AreCiphertexts c.args.key.now.preset.n (length c.args.circuit.now.inputs) cs) (sym c.as_slice.ensures.value)
    (subst (λ q. AreCiphertexts q.n (length c.args.circuit.now.inputs) c.in_ok-inputs.inputs.items) c.preset.ensures
    (subst (λ m. AreCiphertexts c.preset.result.now.n m c.in_ok-inputs.inputs.items) c.input_count-count.ensures c.in_ok-inputs.ensures.within))

pub returns-in_err-inputs : goal.returns-in_err-inputs
unfolding noise_job
returns-in_err-inputs g c = λ agents.
    let q = c.args.key.now.preset in
    let s = c.args.secret.now.places in
    let e = lists_of c.args.key.now in
    let m = length c.args.circuit.now.inputs in
    let o = c.in_err-inputs.field-0.0 in
    let p = err_from_is_err_and c.from_residual.result c.from_residual.ensures.1 in
    rw (p.1, p.2) (gathered_stopped g.S.Store (texts c.args.words.now) measure_plan 4 (SpellsCiphertexts Cts q m) (IsCiphertextsRefusal 4 Cts q m)
    (λ inputs. Give (asking_none agents (Prints (noise_text q c.args.circuit.now s e inputs)))) agents
    c.args.store.now c.read_ciphertexts.new.store o (inr (inr (inr (inl refl))))
    (subst (λ r. IsThingRead g.S.Store (texts c.args.words.now) 4 (SpellsCiphertexts Cts r m) (IsCiphertextsRefusal 4 Cts r m) c.args.store.now c.read_ciphertexts.new.store (Err o)) c.preset.ensures
    (subst (λ k. IsThingRead g.S.Store (texts c.args.words.now) 4 (SpellsCiphertexts Cts c.preset.result.now k) (IsCiphertextsRefusal 4 Cts c.preset.result.now k) c.args.store.now c.read_ciphertexts.new.store (Err o))
    c.input_count-count.ensures c.in_err-inputs.ensures.read)))

pub returns-in_err-product : goal.returns-in_err-product
unfolding noise_job
returns-in_err-product g c = λ agents.
    let q = c.args.key.now.preset in
    let s = c.args.secret.now.places in
    let e = lists_of c.args.key.now in
    let m = length c.args.circuit.now.inputs in
    let cs = c.in_ok-inputs.inputs.items in
    let p = err_from_is_err_and c.from_residual-in_err-product.result c.from_residual-in_err-product.ensures.1 in
    rw (p.1, p.2) (gathered_on g.S.Store (texts c.args.words.now) measure_plan 4 (SpellsCiphertexts Cts q m) (IsCiphertextsRefusal 4 Cts q m)
    (λ inputs. Give (asking_none agents (Prints (noise_text q c.args.circuit.now s e inputs)))) agents
    c.args.store.now c.read_ciphertexts.new.store c.read_ciphertexts.new.store cs _
    (subst (λ r. IsThingRead g.S.Store (texts c.args.words.now) 4 (SpellsCiphertexts Cts r m) (IsCiphertextsRefusal 4 Cts r m) c.args.store.now c.read_ciphertexts.new.store (Ok cs)) c.preset.ensures
    (subst (λ k. IsThingRead g.S.Store (texts c.args.words.now) 4 (SpellsCiphertexts Cts c.preset.result.now k) (IsCiphertextsRefusal 4 Cts c.preset.result.now k) c.args.store.now c.read_ciphertexts.new.store (Ok cs))
    c.input_count-count.ensures c.in_ok-inputs.ensures.read))
    (gathered_decided g.S.Store (texts c.args.words.now) measure_plan _ agents c.read_ciphertexts.new.store _ (given_none measure_plan _ agents)))

pub returns : goal.returns
unfolding noise_job
returns g c = λ agents.
    let q = c.args.key.now.preset in
    let s = c.args.secret.now.places in
    let e = lists_of c.args.key.now in
    let m = length c.args.circuit.now.inputs in
    let cs = c.in_ok-inputs.inputs.items in
    let product = c.in_ok-product.product in
    gathered_on g.S.Store (texts c.args.words.now) measure_plan 4 (SpellsCiphertexts Cts q m) (IsCiphertextsRefusal 4 Cts q m)
    (λ inputs. Give (asking_none agents (Prints (noise_text q c.args.circuit.now s e inputs)))) agents
    c.args.store.now c.read_ciphertexts.new.store c.read_ciphertexts.new.store cs (Ok product)
    (subst (λ r. IsThingRead g.S.Store (texts c.args.words.now) 4 (SpellsCiphertexts Cts r m) (IsCiphertextsRefusal 4 Cts r m) c.args.store.now c.read_ciphertexts.new.store (Ok cs)) c.preset.ensures
    (subst (λ k. IsThingRead g.S.Store (texts c.args.words.now) 4 (SpellsCiphertexts Cts c.preset.result.now k) (IsCiphertextsRefusal 4 Cts c.preset.result.now k) c.args.store.now c.read_ciphertexts.new.store (Ok cs))
    c.input_count-count.ensures c.in_ok-inputs.ensures.read))
    (gathered_decided g.S.Store (texts c.args.words.now) measure_plan _ agents c.read_ciphertexts.new.store (Ok product)
    (gives_print measure_plan (noise_text q c.args.circuit.now s e cs) agents product refl refl
    (subst (λ ds. Prints (noise_text q c.args.circuit.now s e ds) product) c.as_slice.ensures.value c.in_ok-product.ensures)))
