use Rattle.std.proofs.Common.{ℕ, List, refl, sym, subst, inl, inr, Ok, Err}
use Rattle.std.proofs.lemmas.Result.{err_from_is_err_and}
use Rattle.heco_jobs.specs.Words.{texts}
use Rattle.heco_ciphertext_files.specs.declared.kind.FileKind.TheVariants.{Res}
use Rattle.heco_nums.specs.declared.preset.Preset.{Preset}
use Rattle.heco_products.specs.Decrypting.{output_wire_count, outputs_text}
use Rattle.heco_jobs.specs.Agents.{asking_none}
use Rattle.heco_jobs.specs.Jobs.{Give}
use Rattle.heco_jobs.specs.Products.{Prints}
use Rattle.heco_jobs.specs.Stages.{IsThingRead}
use Rattle.heco_jobs.specs.declared.outcome.Outcome.TheVariants.{Memory}
use Rattle.heco_jobs.proofs.ProductLaws.{gives_print}
use Rattle.heco_jobs.proofs.StageLaws.{gathered_on, gathered_stopped, gathered_decided, given_none, read_unbegun}
use Rattle.heco_reads.specs.CiphertextFiles.{SpellsCiphertexts, IsCiphertextsRefusal}
use Rattle.heco_tasks.specs.CircuitTasks.{decrypt_plan, result_job}
use Rattle.heco_ciphertext_files.specs.CiphertextFiles.{AreCiphertexts}
use Rattle.heco_tasks.proofs.decrypt.gather_result.Goals as goal

pub decrypt_product-requires : goal.decrypt_product-requires
decrypt_product-requires g c =
    subst (λ cs. AreCiphertexts c.args.key.now.preset.n (output_wire_count c.args.circuit.now) cs) (sym c.as_slice.ensures.value)
    (subst (λ q. AreCiphertexts q.n (output_wire_count c.args.circuit.now) c.in_ok-results.results.items) (sym c.requires)
    (subst (λ m. AreCiphertexts c.args.preset.now.n m c.in_ok-results.results.items) c.in_ok-count.ensures c.in_ok-results.ensures.within))

pub returns-in_err-count : goal.returns-in_err-count
unfolding result_job
returns-in_err-count g c = λ agents.
    let q = c.args.preset.now in
    let n = output_wire_count c.args.circuit.now in
    let p = err_from_is_err_and c.from_residual.result c.from_residual.ensures.1 in
    rw (p.1, p.2) (gathered_stopped g.S.Store (texts c.args.words.now) decrypt_plan 3 (SpellsCiphertexts Res q n) (IsCiphertextsRefusal 3 Res q n) (λ cs. Give (asking_none agents (Prints (outputs_text q c.args.circuit.now c.args.key.now.places cs)))) agents
    c.args.store.now c.args.store.now Memory (inr (inr (inl refl))) (read_unbegun g.S.Store (texts c.args.words.now) 3 (SpellsCiphertexts Res q n) (IsCiphertextsRefusal 3 Res q n) c.args.store.now))

pub returns-in_err-results : goal.returns-in_err-results
unfolding result_job
returns-in_err-results g c = λ agents.
    let q = c.args.preset.now in
    let n = output_wire_count c.args.circuit.now in
    let o = c.in_err-results.field-0.0 in
    let p = err_from_is_err_and c.from_residual-in_err-results.result c.from_residual-in_err-results.ensures.1 in
    rw (p.1, p.2) (gathered_stopped g.S.Store (texts c.args.words.now) decrypt_plan 3 (SpellsCiphertexts Res q n) (IsCiphertextsRefusal 3 Res q n) (λ cs. Give (asking_none agents (Prints (outputs_text q c.args.circuit.now c.args.key.now.places cs)))) agents
    c.args.store.now c.read_ciphertexts.new.store o (inr (inr (inl refl)))
    (subst (λ m. IsThingRead g.S.Store (texts c.args.words.now) 3 (SpellsCiphertexts Res q m) (IsCiphertextsRefusal 3 Res q m) c.args.store.now c.read_ciphertexts.new.store (Err o)) c.in_ok-count.ensures c.in_err-results.ensures.read))

pub returns-in_err-product : goal.returns-in_err-product
unfolding result_job
returns-in_err-product g c = λ agents.
    let q = c.args.preset.now in
    let n = output_wire_count c.args.circuit.now in
    let cs = c.in_ok-results.results.items in
    let p = err_from_is_err_and c.from_residual-in_err-product.result c.from_residual-in_err-product.ensures.1 in
    rw (p.1, p.2) (gathered_on g.S.Store (texts c.args.words.now) decrypt_plan 3 (SpellsCiphertexts Res q n) (IsCiphertextsRefusal 3 Res q n) (λ cs. Give (asking_none agents (Prints (outputs_text q c.args.circuit.now c.args.key.now.places cs)))) agents
    c.args.store.now c.read_ciphertexts.new.store c.read_ciphertexts.new.store cs _
    (subst (λ m. IsThingRead g.S.Store (texts c.args.words.now) 3 (SpellsCiphertexts Res q m) (IsCiphertextsRefusal 3 Res q m) c.args.store.now c.read_ciphertexts.new.store (Ok cs)) c.in_ok-count.ensures c.in_ok-results.ensures.read)
    (gathered_decided g.S.Store (texts c.args.words.now) decrypt_plan _ agents c.read_ciphertexts.new.store _ (given_none decrypt_plan _ agents)))

pub returns : goal.returns
unfolding result_job
returns g c = λ agents.
    let q = c.args.preset.now in
    let n = output_wire_count c.args.circuit.now in
    let cs = c.in_ok-results.results.items in
    let product = c.in_ok-product.product in
    let text = λ (r : Preset) (ds : List (List (List ℕ))). outputs_text r c.args.circuit.now c.args.key.now.places ds in
    gathered_on g.S.Store (texts c.args.words.now) decrypt_plan 3 (SpellsCiphertexts Res q n) (IsCiphertextsRefusal 3 Res q n) (λ cs. Give (asking_none agents (Prints (outputs_text q c.args.circuit.now c.args.key.now.places cs)))) agents
    c.args.store.now c.read_ciphertexts.new.store c.read_ciphertexts.new.store cs (Ok product)
    (subst (λ m. IsThingRead g.S.Store (texts c.args.words.now) 3 (SpellsCiphertexts Res q m) (IsCiphertextsRefusal 3 Res q m) c.args.store.now c.read_ciphertexts.new.store (Ok cs)) c.in_ok-count.ensures c.in_ok-results.ensures.read)
    (gathered_decided g.S.Store (texts c.args.words.now) decrypt_plan _ agents c.read_ciphertexts.new.store (Ok product)
    (gives_print decrypt_plan (text q cs) agents product refl refl
    (subst (λ r. Prints (text r cs) product) c.requires (subst (λ ds. Prints (text c.args.key.now.preset ds) product) c.as_slice.ensures.value c.in_ok-product.ensures))))
