use Rattle.std.proofs.Common.{◌∷◌, [], refl, Ok}
use Rattle.std.proofs.lemmas.Result.{err_from_is_err_and}
use Rattle.heco_circuit.specs.CircuitFormat.{circuit_text}
use Rattle.heco_good.specs.Accepted.{IsAccepted}
use Rattle.heco_jobs.specs.Jobs.{Give}
use Rattle.heco_jobs.specs.Products.{planned}
use Rattle.heco_jobs.proofs.PlanLaws.{fits_store}
use Rattle.heco_jobs.proofs.StageLaws.{decided_on, decided_off, given, given_none}
use Rattle.heco_tasks.specs.Executions.{IsCompileRefusal}
use Rattle.heco_tasks.specs.SourceTasks.{compile_plan, accepted_job, Compiles}
use Rattle.heco_top.proofs.compile.give_circuit.Goals as goal

pub returns-in_err-circuit-clause-decided : goal.returns-in_err-circuit-clause-decided
unfolding accepted_job
returns-in_err-circuit-clause-decided g c = λ picker.
    let s = c.args.typed.now in
    let p = err_from_is_err_and c.from_residual.result c.from_residual.ensures.1 in
    rw (p.1, p.2) (decided_off compile_plan {Thing = Unit {0}} (λ _. IsAccepted s) (IsCompileRefusal s) (λ _. Give (Compiles _ s)) _
    c.in_err-circuit.field-0.0 (λ h. h) c.in_err-circuit.ensures.settled)

pub returns-in_err-product-clause-decided : goal.returns-in_err-product-clause-decided
unfolding accepted_job
returns-in_err-product-clause-decided g c = λ picker.
    let s = c.args.typed.now in
    let p = err_from_is_err_and c.from_residual-in_err-product.result c.from_residual-in_err-product.ensures.1 in
    rw (p.1, p.2) (decided_on compile_plan {Thing = Unit {0}} (λ _. IsAccepted s) (IsCompileRefusal s) (λ _. Give (Compiles _ s)) _
    tt _ c.in_ok-circuit.ensures.settled (given_none compile_plan _ _))

pub returns-clause-decided : goal.returns-clause-decided
unfolding accepted_job
returns-clause-decided g c = λ picker.
    let s = c.args.typed.now in
    let circuit = c.in_ok-circuit.circuit in
    let product = c.in_ok-product.product in
    decided_on compile_plan {Thing = Unit {0}} (λ _. IsAccepted s) (IsCompileRefusal s) (λ _. Give (Compiles _ s)) _
    tt (Ok product) c.in_ok-circuit.ensures.settled
    (given compile_plan (Compiles _ s) _ (Ok product) (λ q h. fits_store compile_plan (planned 2 (circuit_text h.circuit) ∷ []) q refl refl h.stores)
    (record { circuit = circuit; of_source = c.in_ok-circuit.ensures.circuit; picker = refl; stores = c.in_ok-product.ensures }))
