use Rattle.std.proofs.Common.{Ok}
use Rattle.std.proofs.lemmas.Result.{err_from_is_err_and}
use Rattle.heco_jobs.proofs.StageLaws.{gathered_decided, given, given_none}
use Rattle.heco_jobs.specs.Jobs.{Give}
use Rattle.heco_jobs.specs.Words.{texts}
use Rattle.heco_sample.proofs.JobLaws.{fits_sample}
use Rattle.heco_sample.specs.SampleTask.{Samples, sample_plan, sample_job}
use Rattle.heco_top.proofs.sample.gather_sample.Goals as goal

pub returns-in_err-product-clause-gathered : goal.returns-in_err-product-clause-gathered
unfolding sample_job
returns-in_err-product-clause-gathered g c =
    let p = err_from_is_err_and c.from_residual.result c.from_residual.ensures.1 in
    rw (p.1, p.2) (gathered_decided g.S.Store (texts c.args._words.now) sample_plan (Give (Samples _ c.args.seed)) _ c.args._store.now _ (given_none sample_plan (Samples _ c.args.seed) _))

pub returns-clause-gathered : goal.returns-clause-gathered
unfolding sample_job
returns-clause-gathered g c =
    let product = c.in_ok-product.product in
    gathered_decided g.S.Store (texts c.args._words.now) sample_plan (Give (Samples _ c.args.seed)) _ c.args._store.now (Ok product)
    (given sample_plan (Samples _ c.args.seed) _ (Ok product) (λ p h. fits_sample _ _ c.args.seed p h) c.in_ok-product.ensures.samples)
