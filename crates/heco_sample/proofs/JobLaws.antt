-- The job of `sample` reads nothing and gives what is planned.
use Rattle.std.proofs.Common.{ℕ, refl}
use Rattle.heco_jobs.proofs.DoneLaws.{Tells}
use Rattle.heco_jobs.proofs.PlanLaws.{Plans, fits_print}
use Rattle.heco_jobs.specs.Agents.{Agents}
use Rattle.heco_jobs.specs.Plans.{FitsPlan}
use Rattle.heco_jobs.specs.declared.product.Product.{Product}
use Rattle.heco_sample.specs.SampleTask.{Samples, sample_plan, sample_job}

pub fits_sample : (agents left : Agents) (seed : ℕ) (p : Product) → Samples agents seed p left → FitsPlan sample_plan p
fits_sample agents left seed p h = fits_print sample_plan _ p refl refl h.prints

pub plans_sample : (agents : Agents) (seed : ℕ) → Plans (sample_job agents seed) sample_plan.reads sample_plan
unfolding Plans sample_job
plans_sample agents seed = λ p left h. fits_sample agents left seed p h

pub tells_sample : (agents : Agents) (seed : ℕ) → Tells (sample_job agents seed)
unfolding Tells sample_job
tells_sample agents seed = tt
