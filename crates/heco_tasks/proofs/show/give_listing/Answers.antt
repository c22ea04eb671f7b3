use Rattle.std.proofs.Common.{refl, subst}
use Rattle.std.proofs.lemmas.Result.{err_from_is_err_and}
use Rattle.heco_listing.specs.Listings.{listing_of}
use Rattle.heco_jobs.specs.Products.{Prints}
use Rattle.heco_jobs.proofs.ProductLaws.{gives_print}
use Rattle.heco_jobs.proofs.StageLaws.{given_none}
use Rattle.heco_tasks.specs.CircuitTasks.{show_plan, shown_job}
use Rattle.heco_tasks.proofs.show.give_listing.Goals as goal

pub returns-in_err-text : goal.returns-in_err-text
unfolding shown_job
returns-in_err-text c = λ agents.
    let p = err_from_is_err_and c.from_residual.result c.from_residual.ensures.1 in
    rw (p.1, p.2) (given_none show_plan _ agents)

pub returns : goal.returns
unfolding shown_job
returns c = λ agents.
    gives_print show_plan (listing_of c.args.circuit.now) agents c.printing.result refl refl (subst (λ t. Prints t c.printing.result) c.in_ok-text.ensures c.printing.ensures)
