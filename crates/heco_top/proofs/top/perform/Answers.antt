use Rattle.std.proofs.Common.{subst}
use Rattle.heco_jobs.specs.Plans.{IsFinishCause}
use Rattle.heco_top.specs.Commands.{plan_of}
use Rattle.heco_top.proofs.RunLaws.{gathered_cause, finished_cause, finished_untouched}
use Rattle.heco_top.proofs.top.perform.Goals as goal

pub returns-in-Ok-clause-cause : goal.returns-in-Ok-clause-cause
returns-in-Ok-clause-cause g c =
    let mid = g.S.Store.faults c.gather.new.store in
    let faults = g.S.Store.faults c.finish.new.store in
    let failures = g.O.Sink.faults c.args.out.now in
    let failed = g.O.Sink.faults c.finish.new.out in
    let product = c.in-Ok.product in
    let h = c.in-Ok.ensures.gathered in
    finished_cause (plan_of c.args.command) product mid faults failures failed (g.S.Store.faults c.args.store.now) c.finish.result h.later h.planned
    (subst (λ ws. IsFinishCause ws product.text mid faults failures failed c.finish.result) c.as_slice.ensures c.finish.ensures.cause)

pub returns-in-Ok-clause-untouched : goal.returns-in-Ok-clause-untouched
returns-in-Ok-clause-untouched g c =
    let mid = g.S.Store.faults c.gather.new.store in
    let faults = g.S.Store.faults c.finish.new.store in
    let failures = g.O.Sink.faults c.args.out.now in
    let failed = g.O.Sink.faults c.finish.new.out in
    let product = c.in-Ok.product in
    let h = c.in-Ok.ensures.gathered in
    finished_untouched (plan_of c.args.command) product mid faults failures failed c.finish.result c.args.out.now c.finish.new.out h.planned
    (subst (λ ws. IsFinishCause ws product.text mid faults failures failed c.finish.result) c.as_slice.ensures c.finish.ensures.cause) c.finish.ensures.silent

pub returns-in-Err-clause-cause : goal.returns-in-Err-clause-cause
returns-in-Err-clause-cause g c =
    let h = c.in-Err.ensures.gathered in
    gathered_cause (plan_of c.args.command) (g.S.Store.faults c.args.store.now) (g.S.Store.faults c.gather.new.store) (g.O.Sink.faults c.args.out.now) c.in-Err.outcome h.cause
