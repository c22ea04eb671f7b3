use Rattle.std.proofs.Common.{◌≡◌, false, subst, arith, ◌++◌, ◌∷◌, []}
use Rattle.heco_outside.specs.Calls.{HasSet, Logs, call}
use Rattle.heco_outside.specs.declared.store.CallKind.TheVariants.{Write}
use Rattle.heco_jobs.specs.Outsides.{OthersStand}
use Rattle.heco_jobs.specs.Words.{texts}
use Rattle.heco_jobs.proofs.FinishLaws.{refused_by, ends_empty, ends_stopped, ends_later}
use Rattle.heco_jobs.proofs.finishing.+finish.Goals as goal

pub returns-in_default-clause-told : goal.returns-in_default-clause-told
returns-in_default-clause-told g t c = λ told told_out.
    ends_empty (texts c.args.words.now) c.args.text.now c.args.writes.now (g.S.Store.file c.args.store.now) (g.S.Store.calls c.args.store.now) (g.O.Sink.taken c.args.out.now) (g.O.Sink.taken c.print.new.out) (g.O.Sink.shortages c.args.out.now) (g.O.Sink.shortages c.print.new.out) c.print.result
    c.in_default.len_below (c.print.ensures.told told_out)

pub returns-in-Ok-clause-told : goal.returns-in-Ok-clause-told
returns-in-Ok-clause-told g t c = λ told told_out.
    let first = c.first-item.result in
    let name = c.name_of.ensures in
    let set = subst (λ n. HasSet (g.S.Store.file c.args.store.now) n first.bytes (g.S.Store.file c.write.new.self)) name
    (subst (λ b. HasSet (g.S.Store.file c.args.store.now) c.name_of.result.now b (g.S.Store.file c.write.new.self)) c.as_slice.ensures (c.in-Ok.ensures.written told)) in
    let logs = subst (λ n. g.S.Store.calls c.write.new.self ≡ g.S.Store.calls c.args.store.now ++ call Write n false ∷ []) name (c.in-Ok.ensures.logged told) in
    ends_later (texts c.args.words.now) c.args.text.now c.args.writes.now first (g.S.Store.file c.args.store.now) (g.S.Store.file c.write.new.self) (g.S.Store.file c.finish.new.store) (g.S.Store.calls c.args.store.now) (g.S.Store.calls c.write.new.self) (g.S.Store.calls c.finish.new.store)
    (g.O.Sink.taken c.args.out.now) (g.O.Sink.taken c.finish.new.out) (g.O.Sink.shortages c.args.out.now) (g.O.Sink.shortages c.finish.new.out) c.finish.result (omega arith) c.first-item.is set logs (c.finish.ensures.told told told_out)

pub returns-in-Err-clause-told : goal.returns-in-Err-clause-told
returns-in-Err-clause-told g t c = λ told told_out.
    let first = c.first-item.result in
    let name = c.name_of.ensures in
    let others = subst (λ n. OthersStand n (g.S.Store.file c.args.store.now) (g.S.Store.file c.write.new.self)) name (c.in-Err.ensures.others told) in
    let logs = subst (λ n. Logs Write n (g.S.Store.calls c.args.store.now) (g.S.Store.calls c.write.new.self) (refused_by c.in-Err.error)) name (c.in-Err.ensures.logged told) in
    ends_stopped (texts c.args.words.now) c.args.text.now c.args.writes.now first (g.S.Store.file c.args.store.now) (g.S.Store.file c.write.new.self) (g.S.Store.calls c.args.store.now) (g.S.Store.calls c.write.new.self) (g.O.Sink.taken c.args.out.now) (g.O.Sink.shortages c.args.out.now)
    c.in-Err.error c.write_fault.result (omega arith) c.first-item.is c.write_fault.ensures others logs
