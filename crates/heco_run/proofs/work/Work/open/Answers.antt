use Rattle.std.proofs.Common.{rules, ◌≡◌, length, ap, ◌∙◌, arith}
use Rattle.std.proofs.lemmas.Result.{err_from_is_err_and}
use Rattle.heco_nums.specs.declared.preset.Preset.{Preset}
use Rattle.heco_run.specs.Making.{weighers_of}
use Rattle.heco_run.proofs.Starting.{fresh_work}
use Rattle.heco_run.proofs.work.Work.open.Goals as goal

pub invariant_of-result : goal.invariant_of-result
invariant_of-result c =
    let many : c.len.result ≡ length c.args.ins.items = omega arith in
    let none = rw many at c.in_ok-judge.ensures in
    fresh_work c.args.c.now c.args.e.now c.in_ok-gates.gates.preset c.in_ok-weighers.weighers c.in_ok-board.board c.in_ok-store.store.items c.in_ok-room.room.items c.args.ins.items c.args.workers
    c.preset-valid.ensures.valid.0 (c.in_ok-gates.ensures ∙ c.preset.ensures) (c.in_ok-weighers.ensures ∙ ap (λ (q : Preset). weighers_of q c.args.c.now.vectors) c.preset-2.ensures) c.requires.one_preset c.requires.inputs none c.in_ok-board.ensures c.in_ok-store.ensures c.in_ok-room.ensures

pub returns-in_err-weighers-clause-refusal : goal.returns-in_err-weighers-clause-refusal
returns-in_err-weighers-clause-refusal c = let p = err_from_is_err_and c.from_residual-in_err-weighers.result c.from_residual-in_err-weighers.ensures.1 in rw (p.1, p.2) (search rules)

pub returns-in_err-store-clause-refusal : goal.returns-in_err-store-clause-refusal
returns-in_err-store-clause-refusal c = let p = err_from_is_err_and c.from_residual-in_err-store.result c.from_residual-in_err-store.ensures.1 in rw (p.1, p.2) (search rules)

pub returns-in_err-room-clause-refusal : goal.returns-in_err-room-clause-refusal
returns-in_err-room-clause-refusal c = let p = err_from_is_err_and c.from_residual-in_err-room.result c.from_residual-in_err-room.ensures.1 in rw (p.1, p.2) (search rules)
