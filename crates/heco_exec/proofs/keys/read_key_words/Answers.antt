use Rattle.std.proofs.Common.{◌≤◌, ◌∙◌, length, sym, subst, Ok, Err}
use Rattle.std.proofs.lemmas.Result.{err_from_is_err_and}
use Rattle.heco_jobs.proofs.StageLaws.{read_unbegun}
use Rattle.heco_jobs.specs.Words.{texts}
use Rattle.heco_material.specs.KeyLists.{lists_of}
use Rattle.heco_tasks.proofs.KeyLaws.{few_turns}
use Rattle.heco_exec.proofs.KeyLaws.{keys_for_circuit, keys_judged}
use Rattle.heco_exec.specs.ExecTask.{IsKeyMaterialOf, IsNoKeyMaterialIn}
use Rattle.heco_exec.proofs.keys.read_key_words.Goals as goal

pub read_material-requires : goal.read_material-requires
read_material-requires g c = subst (λ turns. length turns ≤ 511) (sym c.in_ok-needs.ensures.turns) (few_turns c.args.circuit.now)

pub returns-in_err-needs-clause-read : goal.returns-in_err-needs-clause-read
returns-in_err-needs-clause-read g c = λ s good.
    let p = err_from_is_err_and c.from_residual.result c.from_residual.ensures.1 in
    rw (p.1, p.2) (read_unbegun g.S.Store (texts c.args.words.now) c.args.which (IsKeyMaterialOf s) (IsNoKeyMaterialIn c.args.which s) c.args.store.now)

pub returns-in_err-k-clause-read : goal.returns-in_err-k-clause-read
returns-in_err-k-clause-read g c = λ s good.
    let p = err_from_is_err_and c.from_residual-in_err-k.result c.from_residual-in_err-k.ensures.1 in
    rw (p.1, p.2) (keys_judged g.S.Store (texts c.args.words.now) s c.args.circuit.now good c.preset.result.now c.args.store.now c.read_material.new.store c.args.which c.in_ok-needs.needs (Err c.in_err-k.field-0.0)
    c.preset.ensures.whole c.in_ok-needs.ensures.relin c.in_ok-needs.ensures.turns c.in_err-k.ensures.read)

pub returns-clause-kept : goal.returns-clause-kept
returns-clause-kept g c =
    let kept = c.in_ok-k.ensures.kept in
    keys_for_circuit c.args.circuit.now c.preset.result.now c.in_ok-k.k kept.0 c.preset.ensures.whole (kept.1 ∙ c.in_ok-needs.ensures.relin) (kept.2 ∙ c.in_ok-needs.ensures.turns) c.in_ok-k.ensures.within

pub returns-clause-read : goal.returns-clause-read
returns-clause-read g c = λ s good.
    keys_judged g.S.Store (texts c.args.words.now) s c.args.circuit.now good c.preset.result.now c.args.store.now c.read_material.new.store c.args.which c.in_ok-needs.needs (Ok (lists_of c.in_ok-k.k))
    c.preset.ensures.whole c.in_ok-needs.ensures.relin c.in_ok-needs.ensures.turns c.in_ok-k.ensures.read
