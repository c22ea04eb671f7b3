use Rattle.std.proofs.Common.{subst, sym, Err}
use Rattle.heco_key_files.specs.KeyFiles.{lists_of}
use Rattle.heco_jobs.specs.Stages.{Settles}
use Rattle.heco_tasks.specs.Running.{HasKeys, IsKeyRefusal}
use Rattle.heco_tasks.proofs.RunLaws.{opens, opens_not}
use Rattle.heco_tasks.proofs.running.judge_keys.Goals as goal

pub returns-in-Ok : goal.returns-in-Ok
returns-in-Ok c = opens c.args.circuit.now c.args.key.now c.input_count.result c.input_count.ensures c.in-Ok.ensures

pub returns-in-Err : goal.returns-in-Err
returns-in-Err c =
    let e = lists_of c.args.key.now in
    subst (λ o. Settles {Thing = Unit {0}} (λ u. HasKeys c.args.circuit.now e) (IsKeyRefusal c.args.circuit.now e) (Err o)) (sym c.answer.ensures)
    (opens_not c.args.circuit.now c.args.key.now c.input_count.result c.input_count.ensures c.in-Err.error c.in-Err.ensures)
