use Rattle.std.proofs.Common.{refl, inl, inr}
use Rattle.std.proofs.lemmas.Result.{err_from_is_err_and}
use Rattle.heco_jobs.proofs.StageLaws.{gathered_on, gathered_stopped}
use Rattle.heco_jobs.specs.Words.{texts}
use Rattle.heco_material.specs.KeyLists.{lists_of}
use Rattle.heco_exec.specs.ExecTask.{exec_plan, keys_job, encryptions_job, IsKeyMaterialOf, IsNoKeyMaterialOf}
use Rattle.heco_top.proofs.exec.gather_keys.Goals as goal

pub returns-in_err-k-clause-gathered : goal.returns-in_err-k-clause-gathered
unfolding keys_job
returns-in_err-k-clause-gathered g c = λ s handed left of_source.
    let p = err_from_is_err_and c.from_residual.result c.from_residual.ensures.1 in
    rw (p.1, p.2) (gathered_stopped g.S.Store (texts c.args.words.now) exec_plan 3 (IsKeyMaterialOf s) (IsNoKeyMaterialOf s) (encryptions_job _ s c.args.values.now) _
    c.args.store.now c.read_key_words.new.store c.in_err-k.field-0.0 (inr (inr (inl refl))) (c.in_err-k.ensures.read s of_source.good))

pub returns-clause-gathered : goal.returns-clause-gathered
unfolding keys_job
returns-clause-gathered g c = λ s handed left of_source.
    gathered_on g.S.Store (texts c.args.words.now) exec_plan 3 (IsKeyMaterialOf s) (IsNoKeyMaterialOf s) (encryptions_job _ s c.args.values.now) _
    c.args.store.now c.read_key_words.new.store c.gather_encryptions.new.store (lists_of c.in_ok-k.k) c.gather_encryptions.result (c.in_ok-k.ensures.read s of_source.good)
    (c.gather_encryptions.ensures.gathered s handed left of_source)
