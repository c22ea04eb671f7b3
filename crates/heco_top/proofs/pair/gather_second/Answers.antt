use Rattle.std.proofs.Common.{refl, inl, inr, subst, Ok, Err}
use Rattle.std.proofs.lemmas.Result.{err_from_is_err_and}
use Rattle.heco_jobs.proofs.StageLaws.{gathered_on, gathered_stopped}
use Rattle.heco_jobs.specs.Words.{texts}
use Rattle.heco_reads.specs.SourceFiles.{IsSecondRefusal, IsSecondTextRefusal}
use Rattle.heco_sources.specs.Inputs.{IsInput}
use Rattle.heco_texts.specs.Answers.{HaveFit}
use Rattle.heco_exec.proofs.KeyLaws.{inputs_judged}
use Rattle.heco_pair.specs.PairTask.{pair_plan, second_job, keys_job}
use Rattle.heco_top.proofs.pair.gather_second.Goals as goal

pub gather_keys-requires-clause-second : goal.gather_keys-requires-clause-second
gather_keys-requires-clause-second g c =
    let v = c.in_ok-second.second in
    subst (λ q. HaveFit q.t c.args.circuit.now.inputs v.rows) c.preset-preset.ensures.whole
    (subst (λ shapes. HaveFit c.preset-preset.result.now.t shapes v.rows) c.inputs_of.ensures.inputs c.in_ok-second.ensures.fit)

pub returns-in_err-second-clause-gathered : goal.returns-in_err-second-clause-gathered
unfolding second_job
returns-in_err-second-clause-gathered g c = λ s handed left of_source.
    let o = c.in_err-second.field-0.0 in
    let p = err_from_is_err_and c.from_residual.result c.from_residual.ensures.1 in
    rw (p.1, p.2) (gathered_stopped g.S.Store (texts c.args.words.now) pair_plan 3 (IsInput s) (IsSecondRefusal s) (keys_job _ s c.args.first.now) _
    c.args.store.now c.read_second_inputs.new.store o (inr (inr (inl refl)))
    (inputs_judged g.S.Store (texts c.args.words.now) s c.args.circuit.now of_source.good c.preset-preset.result.now c.args.store.now c.read_second_inputs.new.store 3 IsSecondTextRefusal c.inputs_of.result.now (Err o)
    c.preset-preset.ensures.preset c.inputs_of.ensures.inputs c.in_err-second.ensures.read))

pub returns-clause-gathered : goal.returns-clause-gathered
unfolding second_job
returns-clause-gathered g c = λ s handed left of_source.
    let v = c.in_ok-second.second in
    gathered_on g.S.Store (texts c.args.words.now) pair_plan 3 (IsInput s) (IsSecondRefusal s) (keys_job _ s c.args.first.now) _
    c.args.store.now c.read_second_inputs.new.store c.gather_keys.new.store v c.gather_keys.result
    (inputs_judged g.S.Store (texts c.args.words.now) s c.args.circuit.now of_source.good c.preset-preset.result.now c.args.store.now c.read_second_inputs.new.store 3 IsSecondTextRefusal c.inputs_of.result.now (Ok v)
    c.preset-preset.ensures.preset c.inputs_of.ensures.inputs c.in_ok-second.ensures.read)
    (c.gather_keys.ensures.gathered s handed left of_source)
