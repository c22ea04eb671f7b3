use Rattle.std.proofs.Common.{refl, inl, inr, subst, Ok, Err}
use Rattle.std.proofs.lemmas.Result.{err_from_is_err_and}
use Rattle.heco_jobs.proofs.StageLaws.{gathered_on, gathered_stopped}
use Rattle.heco_jobs.specs.Words.{texts}
use Rattle.heco_reads.specs.SourceFiles.{IsTextRefusal, IsValuesRefusal}
use Rattle.heco_sources.specs.Inputs.{IsInput}
use Rattle.heco_texts.specs.Answers.{HaveFit}
use Rattle.heco_exec.proofs.KeyLaws.{inputs_judged}
use Rattle.heco_pair.specs.PairTask.{pair_plan, first_job, second_job}
use Rattle.heco_top.proofs.pair.gather_first.Goals as goal

pub gather_second-requires : goal.gather_second-requires
gather_second-requires g c =
    let v = c.in_ok-first.first in
    subst (λ q. HaveFit q.t c.args.circuit.now.inputs v.rows) c.preset-preset.ensures.whole
    (subst (λ shapes. HaveFit c.preset-preset.result.now.t shapes v.rows) c.inputs_of.ensures.inputs c.in_ok-first.ensures.fit)

pub returns-in_err-first-clause-gathered : goal.returns-in_err-first-clause-gathered
unfolding first_job
returns-in_err-first-clause-gathered g c = λ s handed left of_source.
    let o = c.in_err-first.field-0.0 in
    let p = err_from_is_err_and c.from_residual.result c.from_residual.ensures.1 in
    rw (p.1, p.2) (gathered_stopped g.S.Store (texts c.args.words.now) pair_plan 2 (IsInput s) (IsValuesRefusal s) (second_job _ s) _
    c.args.store.now c.read_inputs.new.store o (inr (inl refl))
    (inputs_judged g.S.Store (texts c.args.words.now) s c.args.circuit.now of_source.good c.preset-preset.result.now c.args.store.now c.read_inputs.new.store 2 IsTextRefusal c.inputs_of.result.now (Err o)
    c.preset-preset.ensures.preset c.inputs_of.ensures.inputs c.in_err-first.ensures.read))

pub returns-clause-gathered : goal.returns-clause-gathered
unfolding first_job
returns-clause-gathered g c = λ s handed left of_source.
    let v = c.in_ok-first.first in
    gathered_on g.S.Store (texts c.args.words.now) pair_plan 2 (IsInput s) (IsValuesRefusal s) (second_job _ s) _
    c.args.store.now c.read_inputs.new.store c.gather_second.new.store v c.gather_second.result
    (inputs_judged g.S.Store (texts c.args.words.now) s c.args.circuit.now of_source.good c.preset-preset.result.now c.args.store.now c.read_inputs.new.store 2 IsTextRefusal c.inputs_of.result.now (Ok v)
    c.preset-preset.ensures.preset c.inputs_of.ensures.inputs c.in_ok-first.ensures.read)
    (c.gather_second.ensures.gathered s handed left of_source)
