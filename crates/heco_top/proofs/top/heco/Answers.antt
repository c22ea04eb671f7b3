use Rattle.heco_jobs.specs.Outsides.{outside}
use Rattle.heco_jobs.specs.Words.{texts}
use Rattle.heco_top.specs.Commands.{command_of}
use Rattle.heco_top.proofs.ExecLaws.{done_executed, words_apart, ok_is_silent}
use Rattle.heco_top.proofs.MeasureLaws.{done_measured, done_within}
use Rattle.heco_top.proofs.PairLaws.{done_paired, pair_words_apart}
use Rattle.heco_top.proofs.PlainLaws.{done_printed}
use Rattle.heco_top.proofs.TopLaws.{ends_as_planned, ends_standing, ends_done, ends_done_as_owed, ready_clear, no_fault}
use Rattle.heco_top.proofs.top.heco.Goals as goal

pub returns-clause-planned : goal.returns-clause-planned
returns-clause-planned g c = λ told told_out.
    ends_as_planned (texts c.args.words.now) _ _ (outside g.S.Store g.O.Sink c.args.store.now c.args.out.now) (outside g.S.Store g.O.Sink c.answer-outcome.new.store c.answer-outcome.new.out)
    (command_of (texts c.args.words.now)) c.answer-outcome.result (c.answer-outcome.ensures.told told told_out)

pub returns-clause-done : goal.returns-clause-done
returns-clause-done g c = λ told told_out.
    ends_done_as_owed (texts c.args.words.now) _ _ (outside g.S.Store g.O.Sink c.args.store.now c.args.out.now) (outside g.S.Store g.O.Sink c.answer-outcome.new.store c.answer-outcome.new.out)
    (command_of (texts c.args.words.now)) c.answer-outcome.result (c.answer-outcome.ensures.told told told_out)

pub returns-clause-plain : goal.returns-clause-plain
returns-clause-plain g c = λ told told_out.
    done_printed (texts c.args.words.now) _ _ (outside g.S.Store g.O.Sink c.args.store.now c.args.out.now) (outside g.S.Store g.O.Sink c.answer-outcome.new.store c.answer-outcome.new.out)
    (command_of (texts c.args.words.now)) c.answer-outcome.result (returns-clause-done g c told told_out)

pub returns-clause-headline : goal.returns-clause-headline
returns-clause-headline g c = λ told told_out.
    done_executed (texts c.args.words.now) _ _ _ _ (command_of (texts c.args.words.now)) c.answer-outcome.result (words_apart (texts c.args.words.now)) (returns-clause-done g c told told_out)

pub returns-clause-pair : goal.returns-clause-pair
returns-clause-pair g c = λ told told_out.
    done_paired (texts c.args.words.now) _ _ _ _ (command_of (texts c.args.words.now)) c.answer-outcome.result (pair_words_apart (texts c.args.words.now)) (returns-clause-done g c told told_out)

pub returns-clause-measure : goal.returns-clause-measure
returns-clause-measure g c = λ told told_out.
    done_measured (texts c.args.words.now) _ _ _ _ (command_of (texts c.args.words.now)) c.answer-outcome.result (returns-clause-done g c told told_out)

pub returns-clause-within : goal.returns-clause-within
returns-clause-within g c = λ told told_out.
    done_within (texts c.args.words.now) _ _ _ _ (command_of (texts c.args.words.now)) c.answer-outcome.result (returns-clause-done g c told told_out)

pub returns-clause-silent : goal.returns-clause-silent
returns-clause-silent g c = λ told is.
    ok_is_silent (texts c.args.words.now) _ _ c.answer-outcome.result _ _ _ _ (c.report_outcome.ensures told) is

pub returns-clause-stands : goal.returns-clause-stands
returns-clause-stands g c = λ told told_out.
    ends_standing (texts c.args.words.now) _ _ (outside g.S.Store g.O.Sink c.args.store.now c.args.out.now) (outside g.S.Store g.O.Sink c.answer-outcome.new.store c.answer-outcome.new.out)
    (command_of (texts c.args.words.now)) c.answer-outcome.result (c.answer-outcome.ensures.told told told_out)

pub returns-clause-complete : goal.returns-clause-complete
returns-clause-complete g c = λ told told_out clear none still.
    ends_done (texts c.args.words.now) _ _ (outside g.S.Store g.O.Sink c.args.store.now c.args.out.now) (outside g.S.Store g.O.Sink c.answer-outcome.new.store c.answer-outcome.new.out)
    (command_of (texts c.args.words.now)) c.answer-outcome.result (c.answer-outcome.ensures.told told told_out) clear
    (no_fault (command_of (texts c.args.words.now)) _ _ _ _ c.answer-outcome.result c.answer-outcome.ensures.cause none still)

pub returns-clause-steady : goal.returns-clause-steady
returns-clause-steady g c = λ told told_out steady steady_out ready.
    let quiet = c.answer-outcome.ensures.quiet told steady steady_out ready in (
      ends_done (texts c.args.words.now) _ _ (outside g.S.Store g.O.Sink c.args.store.now c.args.out.now) (outside g.S.Store g.O.Sink c.answer-outcome.new.store c.answer-outcome.new.out)
          (command_of (texts c.args.words.now)) c.answer-outcome.result (c.answer-outcome.ensures.told told told_out)
          (ready_clear (texts c.args.words.now) _ (command_of (texts c.args.words.now)) (g.S.Store.file c.args.store.now) ready) quiet.2,
      quiet.0,
      quiet.1,
    )
