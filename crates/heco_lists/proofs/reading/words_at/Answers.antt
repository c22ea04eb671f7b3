use Rattle.std.proofs.lemmas.Result.{err_from_is_err_and}
use Rattle.heco_fields.specs.Formats.{many}
use Rattle.heco_nums.specs.Runs.{stays}
use Rattle.heco_fields.specs.Readings.{reading}
use Rattle.heco_fields.proofs.Loops.{goes_on, fails, is_done}
use Rattle.heco_lists.specs.ListFormat.{word, words}
use Rattle.heco_lists.proofs.reading.words_at.Goals as goal

pub returns-in_err-word : goal.returns-in_err-word
unfolding words
returns-in_err-word c =
    let p = err_from_is_err_and c.from_residual.result c.from_residual.ensures.1 in
    rw (p.1, p.2) (fails c.in_err-word.field-0.0 word stays c.loop.words c.args.n c.loop.counter 0 c.loop.rest.now (reading (many word stays c.args.n 0) c.args.bytes.now) c.loop-test.true c.in_err-word.ensures.read c.loop.invariant.read)

pub returns : goal.returns
unfolding words
returns c = is_done word stays c.loop.words c.args.n c.loop.counter 0 c.loop.rest.now (reading (many word stays c.args.n 0) c.args.bytes.now) c.loop-test.false c.loop.invariant.read

pub loop-preserved : goal.loop-preserved
loop-preserved c =
    record {
      read = rw (c.in_ok-push.ensures.ok) (goes_on word stays c.loop.words c.args.n c.loop.counter 0 c.loop.rest.now c.in_ok-word.word c.in_ok-word.after.now (reading (many word stays c.args.n 0) c.args.bytes.now) c.loop-test.true c.in_ok-word.ensures.read c.loop.invariant.read);
    }
