use Rattle.std.proofs.Common.{rules}
use mir.Val.{SFits}
use mir.Syntax.{w8}
use Rattle.std.proofs.lemmas.Int.{to_z-of_z}
use Rattle.std.proofs.lemmas.Result.{err_from_is_err_and}
use Rattle.heco_fields.specs.Formats.{many}
use Rattle.heco_nums.specs.Runs.{stays}
use Rattle.heco_fields.specs.Readings.{reading}
use Rattle.heco_fields.proofs.Loops.{goes_on, fails, is_done}
use Rattle.heco_lists.specs.ListFormat.{error, errors}
use Rattle.heco_lists.proofs.reading.errors_at.Goals as goal

pub returns-in_err-error : goal.returns-in_err-error
unfolding errors
returns-in_err-error c =
    let p = err_from_is_err_and c.from_residual.result c.from_residual.ensures.1 in
    rw (p.1, p.2) (fails c.in_err-error.field-0.0 (error c.args.b) stays c.loop.errors c.args.n c.loop.counter 0 c.loop.rest.now (reading (many (error c.args.b) stays c.args.n 0) c.args.bytes.now) c.loop-test.true c.in_err-error.ensures c.loop.invariant.read)

pub returns : goal.returns
unfolding errors
returns c = is_done (error c.args.b) stays c.loop.errors c.args.n c.loop.counter 0 c.loop.rest.now (reading (many (error c.args.b) stays c.args.n 0) c.args.bytes.now) c.loop-test.false c.loop.invariant.read

pub loop-preserved : goal.loop-preserved
loop-preserved c =
    let small : SFits w8 c.in_ok-error.error = search rules in
    let same = to_z-of_z w8 c.in_ok-error.error small in
    record {
      read = rw (c.in_ok-push.ensures.ok, same) (goes_on (error c.args.b) stays c.loop.errors c.args.n c.loop.counter 0 c.loop.rest.now c.in_ok-error.error c.in_ok-error.after.now (reading (many (error c.args.b) stays c.args.n 0) c.args.bytes.now) c.loop-test.true c.in_ok-error.ensures c.loop.invariant.read);
    }
