use Rattle.std.proofs.lemmas.Result.{err_from_is_err_and}
use Rattle.heco_fields.specs.Formats.{many}
use Rattle.heco_nums.specs.Runs.{stays}
use Rattle.heco_fields.specs.Readings.{reading}
use Rattle.heco_fields.proofs.Loops.{goes_on, fails, is_done}
use Rattle.heco_material.specs.EncFormat.{encryption, encryptions}
use Rattle.heco_material.proofs.read_rows.encryptions_at.Goals as goal

pub returns-in_err-row : goal.returns-in_err-row
unfolding encryptions
returns-in_err-row c =
    let p = err_from_is_err_and c.from_residual.result c.from_residual.ensures.1 in
    rw (p.1, p.2) (fails c.in_err-row.field-0.0 (encryption c.args.p.now.n c.args.p.now.h c.args.p.now.b) stays c.loop.rows c.args.count c.loop.counter 0 c.loop.rest.now (reading (many (encryption c.args.p.now.n c.args.p.now.h c.args.p.now.b) stays c.args.count 0) c.args.bytes.now) c.loop-test.true c.in_err-row.ensures c.loop.invariant.read)

pub returns : goal.returns
unfolding encryptions
returns c = is_done (encryption c.args.p.now.n c.args.p.now.h c.args.p.now.b) stays c.loop.rows c.args.count c.loop.counter 0 c.loop.rest.now (reading (many (encryption c.args.p.now.n c.args.p.now.h c.args.p.now.b) stays c.args.count 0) c.args.bytes.now) c.loop-test.false c.loop.invariant.read

pub loop-preserved : goal.loop-preserved
loop-preserved c =
    record {
      read = rw (c.in_ok-push.ensures.ok) (goes_on (encryption c.args.p.now.n c.args.p.now.h c.args.p.now.b) stays c.loop.rows c.args.count c.loop.counter 0 c.loop.rest.now c.in_ok-row.row c.in_ok-row.after.now (reading (many (encryption c.args.p.now.n c.args.p.now.h c.args.p.now.b) stays c.args.count 0) c.args.bytes.now) c.loop-test.true c.in_ok-row.ensures c.loop.invariant.read);
    }
