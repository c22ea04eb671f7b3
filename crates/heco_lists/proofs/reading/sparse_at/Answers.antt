use Rattle.std.proofs.Common.{arith}
use Rattle.std.proofs.Common.{rules}
use mir.Val.{SFits}
use mir.Syntax.{w8}
use Rattle.std.proofs.lemmas.Int.{to_z-of_z}
use Rattle.std.proofs.lemmas.Result.{err_from_is_err_and}
use Rattle.heco_fields.specs.Formats.{many}
use Rattle.heco_fields.specs.Readings.{reading}
use Rattle.heco_fields.proofs.Loops.{goes_on, fails, is_done}
use Rattle.heco_lists.specs.ListFormat.{secret_place as place_format, counted, sparse}
use Rattle.heco_lists.proofs.reading.sparse_at.Goals as goal

pub returns-in_err-place : goal.returns-in_err-place
unfolding sparse
returns-in_err-place c =
    let p = err_from_is_err_and c.from_residual.result c.from_residual.ensures.1 in
    rw (p.1, p.2) (fails c.in_err-place.field-0.0 (place_format c.args.h) counted c.loop.places c.args.n c.loop.counter c.loop.used c.loop.rest.now (reading (many (place_format c.args.h) counted c.args.n 0) c.args.bytes.now) c.loop-test.true c.in_err-place.ensures c.loop.invariant.read)

pub returns : goal.returns
unfolding sparse
returns c = is_done (place_format c.args.h) counted c.loop.places c.args.n c.loop.counter c.loop.used c.loop.rest.now (reading (many (place_format c.args.h) counted c.args.n 0) c.args.bytes.now) c.loop-test.false c.loop.invariant.read

pub loop-preserved : goal.loop-preserved
loop-preserved c =
    let small : SFits w8 c.in_ok-place.place = search rules in
    let same = to_z-of_z w8 c.in_ok-place.place small in
    record {
      read = rw (c.in_ok-push.ensures.ok, c.counted-used.ensures.count, same) (goes_on (place_format c.args.h) counted c.loop.places c.args.n c.loop.counter c.loop.used c.loop.rest.now c.in_ok-place.place c.in_ok-place.after.now (reading (many (place_format c.args.h) counted c.args.n 0) c.args.bytes.now) c.loop-test.true c.in_ok-place.ensures c.loop.invariant.read);
      used = let more = c.counted-used.ensures.more in let so_far = c.loop.invariant.used in omega arith;
    }
