use Rattle.std.proofs.Common.{rules}
use Rattle.std.proofs.lemmas.Result.{err_from_is_err_and}
use Rattle.heco_fields.specs.Formats.{many}
use Rattle.heco_fields.specs.Readings.{reading}
use Rattle.heco_fields.proofs.Loops.{goes_on, fails, is_done}
use Rattle.heco_key_files.specs.KeyFiles.{turn as turn_format, latest}
use Rattle.heco_key_files.proofs.read_switch.turns_at.Goals as goal

pub returns-in_err-turn : goal.returns-in_err-turn
returns-in_err-turn c =
    let p = err_from_is_err_and c.from_residual.result c.from_residual.ensures.1 in
    rw (p.1, p.2) (fails c.in_err-turn.field-0.0 (turn_format c.args.slots) latest c.loop.turns c.args.count c.loop.counter c.loop.last c.loop.rest.now (reading (many (turn_format c.args.slots) latest c.args.count 0) c.args.bytes.now) c.loop-test.true c.in_err-turn.ensures.read c.loop.invariant.read)

pub returns : goal.returns
returns c = is_done (turn_format c.args.slots) latest c.loop.turns c.args.count c.loop.counter c.loop.last c.loop.rest.now (reading (many (turn_format c.args.slots) latest c.args.count 0) c.args.bytes.now) c.loop-test.false c.loop.invariant.read

pub loop-preserved : goal.loop-preserved
loop-preserved c = record {
  read = rw (c.in_ok-push.ensures.ok) (goes_on (turn_format c.args.slots) latest c.loop.turns c.args.count c.loop.counter c.loop.last c.loop.rest.now c.in_ok-turn.turn c.in_ok-turn.after.now (reading (many (turn_format c.args.slots) latest c.args.count 0) c.args.bytes.now) c.loop-test.true c.in_ok-turn.ensures.read c.loop.invariant.read);
  below = search rules;
}
