-- So many values read one after the other.
use Rattle.std.proofs.lemmas.Result.{err_from_is_err_and}
use Rattle.heco_fields.specs.Formats.{many}
use Rattle.heco_fields.specs.Readings.{reading}
use Rattle.heco_nums.specs.Runs.{stays}
use Rattle.heco_fields.proofs.Loops.{goes_on, fails, is_done}
use Rattle.heco_circuit.specs.VectorFormat.{entry, vector}
use Rattle.heco_circuit.proofs.read_vectors.vector_at.Goals as goal

pub returns-in_err-entry : goal.returns-in_err-entry
unfolding vector
returns-in_err-entry c =
    let p = err_from_is_err_and c.from_residual.result c.from_residual.ensures.1 in
    rw (p.1, p.2) (fails c.in_err-entry.field-0.0 (entry c.args.t) stays c.loop.vector c.args.slots c.loop.counter 0 c.loop.rest.now (reading (many (entry c.args.t) stays c.args.slots 0) c.args.bytes.now) c.loop-test.true c.in_err-entry.ensures.read c.loop.invariant)

pub loop-preserved : goal.loop-preserved
loop-preserved c =
    rw c.in_ok-push.ensures.ok (goes_on (entry c.args.t) stays c.loop.vector c.args.slots c.loop.counter 0 c.loop.rest.now c.in_ok-entry.entry c.in_ok-entry.after.now (reading (many (entry c.args.t) stays c.args.slots 0) c.args.bytes.now) c.loop-test.true c.in_ok-entry.ensures.read c.loop.invariant)

pub returns : goal.returns
unfolding vector
returns c = is_done (entry c.args.t) stays c.loop.vector c.args.slots c.loop.counter 0 c.loop.rest.now (reading (many (entry c.args.t) stays c.args.slots 0) c.args.bytes.now) c.loop-test.false c.loop.invariant
