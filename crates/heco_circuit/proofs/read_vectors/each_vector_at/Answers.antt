-- So many values read one after the other.
use Rattle.std.proofs.Common.{ap, ◌∙◌, ◌∷◌, [], arith, length, length-append}
use Rattle.std.proofs.lemmas.Result.{err_from_is_err_and}
use Rattle.heco_fields.specs.Formats.{many}
use Rattle.heco_fields.specs.Readings.{reading}
use Rattle.heco_nums.specs.Runs.{stays}
use Rattle.heco_fields.proofs.Loops.{goes_on, fails, is_done}
use Rattle.heco_circuit.specs.VectorFormat.{vector}
use Rattle.heco_circuit.proofs.read_vectors.each_vector_at.Goals as goal

pub returns-in_err-vector-clause-vectors : goal.returns-in_err-vector-clause-vectors
returns-in_err-vector-clause-vectors c =
    let p = err_from_is_err_and c.from_residual.result c.from_residual.ensures.1 in
    rw (p.1, p.2) (fails c.in_err-vector.field-0.0 (vector c.args.t c.args.slots) stays c.loop.vectors c.args.count c.loop.counter 0 c.loop.rest.now (reading (many (vector c.args.t c.args.slots) stays c.args.count 0) c.args.bytes.now) c.loop-test.true c.in_err-vector.ensures c.loop.invariant.read)

pub loop-preserved : goal.loop-preserved
loop-preserved c = record {
  read = rw c.in_ok-push.ensures.ok (goes_on (vector c.args.t c.args.slots) stays c.loop.vectors c.args.count c.loop.counter 0 c.loop.rest.now c.in_ok-vector.vector c.in_ok-vector.after.now (reading (many (vector c.args.t c.args.slots) stays c.args.count 0) c.args.bytes.now) c.loop-test.true c.in_ok-vector.ensures c.loop.invariant.read);
  count = ap length c.in_ok-push.ensures.ok ∙ omega (arith, length-append c.loop.vectors (c.in_ok-vector.vector ∷ []), c.loop.invariant.count);
}

pub returns-clause-vectors : goal.returns-clause-vectors
returns-clause-vectors c = is_done (vector c.args.t c.args.slots) stays c.loop.vectors c.args.count c.loop.counter 0 c.loop.rest.now (reading (many (vector c.args.t c.args.slots) stays c.args.count 0) c.args.bytes.now) c.loop-test.false c.loop.invariant.read
