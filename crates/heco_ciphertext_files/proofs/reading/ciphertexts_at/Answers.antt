use Rattle.std.proofs.lemmas.Result.{err_from_is_err_and}
use Rattle.heco_fields.specs.Formats.{many}
use Rattle.heco_nums.specs.Runs.{stays}
use Rattle.heco_fields.specs.Readings.{reading}
use Rattle.heco_fields.proofs.Loops.{goes_on, fails, is_done}
use Rattle.heco_ciphertext_files.specs.CiphertextFiles.{ciphertext as ciphertext_format, ciphertexts}
use Rattle.heco_ciphertext_files.proofs.reading.ciphertexts_at.Goals as goal

pub returns-in_err-ciphertext : goal.returns-in_err-ciphertext
unfolding ciphertexts
returns-in_err-ciphertext c =
    let p = err_from_is_err_and c.from_residual.result c.from_residual.ensures.1 in
    rw (p.1, p.2) (fails c.in_err-ciphertext.field-0.0 (ciphertext_format c.args.p.now.n) stays c.loop.list c.args.count c.loop.counter 0 c.loop.rest.now (reading (many (ciphertext_format c.args.p.now.n) stays c.args.count 0) c.args.bytes.now) c.loop-test.true c.in_err-ciphertext.ensures c.loop.invariant)

pub returns : goal.returns
unfolding ciphertexts
returns c = is_done (ciphertext_format c.args.p.now.n) stays c.loop.list c.args.count c.loop.counter 0 c.loop.rest.now (reading (many (ciphertext_format c.args.p.now.n) stays c.args.count 0) c.args.bytes.now) c.loop-test.false c.loop.invariant

pub loop-preserved : goal.loop-preserved
loop-preserved c = rw (c.in_ok-push.ensures.ok) (goes_on (ciphertext_format c.args.p.now.n) stays c.loop.list c.args.count c.loop.counter 0 c.loop.rest.now c.in_ok-ciphertext.ciphertext c.in_ok-ciphertext.after.now (reading (many (ciphertext_format c.args.p.now.n) stays c.args.count 0) c.args.bytes.now) c.loop-test.true c.in_ok-ciphertext.ensures c.loop.invariant)
