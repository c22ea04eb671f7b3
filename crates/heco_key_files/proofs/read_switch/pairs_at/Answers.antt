use Rattle.std.proofs.Common.{ap, ◌∙◌, ◌+◌, [], ◌∷◌, length}
use Rattle.std.proofs.lemmas.List.{length-append}
use Rattle.std.proofs.lemmas.Result.{err_from_is_err_and}
use Rattle.heco_fields.specs.Formats.{many}
use Rattle.heco_nums.specs.Runs.{stays}
use Rattle.heco_fields.specs.Readings.{reading}
use Rattle.heco_fields.proofs.Loops.{goes_on, fails, is_done}
use Rattle.heco_key_files.specs.KeyFiles.{pair as pair_format}
use Rattle.heco_key_files.proofs.read_switch.pairs_at.Goals as goal

pub returns-in_err-pair-clause-read : goal.returns-in_err-pair-clause-read
returns-in_err-pair-clause-read c =
    let p = err_from_is_err_and c.from_residual.result c.from_residual.ensures.1 in
    rw (p.1, p.2) (fails c.in_err-pair.field-0.0 (pair_format c.args.p.now.n) stays c.loop.pairs 29 c.loop.counter 0 c.loop.rest.now (reading (many (pair_format c.args.p.now.n) stays 29 0) c.args.bytes.now) c.loop-test.true c.in_err-pair.ensures c.loop.invariant.read)

pub returns-clause-read : goal.returns-clause-read
returns-clause-read c = is_done (pair_format c.args.p.now.n) stays c.loop.pairs 29 c.loop.counter 0 c.loop.rest.now (reading (many (pair_format c.args.p.now.n) stays 29 0) c.args.bytes.now) c.loop-test.false c.loop.invariant.read

pub loop-preserved : goal.loop-preserved
loop-preserved c = record {
  read = rw (c.in_ok-push.ensures.ok) (goes_on (pair_format c.args.p.now.n) stays c.loop.pairs 29 c.loop.counter 0 c.loop.rest.now c.in_ok-pair.pair c.in_ok-pair.after.now (reading (many (pair_format c.args.p.now.n) stays 29 0) c.args.bytes.now) c.loop-test.true c.in_ok-pair.ensures c.loop.invariant.read);
  count = ap length c.in_ok-push.ensures.ok ∙ length-append c.loop.pairs (c.in_ok-pair.pair ∷ []) ∙ ap (λ m. m + 1) c.loop.invariant.count;
}
