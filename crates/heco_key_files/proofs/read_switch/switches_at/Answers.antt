use Rattle.std.proofs.Common.{ap, ◌∙◌, ◌+◌, [], ◌∷◌, length, map}
use Rattle.std.proofs.lemmas.List.{length-append, map-append}
use Rattle.std.proofs.lemmas.Result.{err_from_is_err_and}
use Rattle.heco_fields.specs.Formats.{many}
use Rattle.heco_nums.specs.Runs.{stays}
use Rattle.heco_fields.specs.Readings.{reading}
use Rattle.heco_fields.proofs.Loops.{goes_on, fails, is_done}
use Rattle.heco_key_files.specs.KeyFiles.{switch_key}
use Rattle.heco_key_files.proofs.read_switch.switches_at.Goals as goal

pub returns-in_err-key-clause-read : goal.returns-in_err-key-clause-read
returns-in_err-key-clause-read c =
    let p = err_from_is_err_and c.from_residual-in_err-key.result c.from_residual-in_err-key.ensures.1 in
    rw (p.1, p.2) (fails c.in_err-key.field-0.0 (switch_key c.args.p.now.n) stays (map (λ k. k.rows) c.loop.keys) c.args.count c.loop.counter 0 c.loop.rest.now (reading (many (switch_key c.args.p.now.n) stays c.args.count 0) c.args.bytes.now) c.loop-test.true c.in_err-key.ensures c.loop.invariant.read)

pub returns-clause-read : goal.returns-clause-read
returns-clause-read c = is_done (switch_key c.args.p.now.n) stays (map (λ k. k.rows) c.loop.keys) c.args.count c.loop.counter 0 c.loop.rest.now (reading (many (switch_key c.args.p.now.n) stays c.args.count 0) c.args.bytes.now) c.loop-test.false c.loop.invariant.read

pub loop-preserved : goal.loop-preserved
loop-preserved c = record {
  read = rw (c.in_ok-push.ensures.ok, map-append (λ k. k.rows) c.loop.keys (c.in_ok-key.key ∷ [])) (goes_on (switch_key c.args.p.now.n) stays (map (λ k. k.rows) c.loop.keys) c.args.count c.loop.counter 0 c.loop.rest.now c.in_ok-key.key.rows c.in_ok-key.after.now (reading (many (switch_key c.args.p.now.n) stays c.args.count 0) c.args.bytes.now) c.loop-test.true c.in_ok-key.ensures c.loop.invariant.read);
  count = ap length c.in_ok-push.ensures.ok ∙ length-append c.loop.keys (c.in_ok-key.key ∷ []) ∙ ap (λ m. m + 1) c.loop.invariant.count;
}
