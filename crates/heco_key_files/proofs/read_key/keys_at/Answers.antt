use Rattle.std.proofs.Common.{map, refl, arith}
use Rattle.std.specs.Prelude.{All}
use Rattle.std.specs.List.{flat_map}
use Rattle.std.proofs.lemmas.Result.{IfOk-weaker}
use Rattle.heco_fields.specs.Formats.{many}
use Rattle.heco_nums.specs.Runs.{stays}
use Rattle.heco_fields.proofs.Laws.{IsBytes}
use Rattle.heco_keys.proofs.MadeRows.{seen_rows}
use Rattle.heco_scheme.specs.Keys.{AreRows}
use Rattle.heco_key_files.specs.KeyFiles.{switch_key, switch_text}
use Rattle.heco_key_files.proofs.EvalLaws.{AreSwitches, switches_law, switches_rows}
use Rattle.heco_key_files.proofs.Headers.{read_has}
use Rattle.heco_key_files.proofs.read_key.keys_at.Goals as goal

pub returns-clause-pairs : goal.returns-clause-pairs
returns-clause-pairs c =
    let n = c.args.p.now.n in
    let fits : IsBytes c.args.bytes.now = λ i. omega (arith, c.type_inv.bytes i) in
    IfOk-weaker c.switches_at.result (λ x. All (AreRows n) (map (λ k. k.rows) x.0)) (λ x. All (λ k. AreRows n k.rows) x.0) (λ x h. seen_rows (AreRows n) x.0 (map (λ k. k.rows) x.0) refl h)
    (read_has (λ x. (map (λ k. k.rows) x.0, x.1.now)) (many (switch_key n) stays c.args.count 0) (flat_map switch_text) (AreSwitches n c.args.count) (switches_law n c.args.count) c.args.bytes.now c.switches_at.result fits c.switches_at.ensures.read
    {Has = λ keys. All (AreRows n) keys} (λ keys h. switches_rows n keys h.1))
