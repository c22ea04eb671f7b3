use Rattle.std.proofs.Common.{arith}
use Rattle.heco_fields.proofs.Laws.{IsBytes}
use Rattle.heco_key_files.specs.KeyFiles.{AreTurns, turns as turns_format, turns_text}
use Rattle.heco_key_files.proofs.Headers.{read_has}
use Rattle.heco_key_files.proofs.TurnLaws.{turns_law, few_turns}
use Rattle.heco_key_files.proofs.read_key.rising_turns_at.Goals as goal

pub returns-clause-rising : goal.returns-clause-rising
returns-clause-rising c =
    let slots = c.args.slots in
    let fits : IsBytes c.args.bytes.now = λ i. omega (arith, c.type_inv.bytes i) in
    read_has (λ x. (x.0, x.1.now)) (turns_format slots) turns_text (AreTurns slots) (turns_law slots c.requires (omega arith)) c.args.bytes.now c.counted_turns_at.result fits c.counted_turns_at.ensures (λ rs t. t.rising)

pub returns-clause-few : goal.returns-clause-few
returns-clause-few c =
    let slots = c.args.slots in
    let fits : IsBytes c.args.bytes.now = λ i. omega (arith, c.type_inv.bytes i) in
    read_has (λ x. (x.0, x.1.now)) (turns_format slots) turns_text (AreTurns slots) (turns_law slots c.requires (omega arith)) c.args.bytes.now c.counted_turns_at.result fits c.counted_turns_at.ensures (λ rs t. few_turns slots rs c.requires t)

pub returns-clause-amounts : goal.returns-clause-amounts
returns-clause-amounts c =
    let slots = c.args.slots in
    let fits : IsBytes c.args.bytes.now = λ i. omega (arith, c.type_inv.bytes i) in
    read_has (λ x. (x.0, x.1.now)) (turns_format slots) turns_text (AreTurns slots) (turns_law slots c.requires (omega arith)) c.args.bytes.now c.counted_turns_at.result fits c.counted_turns_at.ensures (λ rs t. t.amounts)
