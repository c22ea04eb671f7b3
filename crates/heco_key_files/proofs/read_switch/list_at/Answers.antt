use Rattle.std.proofs.Common.{arith}
use Rattle.heco_fields.proofs.Laws.{IsBytes}
use Rattle.heco_nums.specs.MaterialBounds.{AreWords}
use Rattle.heco_lists.specs.ListFormat.{words, words_text}
use Rattle.heco_lists.proofs.ListLaws.{words_law}
use Rattle.heco_key_files.proofs.Headers.{read_has}
use Rattle.heco_key_files.proofs.read_switch.list_at.Goals as goal

pub returns-clause-within : goal.returns-clause-within
returns-clause-within c =
    let n = c.args.p.now.n in
    let fits : IsBytes c.args.bytes.now = λ i. omega (arith, c.type_inv.bytes i) in
    read_has (λ x. (x.0, x.1.now)) (words n) words_text (AreWords n) (words_law n) c.args.bytes.now c.words_at.result fits c.words_at.ensures (λ a w. w)
