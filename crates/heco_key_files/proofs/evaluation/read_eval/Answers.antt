use Rattle.std.proofs.Common.{arith}
use Rattle.std.specs.Prelude.{codes}
use Rattle.heco_fields.proofs.Laws.{IsBytes}
use Rattle.heco_key_files.specs.KeyFiles.{AreEvalLists, eval_text, evaluation, lists_of, lists_text}
use Rattle.heco_key_files.proofs.EvalLaws.{preset_law}
use Rattle.heco_key_files.proofs.Judged.{spelled, only, caused, malformed, wrong}
use Rattle.heco_key_files.proofs.evaluation.read_eval.Goals as goal

pub returns-clause-spelled : goal.returns-clause-spelled
unfolding eval_text
returns-clause-spelled c =
    let p = c.args.p.now in
    let fits : IsBytes c.args.bytes.now = λ i. omega (arith, c.type_inv.bytes i) in
    spelled lists_of (codes "HEVA") p.id (evaluation p.n p.slots) lists_text (AreEvalLists p.n p.slots) (preset_law p) c.args.bytes.now c.file.result fits c.file.ensures.exact

pub returns-clause-only : goal.returns-clause-only
unfolding eval_text
returns-clause-only c = λ e.
    let p = c.args.p.now in
    only lists_of (codes "HEVA") p.id (evaluation p.n p.slots) lists_text (AreEvalLists p.n p.slots) (preset_law p) c.args.bytes.now c.file.result c.file.ensures.exact e p.row.0 p.row.1

pub returns-clause-cause : goal.returns-clause-cause
returns-clause-cause c =
    let p = c.args.p.now in
    let fits : IsBytes c.args.bytes.now = λ i. omega (arith, c.type_inv.bytes i) in
    caused lists_of (codes "HEVA") p.id (evaluation p.n p.slots) c.args.bytes.now c.file.result fits c.file.ensures.exact

pub returns-clause-malformed : goal.returns-clause-malformed
returns-clause-malformed c =
    let p = c.args.p.now in
    let fits : IsBytes c.args.bytes.now = λ i. omega (arith, c.type_inv.bytes i) in
    malformed lists_of (codes "HEVA") p.id (evaluation p.n p.slots) c.args.bytes.now c.file.result fits c.file.ensures.exact

pub returns-clause-wrong : goal.returns-clause-wrong
returns-clause-wrong c =
    let p = c.args.p.now in
    let fits : IsBytes c.args.bytes.now = λ i. omega (arith, c.type_inv.bytes i) in
    wrong lists_of (codes "HEVA") p.id (evaluation p.n p.slots) c.args.bytes.now c.file.result fits c.file.ensures.exact
