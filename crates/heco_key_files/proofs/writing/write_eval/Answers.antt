use Rattle.std.specs.Prelude.{codes}
use Rattle.heco_key_files.specs.KeyFiles.{AreEvalLists, eval_text, evaluation, lists_of, lists_text}
use Rattle.heco_key_files.proofs.EvalLaws.{preset_law}
use Rattle.heco_key_files.proofs.Judged.{read_back, own_text}
use Rattle.heco_key_files.proofs.writing.write_eval.Goals as goal

pub returns-clause-back : goal.returns-clause-back
unfolding eval_text
returns-clause-back c =
    let p = c.args.e.now.preset in
    read_back (codes "HEVA") p.id (evaluation p.n p.slots) lists_text (AreEvalLists p.n p.slots) (preset_law p) (lists_of c.args.e.now) c.text.result p.row.0 p.row.1 c.text.ensures

pub returns-clause-own : goal.returns-clause-own
unfolding eval_text
returns-clause-own c = λ other.
    let p = c.args.e.now.preset in
    own_text (codes "HEVA") p.id (evaluation p.n p.slots) lists_text (AreEvalLists p.n p.slots) (preset_law p) (lists_of c.args.e.now) c.text.result p.row.0 p.row.1 c.text.ensures other
