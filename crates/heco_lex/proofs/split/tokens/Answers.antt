use Rattle.std.proofs.lemmas.Result.{err_from_is_err_and}
use Rattle.std.proofs.Common.{refl, arith, Ok}
use Rattle.heco_lex.proofs.Spans.{spans}
use Rattle.heco_lex.proofs.Unique.{one_split}
use Rattle.heco_lex.proofs.OneRefusal.{refuses}
use Rattle.heco_lex.proofs.Advances.{advance, ended, refused_by}
use Rattle.heco_lex.proofs.split.tokens.Goals as goal

pub returns-in_err-at-clause-bad : goal.returns-in_err-at-clause-bad
returns-in_err-at-clause-bad c =
    let p = err_from_is_err_and c.from_residual.result c.from_residual.ensures.1 in
    rw (p.1, p.2) (refused_by c.args.text.now c.loop-at.at c.loop-at.tokens c.in_err-at.field-0.0 c.loop-at.invariant c.in_err-at.ensures)

pub returns-in_err-at-clause-refuses : goal.returns-in_err-at-clause-refuses
returns-in_err-at-clause-refuses c =
    let p = err_from_is_err_and c.from_residual.result c.from_residual.ensures.1 in
    refuses c.args.text.now c.from_residual.result (rw (p.1) tt) (returns-in_err-at-clause-bad c)

pub loop-at-preserved : goal.loop-at-preserved
loop-at-preserved c = advance _ _ _ _ _ c.loop-at.invariant c.in_ok-at.ensures

pub returns-clause-found : goal.returns-clause-found
returns-clause-found c = ended _ _ _ c.loop-at.invariant c.loop-at-test.false

pub returns-clause-only : goal.returns-clause-only
returns-clause-only c = λ us s. one_split s (ended _ _ _ c.loop-at.invariant c.loop-at-test.false)

pub returns-clause-spans : goal.returns-clause-spans
returns-clause-spans c = spans _ (ended _ _ _ c.loop-at.invariant c.loop-at-test.false) (omega arith) refl

pub returns-clause-refuses : goal.returns-clause-refuses
returns-clause-refuses c = refuses c.args.text.now (Ok c.loop-at.tokens) (ended _ _ _ c.loop-at.invariant c.loop-at-test.false) tt
