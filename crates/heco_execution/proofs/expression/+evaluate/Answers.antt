use Rattle.std.proofs.Common.{◌∙◌, ap}
use Rattle.std.proofs.lemmas.Result.{err_from_is_err_and}
use Rattle.heco_execution.specs.Evaluation.{with_arguments, calls_of}
use Rattle.heco_execution.specs.States.{nothing}
use Rattle.heco_execution.proofs.ExpressionLemmas.{call_goes_on, meaning_refuses, sum_refuses, product_refuses}
use Rattle.heco_execution.proofs.expression.+evaluate.Goals as goal

pub evaluate-returns-in_err-u-in-Sum-clause-err : goal.evaluate-returns-in_err-u-in-Sum-clause-err
evaluate-returns-in_err-u-in-Sum-clause-err g t c =
    let p = err_from_is_err_and c.from_residual-in_err-u-in-Sum.result c.from_residual-in_err-u-in-Sum.ensures.1 in
    rw (p.1, p.2)
    (sum_refuses (g.S.Secrets.ops c.args.m.now) (calls_of (g.S.Secrets.ops c.args.m.now) c.args.defs.now) c.args.e.now c.in-Sum.first c.get-in-Sum.result.now c.in-Sum.rest c.as_slice.result.now c.args.names.now c.args.p.now _ c.in_ok-v-in-Sum.v _
    c.in-Sum.is c.get-in-Sum.ensures c.as_slice.ensures c.in_ok-v-in-Sum.ensures.ok c.in_err-u-in-Sum.ensures.err)

pub evaluate-returns-in_err-u-in-Prod-clause-err : goal.evaluate-returns-in_err-u-in-Prod-clause-err
evaluate-returns-in_err-u-in-Prod-clause-err g t c =
    let p = err_from_is_err_and c.from_residual-in_err-u-in-Prod.result c.from_residual-in_err-u-in-Prod.ensures.1 in
    rw (p.1, p.2)
    (product_refuses (g.S.Secrets.ops c.args.m.now) (calls_of (g.S.Secrets.ops c.args.m.now) c.args.defs.now) c.args.e.now c.in-Prod.first c.get-in-Prod.result.now c.in-Prod.rest c.as_slice-in-Prod.result.now c.args.names.now c.args.p.now _ c.in_ok-v-in-Prod.v _
    c.in-Prod.is c.get-in-Prod.ensures c.as_slice-in-Prod.ensures c.in_ok-v-in-Prod.ensures.ok c.in_err-u-in-Prod.ensures.err)

pub evaluate-returns-in-Call-clause-ok : goal.evaluate-returns-in-Call-clause-ok
evaluate-returns-in-Call-clause-ok g t c =
    rw (call_goes_on (g.S.Secrets.ops c.args.m.now) (calls_of (g.S.Secrets.ops c.args.m.now) c.args.defs.now) c.args.e.now c.in-Call.name c.in-Call.args c.as_slice-in-Call.result.now
    c.args.names.now c.args.p.now c.in-Call.is c.as_slice-in-Call.ensures)
    c.called.ensures.ok

pub evaluate-returns-in-Call-clause-err : goal.evaluate-returns-in-Call-clause-err
evaluate-returns-in-Call-clause-err g t c =
    rw (call_goes_on (g.S.Secrets.ops c.args.m.now) (calls_of (g.S.Secrets.ops c.args.m.now) c.args.defs.now) c.args.e.now c.in-Call.name c.in-Call.args c.as_slice-in-Call.result.now
    c.args.names.now c.args.p.now c.in-Call.is c.as_slice-in-Call.ensures)
    c.called.ensures.err

pub apply-returns-in_err-v-clause-err : goal.apply-returns-in_err-v-clause-err
apply-returns-in_err-v-clause-err g t c =
    let p = err_from_is_err_and c.from_residual-in_err-v.result c.from_residual-in_err-v.ensures.1 in
    let state = c.in_ok-names.ensures ∙ ap (λ z. with_arguments z c.as_slice-2.result.now nothing) c.as_slice.ensures ∙ ap (λ z. with_arguments c.args.d.now.params z nothing) c.as_slice-2.ensures in
    rw (p.1, p.2)
    (meaning_refuses (g.S.Secrets.ops c.args.m.now) (calls_of (g.S.Secrets.ops c.args.m.now) c.args.before.now) c.args.d.now c.args.args c.in_ok-names.names c.args.p.now _ state c.in_err-v.ensures.err)
