use Rattle.std.proofs.Common.{◌∙◌, ◌++◌, sym, ap}
use Rattle.heco_texts.proofs.RuleLaws.{says, rule_said, given_said}
use Rattle.heco_texts.proofs.judge.take_line.Goals as goal

pub returns-in-Some-rule_of_name-clause-rule : goal.returns-in-Some-rule_of_name-clause-rule
returns-in-Some-rule_of_name-clause-rule c =
    let s = says c.without_blanks-bare.result.now c.args.line.now c.in-Some.name.now c.in-Some.behind.now c.in-Some-2.values c.without_blanks-bare.ensures.bare c.in-Some.ensures.found (sym c.in-Some-2.is ∙ c.in_ok-values.ensures) in
    sym c.in-Some-rule_of_name.is ∙ rule_said _ _ _ _ _ _ _ _ _ c.ranges.t.fits s c.as_slice.ensures c.as_slice-2.ensures c.rule_of_name.ensures

pub returns-clause-rule : goal.returns-clause-rule
returns-clause-rule c =
    let s = says c.without_blanks-bare.result.now c.args.line.now c.in-Some.name.now c.in-Some.behind.now c.in-Some-2.values c.without_blanks-bare.ensures.bare c.in-Some.ensures.found (sym c.in-Some-2.is ∙ c.in_ok-values.ensures) in
    sym c.in_default-rule_of_name.is ∙ rule_said _ _ _ _ _ _ _ _ _ c.ranges.t.fits s c.as_slice.ensures c.as_slice-2.ensures c.rule_of_name.ensures

pub returns-clause-given : goal.returns-clause-given
returns-clause-given c =
    let s = says c.without_blanks-bare.result.now c.args.line.now c.in-Some.name.now c.in-Some.behind.now c.in-Some-2.values c.without_blanks-bare.ensures.bare c.in-Some.ensures.found (sym c.in-Some-2.is ∙ c.in_ok-values.ensures) in
    λ none. c.in_ok-give.ensures ∙ ap (λ x. c.args.given.now ++ x) (sym (given_said _ _ _ _ _ _ _ c.ranges.t.fits s c.as_slice-2.ensures (sym c.rule_of_name.ensures ∙ c.in_default-rule_of_name.is)))
