use Rattle.std.proofs.Common.{◌∙◌, sym, arith}
use Rattle.heco_texts.proofs.NumberLaws.{begun, one_digit, stopped, ended, back_at, back_end}
use Rattle.heco_texts.proofs.number.first_number.Goals as goal

pub loop-rest-init : goal.loop-rest-init
loop-rest-init c = begun _

pub returns-then-not-is_digit : goal.returns-then-not-is_digit
returns-then-not-is_digit c = record {
  value = stopped _ _ _ c.in-len1-up.len_at_least (sym c.is_digit.ensures ∙ c.if-not-is_digit.true) c.loop-rest.invariant;
  back = back_at _ _ _ c.in-len1-up.len_at_least (sym c.is_digit.ensures ∙ c.if-not-is_digit.true) c.loop-rest.invariant;
}

pub loop-rest-preserved : goal.loop-rest-preserved
loop-rest-preserved c = one_digit _ _ _ _ c.in-len1-up.len_at_least (sym c.is_digit.ensures ∙ c.if-not-is_digit.false) (omega (arith, c.saturating_add-value.ensures, c.saturating_mul.ensures, c.from.ensures)) c.loop-rest.invariant

pub returns : goal.returns
returns c = record {
  value = ended _ _ _ c.in_default.len_below c.loop-rest.invariant;
  back = back_end _ _ _ c.in_default.len_below c.loop-rest.invariant;
}
