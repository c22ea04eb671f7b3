use Rattle.std.proofs.Common.{◌∙◌, ◌++◌, ◌∷◌, [], sym, ap, length, arith}
use Rattle.heco_texts.specs.inside.Fronts.{digit_front}
use Rattle.heco_texts.specs.Kinds.{without_blanks}
use Rattle.heco_texts.specs.Numbers.{capped_value, capped_values}
use Rattle.heco_texts.proofs.NumberLaws.{ahead, next_value, no_values, back_shorter, bare_values, ahead_none}
use Rattle.heco_texts.proofs.number.capped_values.Goals as goal

pub loop-rest-init : goal.loop-rest-init
loop-rest-init c = record {
  found = ap (λ vs. ahead vs (capped_values c.without_blanks-rest.result.now)) c.new-values.ensures ∙ ahead_none (capped_values c.without_blanks-rest.result.now) ∙ ap capped_values c.without_blanks-rest.ensures.bare ∙ bare_values c.args.text.now;
  first = c.without_blanks-rest.ensures.first;
}

pub returns-then-not-is_digit : goal.returns-then-not-is_digit
returns-then-not-is_digit c =
    sym (sym c.loop-rest.invariant.found
    ∙ ap (ahead c.loop-rest.values) (no_values c.loop-rest.rest.now c.in-len1-up.len_at_least (c.loop-rest.invariant.first c.in-len1-up.len_at_least) (sym c.is_digit.ensures ∙ c.if-not-is_digit.true)))

pub loop-rest-smaller : goal.loop-rest-smaller
loop-rest-smaller c =
    let shorter = back_shorter c.loop-rest.rest.now c.in-len1-up.len_at_least (sym c.is_digit.ensures ∙ c.if-not-is_digit.false) in
    omega (arith, c.without_blanks-rest-in-len1-up.ensures.shorter, ap length c.first_number-value.ensures.back, shorter)

pub loop-rest-preserved : goal.loop-rest-preserved
loop-rest-preserved c =
    let more = next_value c.loop-rest.values c.loop-rest.rest.now c.in-len1-up.len_at_least (sym c.is_digit.ensures ∙ c.if-not-is_digit.false) in
    record {
      found =
          ap (λ vs. ahead vs (capped_values c.without_blanks-rest-in-len1-up.result.now)) c.in_ok-push.ensures.ok
          ∙ ap (λ v. ahead (c.loop-rest.values ++ v ∷ []) (capped_values c.without_blanks-rest-in-len1-up.result.now)) c.first_number-value.ensures.value
          ∙ ap (λ r. ahead (c.loop-rest.values ++ capped_value (digit_front c.loop-rest.rest.now) ∷ []) (capped_values r)) (c.without_blanks-rest-in-len1-up.ensures.bare ∙ ap without_blanks c.first_number-value.ensures.back)
          ∙ more
          ∙ c.loop-rest.invariant.found;
      first = c.without_blanks-rest-in-len1-up.ensures.first;
    }
