use Rattle.std.proofs.Common.{◌≡◌, ◌++◌, ◌∙◌, sym, ap, subst}
use Rattle.std.specs.List.{flat_map}
use Rattle.heco_print.specs.Spelling.{spelled, expression, separated, parens, wrapped, spelled_sum_part, spelled_product_part}
use Rattle.heco_print.proofs.Prints.{on_ok, sum_tokens, product_tokens, call_tokens}
use Rattle.heco_print.proofs.expression.+spelling.Goals as goal

pub spell-returns-in_ok-spell_within-in-Sum : goal.spell-returns-in_ok-spell_within-in-Sum
spell-returns-in_ok-spell_within-in-Sum t c =
    on_ok c.spell_sum_parts.result
    (λ h. subst (λ v. c.spell_sum_parts.new.out ≡ c.args.out.now ++ (spelled v).tokens) (sym c.in-Sum.is)
    (sum_tokens c.args.out.now c.spell_within-in-Sum.new.out c.spell_sum_parts.new.out c.in-Sum.first c.in-Sum.rest
    (c.in_ok-spell_within-in-Sum.ensures ∙ ap (λ v. c.args.out.now ++ wrapped 1 (spelled v)) c.get-in-Sum.ensures)
    (h ∙ ap (λ v. c.spell_within-in-Sum.new.out ++ flat_map spelled_sum_part v) c.as_slice.ensures)))
    c.spell_sum_parts.ensures

pub spell-returns-in_ok-spell_within-in-Prod : goal.spell-returns-in_ok-spell_within-in-Prod
spell-returns-in_ok-spell_within-in-Prod t c =
    on_ok c.spell_product_parts.result
    (λ h. subst (λ v. c.spell_product_parts.new.out ≡ c.args.out.now ++ (spelled v).tokens) (sym c.in-Prod.is)
    (product_tokens c.args.out.now c.spell_within-in-Prod.new.out c.spell_product_parts.new.out c.in-Prod.first c.in-Prod.rest
    (c.in_ok-spell_within-in-Prod.ensures ∙ ap (λ v. c.args.out.now ++ wrapped 0 (spelled v)) c.get-in-Prod.ensures)
    (h ∙ ap (λ v. c.spell_within-in-Prod.new.out ++ flat_map spelled_product_part v) c.as_slice-in-Prod.ensures)))
    c.spell_product_parts.ensures

pub spell-returns-in_ok-put_word-in-Call : goal.spell-returns-in_ok-put_word-in-Call
spell-returns-in_ok-put_word-in-Call t c =
    on_ok c.spell_arguments.result
    (λ h. subst (λ v. c.spell_arguments.new.out ≡ c.args.out.now ++ (spelled v).tokens) (sym c.in-Call.is)
    (call_tokens c.args.out.now c.put_word-in-Call.new.out c.spell_arguments.new.out c.in-Call.name c.in-Call.args
    c.in_ok-put_word-in-Call.ensures
    (h ∙ ap (λ v. c.put_word-in-Call.new.out ++ parens (separated expression v)) c.as_slice-in-Call.ensures)))
    c.spell_arguments.ensures
