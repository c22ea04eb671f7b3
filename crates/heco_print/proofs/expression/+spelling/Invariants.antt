use Rattle.std.proofs.Common.{◌≡◌, ◌+◌, ◌*◌, ◌++◌, ◌∷◌, drop}
use Rattle.std.specs.List.{flat_map}
use Rattle.heco_lex.specs.declared.token.TokenKind.TheVariants as k
use Rattle.heco_print.specs.Spelling.{spelled_sum_part, spelled_product_part, mark, expression}
use Rattle.heco_print.proofs.expression.+spelling.Given as goal

abbrev pub invariant-spell_sum_parts-loop-part : goal.invariant-spell_sum_parts-loop-part
invariant-spell_sum_parts-loop-part l = l.fn.out ++ flat_map spelled_sum_part l.parts ≡ l.out ++ flat_map spelled_sum_part (drop l.part-index l.parts)

abbrev pub invariant-spell_product_parts-loop-part : goal.invariant-spell_product_parts-loop-part
invariant-spell_product_parts-loop-part l = l.fn.out ++ flat_map spelled_product_part l.parts ≡ l.out ++ flat_map spelled_product_part (drop l.part-index l.parts)

abbrev pub invariant-spell_more_values-loop-value : goal.invariant-spell_more_values-loop-value
invariant-spell_more_values-loop-value l = l.fn.out ++ flat_map (λ x. mark k.Comma ∷ expression x) l.values ≡ l.out ++ flat_map (λ x. mark k.Comma ∷ expression x) (drop l.value-index l.values)

-- an expression stands above its parts
abbrev pub decreases-spell : goal.decreases-spell
decreases-spell l = 8 * goal.size-spell l

abbrev pub decreases-spell_within : goal.decreases-spell_within
decreases-spell_within l = 8 * goal.size-spell_within l + 1

abbrev pub decreases-spell_sum_parts : goal.decreases-spell_sum_parts
decreases-spell_sum_parts l = 8 * goal.size-spell_sum_parts l + 2

abbrev pub decreases-spell_product_parts : goal.decreases-spell_product_parts
decreases-spell_product_parts l = 8 * goal.size-spell_product_parts l + 2

abbrev pub decreases-spell_more_values : goal.decreases-spell_more_values
decreases-spell_more_values l = 8 * goal.size-spell_more_values l + 1

abbrev pub decreases-spell_values : goal.decreases-spell_values
decreases-spell_values l = 8 * goal.size-spell_values l + 2

abbrev pub decreases-spell_arguments : goal.decreases-spell_arguments
decreases-spell_arguments l = 8 * goal.size-spell_arguments l + 3
