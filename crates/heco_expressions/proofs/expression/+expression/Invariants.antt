use Rattle.std.proofs.Common.{◌≡◌, ◌+◌, ◌*◌, ◌-◌, length, [], ◌∷◌}
use Rattle.heco_syntax.specs.Parts.{comma, sum_sign, sum_part, product_sign, product_part}
use Rattle.heco_expressions.specs.Reading.{factor, product, sum, parts_from}
use Rattle.heco_expressions.proofs.expression.+expression.Given as goal

abbrev pub decreases-indexed : goal.decreases-indexed
decreases-indexed l = 9 * l.levels

abbrev pub decreases-called : goal.decreases-called
decreases-called l = 9 * l.levels

abbrev pub decreases-negative : goal.decreases-negative
decreases-negative l = 9 * l.levels

abbrev pub decreases-group : goal.decreases-group
decreases-group l = 9 * l.levels

abbrev pub decreases-named : goal.decreases-named
decreases-named l = 9 * l.levels + 1

abbrev pub decreases-factor : goal.decreases-factor
decreases-factor l = 9 * l.levels + 2

abbrev pub decreases-factors : goal.decreases-factors
decreases-factors l = 9 * l.levels + 3

abbrev pub decreases-product : goal.decreases-product
decreases-product l = 9 * l.levels + 4

abbrev pub decreases-products : goal.decreases-products
decreases-products l = 9 * l.levels + 5

abbrev pub decreases-sum : goal.decreases-sum
decreases-sum l = 9 * l.levels + 6

abbrev pub decreases-further : goal.decreases-further
decreases-further l = 9 * l.levels + 7

abbrev pub decreases-arguments : goal.decreases-arguments
decreases-arguments l = 9 * l.levels + 8

abbrev pub invariant-factors-loop-turn : goal.invariant-factors-loop-turn
invariant-factors-loop-turn l = parts_from product_sign product_part (factor l.levels) (length l.fn.cursor) [] l.fn.cursor
    ≡ parts_from product_sign product_part (factor l.levels) (l._turn-end - l._turn) l.found l.cursor

abbrev pub invariant-products-loop-turn : goal.invariant-products-loop-turn
invariant-products-loop-turn l = parts_from sum_sign sum_part (product (factor l.levels)) (length l.fn.cursor) [] l.fn.cursor
    ≡ parts_from sum_sign sum_part (product (factor l.levels)) (l._turn-end - l._turn) l.found l.cursor

abbrev pub invariant-further-loop-turn : goal.invariant-further-loop-turn
invariant-further-loop-turn l = parts_from comma (λ at x. x) (sum (factor l.levels)) (length l.fn.cursor) (l.fn.first ∷ []) l.fn.cursor
    ≡ parts_from comma (λ at x. x) (sum (factor l.levels)) (l._turn-end - l._turn) l.found l.cursor
