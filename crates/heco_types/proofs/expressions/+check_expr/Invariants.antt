use Rattle.std.proofs.Common.{◌≡◌, map, drop}
use Rattle.heco_types.specs.Sites.{first}
use Rattle.heco_types.specs.Expressions.{each, of_expr, of_sum, of_product}
use Rattle.heco_types.proofs.expressions.+check_expr.Given as goal

abbrev pub invariant-check_sums-loop-part : goal.invariant-check_sums-loop-part
invariant-check_sums-loop-part l =
    each first l.inside (map (of_sum first l.inside) l.parts) l.context l.scope ≡ each first l.inside (map (of_sum first l.inside) (drop l.part-index l.parts)) l.context l.scope

abbrev pub invariant-check_products-loop-part : goal.invariant-check_products-loop-part
invariant-check_products-loop-part l =
    each first l.inside (map (of_product first l.inside) l.parts) l.context l.scope ≡ each first l.inside (map (of_product first l.inside) (drop l.part-index l.parts)) l.context l.scope

abbrev pub invariant-check_values-loop-x : goal.invariant-check_values-loop-x
invariant-check_values-loop-x l =
    each first l.inside (map (of_expr first l.inside) l.values) l.context l.scope ≡ each first l.inside (map (of_expr first l.inside) (drop l.x-index l.values)) l.context l.scope
