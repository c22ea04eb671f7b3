use Rattle.std.proofs.Common.{◌≡◌, true, map, drop}
use Rattle.std.specs.Prelude.{max}
use Rattle.heco_types.specs.Sites.{deepest}
use Rattle.heco_types.specs.Expressions.{each, of_expr, of_sum, of_product}
use Rattle.heco_types.proofs.depths.+depth.Given as goal

abbrev pub invariant-depth_of_sums-loop-part : goal.invariant-depth_of_sums-loop-part
invariant-depth_of_sums-loop-part l =
    each deepest true (map (of_sum deepest true) l.parts) l.context l.scope ≡ max l.d (each deepest true (map (of_sum deepest true) (drop l.part-index l.parts)) l.context l.scope)

abbrev pub invariant-depth_of_products-loop-part : goal.invariant-depth_of_products-loop-part
invariant-depth_of_products-loop-part l =
    each deepest true (map (of_product deepest true) l.parts) l.context l.scope ≡ max l.d (each deepest true (map (of_product deepest true) (drop l.part-index l.parts)) l.context l.scope)

abbrev pub invariant-depth_of_values-loop-x : goal.invariant-depth_of_values-loop-x
invariant-depth_of_values-loop-x l =
    each deepest true (map (of_expr deepest true) l.values) l.context l.scope ≡ max l.d (each deepest true (map (of_expr deepest true) (drop l.x-index l.values)) l.context l.scope)
