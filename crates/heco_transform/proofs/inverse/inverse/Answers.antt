use Rattle.std.proofs.Common.{◌≡◌, ◌+◌, ◌-◌, ◌*◌, ◌^◌, ◌<◌, ◌≤◌, length, arith, sym, get_or, ◌++◌}
use lib.IntN.{pos}
use Rattle.std.proofs.lemmas.List.{get_or_read}
use Rattle.heco_transform.specs.Modulus.{modulus}
use Rattle.heco_transform.specs.Values.{node, fold, Values}
use Rattle.heco_transform.proofs.Steps.{folded_left, folded_right, inverse_step}
use Rattle.heco_transform.proofs.Tree.{node_left, node_right}
use Rattle.heco_transform.proofs.Walk.{halves, power_positive, node_inside, children_inside, front_below, back_below, both_below, bound_is, bound_multiple, bound_small}
use Rattle.heco_transform.proofs.inverse.inverse.Goals as goal

pub bounds-inverses-node : goal.bounds-inverses-node
bounds-inverses-node c = node_inside c.args.depth c.args.node (length c.args.inverses.now) (omega arith) c.requires.inside

pub inverse_even-requires-2-clause-long : goal.inverse_even-requires-2-clause-long
inverse_even-requires-2-clause-long c = omega (arith, halves c.args.depth (omega arith), c.requires.long, c.split_at_mut-low.ensures.front_len)

pub inverse_even-requires-2-clause-inside : goal.inverse_even-requires-2-clause-inside
inverse_even-requires-2-clause-inside c = omega (arith, children_inside c.args.depth c.args.node (length c.args.inverses.now) (omega arith) c.requires.inside)

pub inverse_even-requires-2-clause-below : goal.inverse_even-requires-2-clause-below
inverse_even-requires-2-clause-below c = λ i l. front_below (2 * modulus) i c.args.a.now c.split_at_mut-low.result.0.now c.split_at_mut-low.result.1.now c.split_at_mut-low.ensures.value c.requires.below l

pub inverse_even-requires-3-clause-long : goal.inverse_even-requires-3-clause-long
inverse_even-requires-3-clause-long c = omega (arith, halves c.args.depth (omega arith), c.requires.long, c.split_at_mut-low.ensures.front_len, c.split_at_mut-low.ensures.back_len)

pub inverse_even-requires-3-clause-inside : goal.inverse_even-requires-3-clause-inside
inverse_even-requires-3-clause-inside c = omega (arith, children_inside c.args.depth c.args.node (length c.args.inverses.now) (omega arith) c.requires.inside)

pub inverse_even-requires-3-clause-below : goal.inverse_even-requires-3-clause-below
inverse_even-requires-3-clause-below c = λ i l. back_below (2 * modulus) i c.args.a.now c.split_at_mut-low.result.0.now c.split_at_mut-low.result.1.now c.split_at_mut-low.ensures.value c.requires.below l

pub inverse_butterflies-requires-clause-long : goal.inverse_butterflies-requires-clause-long
inverse_butterflies-requires-clause-long c = omega (arith, halves c.args.depth (omega arith), c.requires.long, c.inverse_even-2.auto.a, c.inverse_even-3.auto.a, c.split_at_mut-low.ensures.front_len, c.split_at_mut-low.ensures.back_len)

pub inverse_butterflies-requires-clause-multiple : goal.inverse_butterflies-requires-clause-multiple
inverse_butterflies-requires-clause-multiple c = bound_multiple c.args.depth c.requires.depth

pub inverse_butterflies-requires-clause-small : goal.inverse_butterflies-requires-clause-small
inverse_butterflies-requires-clause-small c = bound_small c.args.depth c.requires.depth

pub inverse_butterflies-requires-clause-low_room : goal.inverse_butterflies-requires-clause-low_room
inverse_butterflies-requires-clause-low_room c = λ i l. omega (arith, halves c.args.depth (omega arith), bound_is c.args.depth c.requires.depth, c.inverse_even-2.ensures.below i l)

pub inverse_butterflies-requires-clause-high_room : goal.inverse_butterflies-requires-clause-high_room
inverse_butterflies-requires-clause-high_room c = λ i l. omega (arith, halves c.args.depth (omega arith), bound_is c.args.depth c.requires.depth, c.inverse_even-3.ensures.below i l)

pub returns-clause-value : goal.returns-clause-value
returns-clause-value c = λ r b tree inv v.
    let d : 0 < c.args.depth = omega arith in
    let h = halves c.args.depth d in
    let ins = children_inside c.args.depth c.args.node (length c.args.inverses.now) d c.requires.inside in
    let inr : 2 ^ (c.args.depth - 1) * (2 * c.args.node) + 2 ^ (c.args.depth - 1) + 2 ^ (c.args.depth - 1) ≤ 2 * length r = omega (arith, ins, inv.long) in
    let nl : length c.split_at_mut-low.result.0.now ≡ 2 ^ (c.args.depth - 1) = omega (arith, h, c.requires.long, c.split_at_mut-low.ensures.front_len) in
    let nh : length c.split_at_mut-low.result.1.now ≡ 2 ^ (c.args.depth - 1) = omega (arith, h, c.requires.long, c.split_at_mut-low.ensures.front_len, c.split_at_mut-low.ensures.back_len) in
    let nx : length c.inverse_butterflies.new.low ≡ 2 ^ (c.args.depth - 1) = omega (arith, c.inverse_butterflies.auto.low, c.inverse_even-2.auto.a, nl) in
    let at_node : c.args.node < length c.args.inverses.now = node_inside c.args.depth c.args.node (length c.args.inverses.now) d c.requires.inside in
    let s : get_or c.args.inverses.now c.args.node 0 ≡ c.index-inverses-node.result = sym (get_or_read c.args.inverses.now c.args.node c.index-inverses-node.result at_node c.index-inverses-node.is 0) in
    let one = rw s at (inv.each c.args.node (omega (arith, at_node, inv.long))) in
    let w : Values modulus (2 ^ (c.args.depth - 1) + 2 ^ (c.args.depth - 1)) c.args.node r b (c.split_at_mut-low.result.0.now ++ c.split_at_mut-low.result.1.now) = rw (h, c.split_at_mut-low.ensures.value) at v in
    let sl = c.inverse_even-2.ensures.value r (fold (2 ^ (c.args.depth - 1)) (node r (2 * c.args.node)) b) tree inv (folded_left modulus (c.args.depth - 1) c.args.node r b c.split_at_mut-low.result.0.now c.split_at_mut-low.result.1.now tree c.requires.node inr nl w) in
    let sh = c.inverse_even-3.ensures.value r (fold (2 ^ (c.args.depth - 1)) (node r (2 * c.args.node + 1)) b) tree inv (folded_right modulus (c.args.depth - 1) c.args.node r b c.split_at_mut-low.result.0.now c.split_at_mut-low.result.1.now tree c.requires.node inr nl w) in
    inverse_step modulus (2 ^ (c.args.depth - 1)) (2 ^ c.args.depth) (pos (get_or r c.args.node 0)) (pos c.index-inverses-node.result) b c.inverse_even-2.new.a c.inverse_even-3.new.a c.inverse_butterflies.new.low c.inverse_butterflies.new.high
    h one nx (rw (node_left r c.args.node) at sl) (rw (node_right r c.args.node) at sh)
    (λ k l. c.inverse_butterflies.ensures.sum k (omega (arith, nx)))
    (λ k l. c.inverse_butterflies.ensures.difference k (omega (arith, c.inverse_butterflies.auto.high, c.inverse_even-3.auto.a, nh)))

pub returns-clause-below : goal.returns-clause-below
returns-clause-below c = both_below (2 ^ c.args.depth * (2 * modulus)) c.inverse_butterflies.new.low c.inverse_butterflies.new.high
    (λ k l. omega (arith, bound_is c.args.depth c.requires.depth, c.inverse_butterflies.ensures.sum_room k l))
    (λ k l. omega (arith, power_positive c.args.depth, c.inverse_butterflies.ensures.difference_room k l))
