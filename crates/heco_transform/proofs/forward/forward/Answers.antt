use Rattle.std.proofs.Common.{◌≡◌, ◌-◌, ◌*◌, ◌^◌, ◌<◌, length, arith, sym, get_or, ◌++◌}
use lib.IntN.{pos, neg_ℤ}
use Rattle.std.proofs.lemmas.List.{get_or_read}
use Rattle.heco_ring.specs.Ring.{wholes}
use Rattle.heco_transform.specs.Modulus.{modulus}
use Rattle.heco_transform.proofs.Steps.{forward_step}
use Rattle.heco_transform.proofs.Tree.{node_left, node_right}
use Rattle.heco_transform.proofs.Walk.{halves, node_inside, children_inside, same_fold, front_below}
use Rattle.heco_transform.proofs.forward.forward.Goals as goal

pub bounds-roots-node : goal.bounds-roots-node
bounds-roots-node c = node_inside c.args.depth c.args.node (length c.args.roots.now) (omega arith) c.requires.inside

pub forward_butterflies-requires-clause-long : goal.forward_butterflies-requires-clause-long
forward_butterflies-requires-clause-long c = omega (arith, halves c.args.depth (omega arith), c.requires.long)

pub forward_even-requires-2-clause-long : goal.forward_even-requires-2-clause-long
forward_even-requires-2-clause-long c = omega (arith, halves c.args.depth (omega arith), c.requires.long, c.forward_butterflies.auto.low, c.split_at_mut-low.ensures.front_len)

pub forward_even-requires-2-clause-inside : goal.forward_even-requires-2-clause-inside
forward_even-requires-2-clause-inside c = omega (arith, children_inside c.args.depth c.args.node (length c.args.roots.now) (omega arith) c.requires.inside)

pub forward_even-requires-3-clause-long : goal.forward_even-requires-3-clause-long
forward_even-requires-3-clause-long c = omega (arith, halves c.args.depth (omega arith), c.requires.long, c.forward_butterflies.auto.high, c.split_at_mut-low.ensures.back_len, c.split_at_mut-low.ensures.front_len)

pub forward_even-requires-3-clause-inside : goal.forward_even-requires-3-clause-inside
forward_even-requires-3-clause-inside c = omega (arith, children_inside c.args.depth c.args.node (length c.args.roots.now) (omega arith) c.requires.inside)

pub forward_even-requires-3-clause-below : goal.forward_even-requires-3-clause-below
forward_even-requires-3-clause-below c =
    let h = halves c.args.depth (omega arith) in
    λ i l.
    let il : i < length c.split_at_mut-low.result.0.now = omega (arith, h, c.requires.long, c.forward_butterflies.auto.high, c.split_at_mut-low.ensures.front_len, c.split_at_mut-low.ensures.back_len) in
    let s = front_below ((21 - 2 * c.args.depth) * modulus) i c.args.a.now c.split_at_mut-low.result.0.now c.split_at_mut-low.result.1.now c.split_at_mut-low.ensures.value c.requires.below il in
    omega (arith, s, c.forward_butterflies.ensures.difference_room i l)

pub returns-clause-values : goal.returns-clause-values
returns-clause-values c =
    let d : 0 < c.args.depth = omega arith in
    let h = halves c.args.depth d in
    let b = children_inside c.args.depth c.args.node (length c.args.roots.now) d c.requires.inside in
    let nl : length c.split_at_mut-low.result.0.now ≡ 2 ^ (c.args.depth - 1) = omega (arith, h, c.requires.long, c.split_at_mut-low.ensures.front_len) in
    let nh : length c.split_at_mut-low.result.1.now ≡ 2 ^ (c.args.depth - 1) = omega (arith, h, c.requires.long, c.split_at_mut-low.ensures.front_len, c.split_at_mut-low.ensures.back_len) in
    let nv : length c.forward_even-2.new.a ≡ 2 ^ (c.args.depth - 1) = omega (arith, c.forward_even-2.auto.a, c.forward_butterflies.auto.low) in
    let s : get_or c.args.roots.now c.args.node 0 ≡ c.index-roots-node.result = sym (get_or_read c.args.roots.now c.args.node c.index-roots-node.result (node_inside c.args.depth c.args.node (length c.args.roots.now) d c.requires.inside) c.index-roots-node.is 0) in
    rw (h, c.split_at_mut-low.ensures.value)
    (forward_step modulus (c.args.depth - 1) c.args.node c.args.roots.now (wholes (c.split_at_mut-low.result.0.now ++ c.split_at_mut-low.result.1.now)) (wholes c.forward_butterflies.new.low) (wholes c.forward_butterflies.new.high) c.forward_even-2.new.a c.forward_even-3.new.a
    c.requires.tree c.requires.node b nv
    (rw (node_left c.args.roots.now c.args.node, s) (same_fold modulus (2 ^ (c.args.depth - 1)) (pos c.index-roots-node.result) c.split_at_mut-low.result.0.now c.split_at_mut-low.result.1.now c.forward_butterflies.new.low nl (λ k l. c.forward_butterflies.ensures.sum k (omega (arith, c.forward_butterflies.auto.low)))))
    (rw (node_right c.args.roots.now c.args.node, s) (same_fold modulus (2 ^ (c.args.depth - 1)) (neg_ℤ (pos c.index-roots-node.result)) c.split_at_mut-low.result.0.now c.split_at_mut-low.result.1.now c.forward_butterflies.new.high nl (λ k l. c.forward_butterflies.ensures.difference k (omega (arith, nh, c.forward_butterflies.auto.high)))))
    c.forward_even-2.ensures.values c.forward_even-3.ensures.values)
