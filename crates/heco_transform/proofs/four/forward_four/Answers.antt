use Rattle.std.proofs.Common.{◌≡◌, ◌+◌, ◌*◌, arith, sym, get_or}
use Rattle.std.proofs.lemmas.List.{get_or_read}
use Rattle.heco_transform.specs.Modulus.{modulus}
use Rattle.heco_transform.proofs.Fours.{written, four_values, four_below}
use Rattle.heco_transform.proofs.Tree.{node_left, node_right}
use Rattle.heco_transform.proofs.four.forward_four.Goals as goal

pub returns-clause-values : goal.returns-clause-values
returns-clause-values c =
    let t = c.args.roots.now in
    let i = c.args.node in
    let s1 : get_or c.args.roots.now c.args.node 0 ≡ c.index-roots-node.result = sym (get_or_read c.args.roots.now c.args.node c.index-roots-node.result (omega arith) c.index-roots-node.is 0) in
    let s2 : get_or c.args.roots.now c.args.node 0 ≡ c.index-roots-node-2.result = sym (get_or_read c.args.roots.now c.args.node c.index-roots-node-2.result (omega arith) c.index-roots-node-2.is 0) in
    let s3 : get_or c.args.roots.now (2 * c.args.node) 0 ≡ c.index-roots-node-3.result = sym (get_or_read c.args.roots.now (2 * c.args.node) c.index-roots-node-3.result (omega arith) c.index-roots-node-3.is 0) in
    let s4 : get_or c.args.roots.now (2 * c.args.node + 1) 0 ≡ c.index-roots-node-4.result = sym (get_or_read c.args.roots.now (2 * c.args.node + 1) c.index-roots-node-4.result (omega arith) c.index-roots-node-4.is 0) in
    rw (written c.args.a.now c.forward_butterfly-c0.result.0 c.forward_butterfly-c0.result.1 c.forward_butterfly-c2.result.0 c.forward_butterfly-c2.result.1 c.requires.long)
    (four_values modulus c.args.node c.args.roots.now c.args.a.now c.forward_butterfly-b0.result.0 c.forward_butterfly-b1.result.0 c.forward_butterfly-b0.result.1 c.forward_butterfly-b1.result.1
    c.forward_butterfly-c0.result.0 c.forward_butterfly-c0.result.1 c.forward_butterfly-c2.result.0 c.forward_butterfly-c2.result.1 c.requires.tree c.requires.node c.requires.inside
    (rw (node_left t i, s1) c.forward_butterfly-b0.ensures.sum) (rw (node_right t i, s1) c.forward_butterfly-b0.ensures.difference)
    (rw (node_left t i, s2) c.forward_butterfly-b1.ensures.sum) (rw (node_right t i, s2) c.forward_butterfly-b1.ensures.difference)
    (rw (node_left t (2 * i), s3) c.forward_butterfly-c0.ensures.sum) (rw (node_right t (2 * i), s3) c.forward_butterfly-c0.ensures.difference)
    (rw (node_left t (2 * i + 1), s4) c.forward_butterfly-c2.ensures.sum) (rw (node_right t (2 * i + 1), s4) c.forward_butterfly-c2.ensures.difference))

pub returns-clause-below : goal.returns-clause-below
returns-clause-below c =
    let a0 = c.requires.below 0 (omega (arith, c.requires.long)) in
    let a1 = c.requires.below 1 (omega (arith, c.requires.long)) in
    rw (written c.args.a.now c.forward_butterfly-c0.result.0 c.forward_butterfly-c0.result.1 c.forward_butterfly-c2.result.0 c.forward_butterfly-c2.result.1 c.requires.long)
    (four_below (21 * modulus) c.forward_butterfly-c0.result.0 c.forward_butterfly-c0.result.1 c.forward_butterfly-c2.result.0 c.forward_butterfly-c2.result.1
    (omega (arith, a0, c.forward_butterfly-b0.ensures.sum_room, c.forward_butterfly-c0.ensures.sum_room))
    (omega (arith, a0, c.forward_butterfly-b0.ensures.sum_room, c.forward_butterfly-c0.ensures.difference_room))
    (omega (arith, a0, c.forward_butterfly-b0.ensures.difference_room, c.forward_butterfly-c2.ensures.sum_room))
    (omega (arith, a0, c.forward_butterfly-b0.ensures.difference_room, c.forward_butterfly-c2.ensures.difference_room)))
