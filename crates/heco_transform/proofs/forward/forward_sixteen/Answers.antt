use Rattle.std.proofs.Common.{◌≡◌, ◌+◌, ◌*◌, length, arith, sym, get_or, ◌++◌}
use Rattle.std.proofs.lemmas.List.{get_or_read}
use Rattle.heco_transform.specs.Modulus.{modulus}
use Rattle.heco_transform.specs.Values.{quarters}
use Rattle.heco_transform.proofs.Steps.{forward_two_steps}
use Rattle.heco_transform.proofs.Walk.{first_below, both_below}
use Rattle.heco_transform.proofs.forward.forward_sixteen.Goals as goal

pub forward_four-requires-clause-below : goal.forward_four-requires-clause-below
forward_four-requires-clause-below c = λ i l.
    let s = first_below (13 * modulus) i c.args.a.now c.split_at_mut-low.result.0.now c.split_at_mut-low.result.1.now c.split_at_mut-first.result.0.now c.split_at_mut-first.result.1.now c.split_at_mut-low.ensures.value c.split_at_mut-first.ensures.value c.requires.below (omega (arith, c.requires.long, c.split_at_mut-low.ensures.front_len, c.split_at_mut-low.ensures.back_len, c.split_at_mut-first.ensures.front_len, c.split_at_mut-first.ensures.back_len, c.split_at_mut-third.ensures.front_len, c.split_at_mut-third.ensures.back_len, c.forward_quarters.auto.first)) in
    omega (arith, s, c.forward_quarters.ensures.first_room i l)

pub forward_four-requires-2-clause-below : goal.forward_four-requires-2-clause-below
forward_four-requires-2-clause-below c = λ i l.
    let s = first_below (13 * modulus) i c.args.a.now c.split_at_mut-low.result.0.now c.split_at_mut-low.result.1.now c.split_at_mut-first.result.0.now c.split_at_mut-first.result.1.now c.split_at_mut-low.ensures.value c.split_at_mut-first.ensures.value c.requires.below (omega (arith, c.requires.long, c.split_at_mut-low.ensures.front_len, c.split_at_mut-low.ensures.back_len, c.split_at_mut-first.ensures.front_len, c.split_at_mut-first.ensures.back_len, c.split_at_mut-third.ensures.front_len, c.split_at_mut-third.ensures.back_len, c.forward_quarters.auto.second)) in
    omega (arith, s, c.forward_quarters.ensures.second_room i l)

pub forward_four-requires-3-clause-below : goal.forward_four-requires-3-clause-below
forward_four-requires-3-clause-below c = λ i l.
    let s = first_below (13 * modulus) i c.args.a.now c.split_at_mut-low.result.0.now c.split_at_mut-low.result.1.now c.split_at_mut-first.result.0.now c.split_at_mut-first.result.1.now c.split_at_mut-low.ensures.value c.split_at_mut-first.ensures.value c.requires.below (omega (arith, c.requires.long, c.split_at_mut-low.ensures.front_len, c.split_at_mut-low.ensures.back_len, c.split_at_mut-first.ensures.front_len, c.split_at_mut-first.ensures.back_len, c.split_at_mut-third.ensures.front_len, c.split_at_mut-third.ensures.back_len, c.forward_quarters.auto.third)) in
    omega (arith, s, c.forward_quarters.ensures.third_room i l)

pub forward_four-requires-4-clause-below : goal.forward_four-requires-4-clause-below
forward_four-requires-4-clause-below c = λ i l.
    let s = first_below (13 * modulus) i c.args.a.now c.split_at_mut-low.result.0.now c.split_at_mut-low.result.1.now c.split_at_mut-first.result.0.now c.split_at_mut-first.result.1.now c.split_at_mut-low.ensures.value c.split_at_mut-first.ensures.value c.requires.below (omega (arith, c.requires.long, c.split_at_mut-low.ensures.front_len, c.split_at_mut-low.ensures.back_len, c.split_at_mut-first.ensures.front_len, c.split_at_mut-first.ensures.back_len, c.split_at_mut-third.ensures.front_len, c.split_at_mut-third.ensures.back_len, c.forward_quarters.auto.fourth)) in
    omega (arith, s, c.forward_quarters.ensures.fourth_room i l)

pub returns-clause-values : goal.returns-clause-values
returns-clause-values c =
    let n : length c.split_at_mut-first.result.0.now ≡ 4 = omega (arith, c.requires.long, c.split_at_mut-low.ensures.front_len, c.split_at_mut-low.ensures.back_len, c.split_at_mut-first.ensures.front_len, c.split_at_mut-first.ensures.back_len, c.split_at_mut-third.ensures.front_len, c.split_at_mut-third.ensures.back_len) in
    let n0 : length c.forward_four.new.a ≡ 4 = omega (arith, c.requires.long, c.split_at_mut-low.ensures.front_len, c.split_at_mut-low.ensures.back_len, c.split_at_mut-first.ensures.front_len, c.split_at_mut-first.ensures.back_len, c.split_at_mut-third.ensures.front_len, c.split_at_mut-third.ensures.back_len, c.forward_quarters.auto.first, c.forward_four.auto.a) in
    let n1 : length c.forward_four-2.new.a ≡ 4 = omega (arith, c.requires.long, c.split_at_mut-low.ensures.front_len, c.split_at_mut-low.ensures.back_len, c.split_at_mut-first.ensures.front_len, c.split_at_mut-first.ensures.back_len, c.split_at_mut-third.ensures.front_len, c.split_at_mut-third.ensures.back_len, c.forward_quarters.auto.second, c.forward_four-2.auto.a) in
    let n2 : length c.forward_four-3.new.a ≡ 4 = omega (arith, c.requires.long, c.split_at_mut-low.ensures.front_len, c.split_at_mut-low.ensures.back_len, c.split_at_mut-first.ensures.front_len, c.split_at_mut-first.ensures.back_len, c.split_at_mut-third.ensures.front_len, c.split_at_mut-third.ensures.back_len, c.forward_quarters.auto.third, c.forward_four-3.auto.a) in
    let s : get_or c.args.roots.now c.args.node 0 ≡ c.index-roots-node.result = sym (get_or_read c.args.roots.now c.args.node c.index-roots-node.result (omega arith) c.index-roots-node.is 0) in
    let u : get_or c.args.roots.now (2 * c.args.node) 0 ≡ c.index-roots-node-2.result = sym (get_or_read c.args.roots.now (2 * c.args.node) c.index-roots-node-2.result (omega arith) c.index-roots-node-2.is 0) in
    let v : get_or c.args.roots.now (2 * c.args.node + 1) 0 ≡ c.index-roots-node-3.result = sym (get_or_read c.args.roots.now (2 * c.args.node + 1) c.index-roots-node-3.result (omega arith) c.index-roots-node-3.is 0) in
    rw (c.split_at_mut-low.ensures.value, c.split_at_mut-first.ensures.value, c.split_at_mut-third.ensures.value)
    (forward_two_steps modulus 2 c.args.node c.args.roots.now
    (quarters c.split_at_mut-first.result.0.now c.split_at_mut-first.result.1.now c.split_at_mut-third.result.0.now c.split_at_mut-third.result.1.now)
    c.forward_quarters.new.first c.forward_quarters.new.second c.forward_quarters.new.third c.forward_quarters.new.fourth
    c.forward_four.new.a c.forward_four-2.new.a c.forward_four-3.new.a c.forward_four-4.new.a
    c.requires.tree c.requires.node (omega arith) n0 n1 n2 (rw (s, u, v, ← n) c.forward_quarters.ensures.folded)
    c.forward_four.ensures.values c.forward_four-2.ensures.values c.forward_four-3.ensures.values c.forward_four-4.ensures.values)

pub returns-clause-below : goal.returns-clause-below
returns-clause-below c = both_below (21 * modulus) (c.forward_four.new.a ++ c.forward_four-2.new.a) (c.forward_four-3.new.a ++ c.forward_four-4.new.a)
    (both_below (21 * modulus) c.forward_four.new.a c.forward_four-2.new.a c.forward_four.ensures.below c.forward_four-2.ensures.below)
    (both_below (21 * modulus) c.forward_four-3.new.a c.forward_four-4.new.a c.forward_four-3.ensures.below c.forward_four-4.ensures.below)
