use Rattle.std.proofs.Common.{◌≡◌, ◌+◌, ◌*◌, ◌^◌, ◌≤◌, length, arith, sym, get_or, ◌++◌}
use Rattle.std.proofs.lemmas.List.{get_or_read}
use Rattle.heco_transform.specs.Modulus.{modulus}
use Rattle.heco_transform.specs.Values.{node, fold, quarters}
use Rattle.heco_transform.proofs.Steps.{folded_fours, inverse_two_steps}
use Rattle.heco_transform.proofs.Walk.{both_below}
use Rattle.heco_transform.proofs.inverse.inverse_sixteen.Goals as goal

pub returns-clause-value : goal.returns-clause-value
returns-clause-value c = λ r b tree inv v.
    let within : 2 ^ 2 * (4 * c.args.node) + 4 * 2 ^ 2 ≤ 2 * length r = omega (arith, c.requires.inside, inv.long) in
    let n0 : length c.split_at_mut-first.result.0.now ≡ 4 = omega (arith, c.requires.long, c.split_at_mut-low.ensures.front_len, c.split_at_mut-low.ensures.back_len, c.split_at_mut-first.ensures.front_len, c.split_at_mut-first.ensures.back_len, c.split_at_mut-third.ensures.front_len, c.split_at_mut-third.ensures.back_len) in
    let n1 : length c.split_at_mut-first.result.1.now ≡ 4 = omega (arith, c.requires.long, c.split_at_mut-low.ensures.front_len, c.split_at_mut-low.ensures.back_len, c.split_at_mut-first.ensures.front_len, c.split_at_mut-first.ensures.back_len, c.split_at_mut-third.ensures.front_len, c.split_at_mut-third.ensures.back_len) in
    let n2 : length c.split_at_mut-third.result.0.now ≡ 4 = omega (arith, c.requires.long, c.split_at_mut-low.ensures.front_len, c.split_at_mut-low.ensures.back_len, c.split_at_mut-first.ensures.front_len, c.split_at_mut-first.ensures.back_len, c.split_at_mut-third.ensures.front_len, c.split_at_mut-third.ensures.back_len) in
    let n : length c.inverse_four.new.a ≡ 4 = omega (arith, n0, c.inverse_four.auto.a) in
    let s : get_or c.args.inverses.now c.args.node 0 ≡ c.index-inverses-node.result = sym (get_or_read c.args.inverses.now c.args.node c.index-inverses-node.result (omega arith) c.index-inverses-node.is 0) in
    let u : get_or c.args.inverses.now (2 * c.args.node) 0 ≡ c.index-inverses-node-2.result = sym (get_or_read c.args.inverses.now (2 * c.args.node) c.index-inverses-node-2.result (omega arith) c.index-inverses-node-2.is 0) in
    let w : get_or c.args.inverses.now (2 * c.args.node + 1) 0 ≡ c.index-inverses-node-3.result = sym (get_or_read c.args.inverses.now (2 * c.args.node + 1) c.index-inverses-node-3.result (omega arith) c.index-inverses-node-3.is 0) in
    let four = folded_fours modulus 2 c.args.node r b c.split_at_mut-first.result.0.now c.split_at_mut-first.result.1.now c.split_at_mut-third.result.0.now c.split_at_mut-third.result.1.now
    tree c.requires.node within n0 n1 n2 (rw (c.split_at_mut-low.ensures.value, c.split_at_mut-first.ensures.value, c.split_at_mut-third.ensures.value) at v) in
    inverse_two_steps modulus 2 c.args.node c.index-inverses-node.result c.index-inverses-node-2.result c.index-inverses-node-3.result r c.args.inverses.now b
    (quarters c.inverse_quarters.new.first c.inverse_quarters.new.second c.inverse_quarters.new.third c.inverse_quarters.new.fourth)
    c.inverse_four.new.a c.inverse_four-2.new.a c.inverse_four-3.new.a c.inverse_four-4.new.a inv (omega (arith, inv.long)) s u w
    (c.inverse_four.ensures.value r (fold 4 (node r (4 * c.args.node)) (fold 8 (node r (2 * c.args.node)) b)) tree inv four.first)
    (c.inverse_four-2.ensures.value r (fold 4 (node r (4 * c.args.node + 1)) (fold 8 (node r (2 * c.args.node)) b)) tree inv four.second)
    (c.inverse_four-3.ensures.value r (fold 4 (node r (4 * c.args.node + 2)) (fold 8 (node r (2 * c.args.node + 1)) b)) tree inv four.third)
    (c.inverse_four-4.ensures.value r (fold 4 (node r (4 * c.args.node + 3)) (fold 8 (node r (2 * c.args.node + 1)) b)) tree inv four.fourth)
    (rw n at c.inverse_quarters.ensures.value)

pub returns-clause-below : goal.returns-clause-below
returns-clause-below c = both_below (32 * modulus) (c.inverse_quarters.new.first ++ c.inverse_quarters.new.second) (c.inverse_quarters.new.third ++ c.inverse_quarters.new.fourth)
    (both_below (32 * modulus) c.inverse_quarters.new.first c.inverse_quarters.new.second
    (λ k l. omega (
      arith,
      c.inverse_quarters.ensures.first_room k l,
      c.inverse_four.ensures.below k (omega (arith, c.requires.long, c.split_at_mut-low.ensures.front_len, c.split_at_mut-low.ensures.back_len, c.split_at_mut-first.ensures.front_len, c.split_at_mut-first.ensures.back_len, c.split_at_mut-third.ensures.front_len, c.split_at_mut-third.ensures.back_len, c.inverse_four.auto.a, c.inverse_quarters.auto.first)),
      c.inverse_four-2.ensures.below k (omega (arith, c.requires.long, c.split_at_mut-low.ensures.front_len, c.split_at_mut-low.ensures.back_len, c.split_at_mut-first.ensures.front_len, c.split_at_mut-first.ensures.back_len, c.split_at_mut-third.ensures.front_len, c.split_at_mut-third.ensures.back_len, c.inverse_four.auto.a, c.inverse_quarters.auto.first, c.inverse_four-2.auto.a)),
      c.inverse_four-3.ensures.below k (omega (arith, c.requires.long, c.split_at_mut-low.ensures.front_len, c.split_at_mut-low.ensures.back_len, c.split_at_mut-first.ensures.front_len, c.split_at_mut-first.ensures.back_len, c.split_at_mut-third.ensures.front_len, c.split_at_mut-third.ensures.back_len, c.inverse_four.auto.a, c.inverse_quarters.auto.first, c.inverse_four-3.auto.a)),
      c.inverse_four-4.ensures.below k (omega (arith, c.requires.long, c.split_at_mut-low.ensures.front_len, c.split_at_mut-low.ensures.back_len, c.split_at_mut-first.ensures.front_len, c.split_at_mut-first.ensures.back_len, c.split_at_mut-third.ensures.front_len, c.split_at_mut-third.ensures.back_len, c.inverse_four.auto.a, c.inverse_quarters.auto.first, c.inverse_four-4.auto.a)),
    ))
    (λ k l. omega (arith, c.inverse_quarters.ensures.second_room k l)))
    (both_below (32 * modulus) c.inverse_quarters.new.third c.inverse_quarters.new.fourth (λ k l. omega (arith, c.inverse_quarters.ensures.third_room k l)) (λ k l. omega (arith, c.inverse_quarters.ensures.fourth_room k l)))
