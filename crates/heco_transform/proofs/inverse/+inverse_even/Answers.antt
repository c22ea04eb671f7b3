use Rattle.std.proofs.Common.{◌≡◌, ◌+◌, ◌-◌, ◌*◌, ◌^◌, ◌≤◌, length, arith, sym, get_or, ◌++◌}
use Rattle.std.proofs.lemmas.List.{get_or_read}
use Rattle.heco_transform.specs.Modulus.{modulus}
use Rattle.heco_transform.specs.Values.{node, fold, quarters}
use Rattle.heco_transform.proofs.Steps.{folded_fours, inverse_two_steps}
use Rattle.heco_transform.proofs.Walk.{fours, power_positive, power_small, nodes_inside, grandchildren_inside, same_leaf, front_below, back_below, both_below}
use Rattle.heco_transform.proofs.inverse.+inverse_even.Goals as goal

pub returns-then-depth-eq0-clause-value : goal.returns-then-depth-eq0-clause-value
returns-then-depth-eq0-clause-value t c = rw c.if-depth-eq0.true (λ r b _ _ v. same_leaf modulus c.args.node r c.args.a.now b v)

pub bounds-inverses-node : goal.bounds-inverses-node
bounds-inverses-node t c = omega (arith, nodes_inside c.args.depth c.args.node (length c.args.inverses.now) (omega arith) c.requires.inside)

pub offset_bounds-inverses-node-2 : goal.offset_bounds-inverses-node-2
offset_bounds-inverses-node-2 t c = omega (arith, nodes_inside c.args.depth c.args.node (length c.args.inverses.now) (omega arith) c.requires.inside)

pub bounds-inverses-node-2 : goal.bounds-inverses-node-2
bounds-inverses-node-2 t c = omega (arith, nodes_inside c.args.depth c.args.node (length c.args.inverses.now) (omega arith) c.requires.inside)

pub offset_bounds-inverses-node-3 : goal.offset_bounds-inverses-node-3
offset_bounds-inverses-node-3 t c = omega (arith, nodes_inside c.args.depth c.args.node (length c.args.inverses.now) (omega arith) c.requires.inside)

pub bounds-inverses-node-3 : goal.bounds-inverses-node-3
bounds-inverses-node-3 t c = omega (arith, nodes_inside c.args.depth c.args.node (length c.args.inverses.now) (omega arith) c.requires.inside)

pub inverse_even-requires : goal.inverse_even-requires
inverse_even-requires t c =
    let d : 2 ≤ c.args.depth = omega arith in
    let b = grandchildren_inside c.args.depth c.args.node (length c.args.inverses.now) d c.requires.inside in
    let m : length c.split_at_mut-first.result.0.now ≡ 2 ^ (c.args.depth - 2) = omega (arith, fours c.args.depth d, c.requires.long, c.split_at_mut-low.ensures.front_len, c.split_at_mut-first.ensures.front_len) in (
      omega arith,
      (
        omega arith,
        (
          omega arith,
          (
            m,
            (
              omega arith,
              (
                omega (arith, b),
                λ i l.
                    front_below (2 * modulus) i c.split_at_mut-low.result.0.now c.split_at_mut-first.result.0.now c.split_at_mut-first.result.1.now c.split_at_mut-first.ensures.value
                    (λ k e. front_below (2 * modulus) k c.args.a.now c.split_at_mut-low.result.0.now c.split_at_mut-low.result.1.now c.split_at_mut-low.ensures.value c.requires.below e) l,
              ),
            ),
          ),
        ),
      ),
    )

pub inverse_even-requires-2 : goal.inverse_even-requires-2
inverse_even-requires-2 t c =
    let d : 2 ≤ c.args.depth = omega arith in
    let b = grandchildren_inside c.args.depth c.args.node (length c.args.inverses.now) d c.requires.inside in
    let m : length c.split_at_mut-first.result.1.now ≡ 2 ^ (c.args.depth - 2) = omega (arith, fours c.args.depth d, c.requires.long, c.split_at_mut-low.ensures.front_len, c.split_at_mut-first.ensures.front_len, c.split_at_mut-first.ensures.back_len) in (
      omega arith,
      (
        omega arith,
        (
          omega arith,
          (
            m,
            (
              omega arith,
              (
                omega (arith, b),
                λ i l.
                    back_below (2 * modulus) i c.split_at_mut-low.result.0.now c.split_at_mut-first.result.0.now c.split_at_mut-first.result.1.now c.split_at_mut-first.ensures.value
                    (λ k e. front_below (2 * modulus) k c.args.a.now c.split_at_mut-low.result.0.now c.split_at_mut-low.result.1.now c.split_at_mut-low.ensures.value c.requires.below e) l,
              ),
            ),
          ),
        ),
      ),
    )

pub inverse_even-requires-3 : goal.inverse_even-requires-3
inverse_even-requires-3 t c =
    let d : 2 ≤ c.args.depth = omega arith in
    let b = grandchildren_inside c.args.depth c.args.node (length c.args.inverses.now) d c.requires.inside in
    let m : length c.split_at_mut-third.result.0.now ≡ 2 ^ (c.args.depth - 2) = omega (arith, fours c.args.depth d, c.requires.long, c.split_at_mut-low.ensures.front_len, c.split_at_mut-first.ensures.front_len, c.split_at_mut-low.ensures.back_len, c.split_at_mut-third.ensures.front_len) in (
      omega arith,
      (
        omega arith,
        (
          omega arith,
          (
            m,
            (
              omega arith,
              (
                omega (arith, b),
                λ i l.
                    front_below (2 * modulus) i c.split_at_mut-low.result.1.now c.split_at_mut-third.result.0.now c.split_at_mut-third.result.1.now c.split_at_mut-third.ensures.value
                    (λ k e. back_below (2 * modulus) k c.args.a.now c.split_at_mut-low.result.0.now c.split_at_mut-low.result.1.now c.split_at_mut-low.ensures.value c.requires.below e) l,
              ),
            ),
          ),
        ),
      ),
    )

pub inverse_even-requires-4 : goal.inverse_even-requires-4
inverse_even-requires-4 t c =
    let d : 2 ≤ c.args.depth = omega arith in
    let b = grandchildren_inside c.args.depth c.args.node (length c.args.inverses.now) d c.requires.inside in
    let m : length c.split_at_mut-third.result.1.now ≡ 2 ^ (c.args.depth - 2) = omega (arith, fours c.args.depth d, c.requires.long, c.split_at_mut-low.ensures.front_len, c.split_at_mut-first.ensures.front_len, c.split_at_mut-low.ensures.back_len, c.split_at_mut-third.ensures.back_len) in (
      omega arith,
      (
        omega arith,
        (
          omega arith,
          (
            m,
            (
              omega arith,
              (
                omega (arith, b),
                λ i l.
                    back_below (2 * modulus) i c.split_at_mut-low.result.1.now c.split_at_mut-third.result.0.now c.split_at_mut-third.result.1.now c.split_at_mut-third.ensures.value
                    (λ k e. back_below (2 * modulus) k c.args.a.now c.split_at_mut-low.result.0.now c.split_at_mut-low.result.1.now c.split_at_mut-low.ensures.value c.requires.below e) l,
              ),
            ),
          ),
        ),
      ),
    )

pub inverse_quarters-requires-clause-fourth_long : goal.inverse_quarters-requires-clause-fourth_long
inverse_quarters-requires-clause-fourth_long t c =
    let d : 2 ≤ c.args.depth = omega arith in
    omega (arith, fours c.args.depth d, c.requires.long, c.split_at_mut-low.ensures.front_len, c.split_at_mut-first.ensures.front_len, c.split_at_mut-low.ensures.back_len, c.split_at_mut-third.ensures.back_len, c.inverse_even.auto.a, c.inverse_even-4.auto.a)

pub inverse_quarters-requires-clause-first_below : goal.inverse_quarters-requires-clause-first_below
inverse_quarters-requires-clause-first_below t c =
    let d : 2 ≤ c.args.depth = omega arith in
    λ i l. omega (arith, fours c.args.depth d, power_small c.args.depth c.requires.depth, c.inverse_even.ensures.below i l)

pub inverse_quarters-requires-clause-second_below : goal.inverse_quarters-requires-clause-second_below
inverse_quarters-requires-clause-second_below t c =
    let d : 2 ≤ c.args.depth = omega arith in
    λ i l. omega (arith, fours c.args.depth d, power_small c.args.depth c.requires.depth, c.inverse_even-2.ensures.below i l)

pub inverse_quarters-requires-clause-third_below : goal.inverse_quarters-requires-clause-third_below
inverse_quarters-requires-clause-third_below t c =
    let d : 2 ≤ c.args.depth = omega arith in
    λ i l. omega (arith, fours c.args.depth d, power_small c.args.depth c.requires.depth, c.inverse_even-3.ensures.below i l)

pub inverse_quarters-requires-clause-fourth_below : goal.inverse_quarters-requires-clause-fourth_below
inverse_quarters-requires-clause-fourth_below t c =
    let d : 2 ≤ c.args.depth = omega arith in
    λ i l. omega (arith, fours c.args.depth d, power_small c.args.depth c.requires.depth, c.inverse_even-4.ensures.below i l)

pub returns-clause-value : goal.returns-clause-value
returns-clause-value t c = λ r b tree inv v.
    let d : 2 ≤ c.args.depth = omega arith in
    let ins = grandchildren_inside c.args.depth c.args.node (length c.args.inverses.now) d c.requires.inside in
    let nodes = nodes_inside c.args.depth c.args.node (length c.args.inverses.now) d c.requires.inside in
    let within : 2 ^ (c.args.depth - 2) * (4 * c.args.node) + 4 * 2 ^ (c.args.depth - 2) ≤ 2 * length r = omega (arith, ins, inv.long) in
    let n0 : length c.split_at_mut-first.result.0.now ≡ 2 ^ (c.args.depth - 2) = omega (arith, fours c.args.depth d, c.requires.long, c.split_at_mut-low.ensures.front_len, c.split_at_mut-first.ensures.front_len) in
    let n1 : length c.split_at_mut-first.result.1.now ≡ 2 ^ (c.args.depth - 2) = omega (arith, fours c.args.depth d, c.requires.long, c.split_at_mut-low.ensures.front_len, c.split_at_mut-first.ensures.front_len, c.split_at_mut-first.ensures.back_len) in
    let n2 : length c.split_at_mut-third.result.0.now ≡ 2 ^ (c.args.depth - 2) = omega (arith, fours c.args.depth d, c.requires.long, c.split_at_mut-low.ensures.front_len, c.split_at_mut-first.ensures.front_len, c.split_at_mut-low.ensures.back_len, c.split_at_mut-third.ensures.front_len) in
    let n : length c.inverse_even.new.a ≡ 2 ^ (c.args.depth - 2) = omega (arith, n0, c.inverse_even.auto.a) in
    let s : get_or c.args.inverses.now c.args.node 0 ≡ c.index-inverses-node.result = sym (get_or_read c.args.inverses.now c.args.node c.index-inverses-node.result (omega arith) c.index-inverses-node.is 0) in
    let u : get_or c.args.inverses.now (2 * c.args.node) 0 ≡ c.index-inverses-node-2.result = sym (get_or_read c.args.inverses.now (2 * c.args.node) c.index-inverses-node-2.result (omega arith) c.index-inverses-node-2.is 0) in
    let w : get_or c.args.inverses.now (2 * c.args.node + 1) 0 ≡ c.index-inverses-node-3.result = sym (get_or_read c.args.inverses.now (2 * c.args.node + 1) c.index-inverses-node-3.result (omega arith) c.index-inverses-node-3.is 0) in
    let four = folded_fours modulus (c.args.depth - 2) c.args.node r b c.split_at_mut-first.result.0.now c.split_at_mut-first.result.1.now c.split_at_mut-third.result.0.now c.split_at_mut-third.result.1.now
    tree c.requires.node within n0 n1 n2 (rw (fours c.args.depth d, c.split_at_mut-low.ensures.value, c.split_at_mut-first.ensures.value, c.split_at_mut-third.ensures.value) at v) in
    rw (fours c.args.depth d)
    (inverse_two_steps modulus (c.args.depth - 2) c.args.node c.index-inverses-node.result c.index-inverses-node-2.result c.index-inverses-node-3.result r c.args.inverses.now b
    (quarters c.inverse_quarters.new.first c.inverse_quarters.new.second c.inverse_quarters.new.third c.inverse_quarters.new.fourth)
    c.inverse_even.new.a c.inverse_even-2.new.a c.inverse_even-3.new.a c.inverse_even-4.new.a inv (omega (arith, nodes, inv.long)) s u w
    (c.inverse_even.ensures.value r (fold (2 ^ (c.args.depth - 2)) (node r (4 * c.args.node)) (fold (2 ^ (c.args.depth - 2) + 2 ^ (c.args.depth - 2)) (node r (2 * c.args.node)) b)) tree inv four.first)
    (c.inverse_even-2.ensures.value r (fold (2 ^ (c.args.depth - 2)) (node r (4 * c.args.node + 1)) (fold (2 ^ (c.args.depth - 2) + 2 ^ (c.args.depth - 2)) (node r (2 * c.args.node)) b)) tree inv four.second)
    (c.inverse_even-3.ensures.value r (fold (2 ^ (c.args.depth - 2)) (node r (4 * c.args.node + 2)) (fold (2 ^ (c.args.depth - 2) + 2 ^ (c.args.depth - 2)) (node r (2 * c.args.node + 1)) b)) tree inv four.third)
    (c.inverse_even-4.ensures.value r (fold (2 ^ (c.args.depth - 2)) (node r (4 * c.args.node + 3)) (fold (2 ^ (c.args.depth - 2) + 2 ^ (c.args.depth - 2)) (node r (2 * c.args.node + 1)) b)) tree inv four.fourth)
    (rw n at c.inverse_quarters.ensures.value))

pub returns-clause-below : goal.returns-clause-below
returns-clause-below t c =
    let d : 2 ≤ c.args.depth = omega arith in
    let h = fours c.args.depth d in
    let p = power_positive (c.args.depth - 2) in
    both_below (2 ^ c.args.depth * (2 * modulus)) (c.inverse_quarters.new.first ++ c.inverse_quarters.new.second) (c.inverse_quarters.new.third ++ c.inverse_quarters.new.fourth)
    (both_below (2 ^ c.args.depth * (2 * modulus)) c.inverse_quarters.new.first c.inverse_quarters.new.second
    (λ k l. omega (
      arith,
      h,
      c.inverse_quarters.ensures.first_room k l,
      c.inverse_even.ensures.below k (omega (arith, h, c.requires.long, c.split_at_mut-low.ensures.front_len, c.split_at_mut-first.ensures.front_len, c.inverse_even.auto.a, c.inverse_quarters.auto.first)),
      c.inverse_even-2.ensures.below k (omega (arith, h, c.requires.long, c.split_at_mut-low.ensures.front_len, c.split_at_mut-first.ensures.front_len, c.inverse_even.auto.a, c.inverse_quarters.auto.first, c.split_at_mut-first.ensures.back_len, c.inverse_even-2.auto.a)),
      c.inverse_even-3.ensures.below k (omega (arith, h, c.requires.long, c.split_at_mut-low.ensures.front_len, c.split_at_mut-first.ensures.front_len, c.inverse_even.auto.a, c.inverse_quarters.auto.first, c.split_at_mut-low.ensures.back_len, c.split_at_mut-third.ensures.front_len, c.inverse_even-3.auto.a)),
      c.inverse_even-4.ensures.below k (omega (arith, h, c.requires.long, c.split_at_mut-low.ensures.front_len, c.split_at_mut-first.ensures.front_len, c.inverse_even.auto.a, c.inverse_quarters.auto.first, c.split_at_mut-low.ensures.back_len, c.split_at_mut-third.ensures.back_len, c.inverse_even-4.auto.a)),
    ))
    (λ k l. omega (arith, h, p, c.inverse_quarters.ensures.second_room k l)))
    (both_below (2 ^ c.args.depth * (2 * modulus)) c.inverse_quarters.new.third c.inverse_quarters.new.fourth (λ k l. omega (arith, h, p, c.inverse_quarters.ensures.third_room k l)) (λ k l. omega (arith, h, p, c.inverse_quarters.ensures.fourth_room k l)))
