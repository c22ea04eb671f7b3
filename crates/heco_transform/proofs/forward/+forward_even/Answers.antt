use Rattle.std.proofs.Common.{◌≡◌, ◌+◌, ◌-◌, ◌*◌, ◌^◌, ◌≤◌, length, arith, sym, get_or, ◌++◌}
use Rattle.std.proofs.lemmas.List.{get_or_read}
use Rattle.heco_transform.specs.Modulus.{modulus}
use Rattle.heco_transform.specs.Values.{quarters}
use Rattle.heco_transform.proofs.Steps.{forward_two_steps}
use Rattle.heco_transform.proofs.Walk.{fours, nodes_inside, grandchildren_inside, values_leaf, first_below, both_below}
use Rattle.heco_transform.proofs.forward.+forward_even.Goals as goal

pub returns-then-depth-eq0-clause-values : goal.returns-then-depth-eq0-clause-values
returns-then-depth-eq0-clause-values t c = rw c.if-depth-eq0.true (values_leaf _ c.args.node c.args.roots.now c.args.a.now)

pub bounds-roots-node : goal.bounds-roots-node
bounds-roots-node t c = omega (arith, nodes_inside c.args.depth c.args.node (length c.args.roots.now) (omega arith) c.requires.inside)

pub offset_bounds-roots-node-2 : goal.offset_bounds-roots-node-2
offset_bounds-roots-node-2 t c = omega (arith, nodes_inside c.args.depth c.args.node (length c.args.roots.now) (omega arith) c.requires.inside)

pub bounds-roots-node-2 : goal.bounds-roots-node-2
bounds-roots-node-2 t c = omega (arith, nodes_inside c.args.depth c.args.node (length c.args.roots.now) (omega arith) c.requires.inside)

pub offset_bounds-roots-node-3 : goal.offset_bounds-roots-node-3
offset_bounds-roots-node-3 t c = omega (arith, nodes_inside c.args.depth c.args.node (length c.args.roots.now) (omega arith) c.requires.inside)

pub bounds-roots-node-3 : goal.bounds-roots-node-3
bounds-roots-node-3 t c = omega (arith, nodes_inside c.args.depth c.args.node (length c.args.roots.now) (omega arith) c.requires.inside)

pub forward_quarters-requires-clause-fourth_long : goal.forward_quarters-requires-clause-fourth_long
forward_quarters-requires-clause-fourth_long t c =
    omega (arith, fours c.args.depth (omega arith), c.requires.long, c.split_at_mut-low.ensures.front_len, c.split_at_mut-low.ensures.back_len, c.split_at_mut-first.ensures.front_len, c.split_at_mut-third.ensures.back_len)

pub forward_even-requires : goal.forward_even-requires
forward_even-requires t c =
    let d : 2 ≤ c.args.depth = omega arith in
    let b = grandchildren_inside c.args.depth c.args.node (length c.args.roots.now) d c.requires.inside in
    let n : length c.split_at_mut-first.result.0.now ≡ 2 ^ (c.args.depth - 2) = omega (arith, fours c.args.depth d, c.requires.long, c.split_at_mut-low.ensures.front_len, c.split_at_mut-first.ensures.front_len) in
    let m : length c.forward_quarters.new.first ≡ 2 ^ (c.args.depth - 2) = omega (arith, fours c.args.depth d, c.requires.long, c.split_at_mut-low.ensures.front_len, c.split_at_mut-first.ensures.front_len, c.forward_quarters.auto.first) in (
      omega arith,
      (
        omega arith,
        (
          omega arith,
          (
            m,
            (
              omega arith,
              (
                omega (arith, b),
                (
                  c.requires.tree,
                  λ i l.
                      let s = first_below ((21 - 2 * c.args.depth) * modulus) i c.args.a.now c.split_at_mut-low.result.0.now c.split_at_mut-low.result.1.now c.split_at_mut-first.result.0.now c.split_at_mut-first.result.1.now c.split_at_mut-low.ensures.value c.split_at_mut-first.ensures.value c.requires.below (omega arith) in
                      omega (arith, s, c.forward_quarters.ensures.first_room i l),
                ),
              ),
            ),
          ),
        ),
      ),
    )

pub forward_even-requires-2 : goal.forward_even-requires-2
forward_even-requires-2 t c =
    let d : 2 ≤ c.args.depth = omega arith in
    let b = grandchildren_inside c.args.depth c.args.node (length c.args.roots.now) d c.requires.inside in
    let n : length c.split_at_mut-first.result.0.now ≡ 2 ^ (c.args.depth - 2) = omega (arith, fours c.args.depth d, c.requires.long, c.split_at_mut-low.ensures.front_len, c.split_at_mut-first.ensures.front_len) in
    let m : length c.forward_quarters.new.second ≡ 2 ^ (c.args.depth - 2) = omega (arith, fours c.args.depth d, c.requires.long, c.split_at_mut-low.ensures.front_len, c.split_at_mut-first.ensures.front_len, c.forward_quarters.auto.second, c.split_at_mut-first.ensures.back_len) in (
      omega arith,
      (
        omega arith,
        (
          omega arith,
          (
            m,
            (
              omega arith,
              (
                omega (arith, b),
                (
                  c.requires.tree,
                  λ i l.
                      let s = first_below ((21 - 2 * c.args.depth) * modulus) i c.args.a.now c.split_at_mut-low.result.0.now c.split_at_mut-low.result.1.now c.split_at_mut-first.result.0.now c.split_at_mut-first.result.1.now c.split_at_mut-low.ensures.value c.split_at_mut-first.ensures.value c.requires.below (omega arith) in
                      omega (arith, s, c.forward_quarters.ensures.second_room i l),
                ),
              ),
            ),
          ),
        ),
      ),
    )

pub forward_even-requires-3 : goal.forward_even-requires-3
forward_even-requires-3 t c =
    let d : 2 ≤ c.args.depth = omega arith in
    let b = grandchildren_inside c.args.depth c.args.node (length c.args.roots.now) d c.requires.inside in
    let n : length c.split_at_mut-first.result.0.now ≡ 2 ^ (c.args.depth - 2) = omega (arith, fours c.args.depth d, c.requires.long, c.split_at_mut-low.ensures.front_len, c.split_at_mut-first.ensures.front_len) in
    let m : length c.forward_quarters.new.third ≡ 2 ^ (c.args.depth - 2) = omega (arith, fours c.args.depth d, c.requires.long, c.split_at_mut-low.ensures.front_len, c.split_at_mut-first.ensures.front_len, c.forward_quarters.auto.third, c.split_at_mut-low.ensures.back_len, c.split_at_mut-third.ensures.front_len) in (
      omega arith,
      (
        omega arith,
        (
          omega arith,
          (
            m,
            (
              omega arith,
              (
                omega (arith, b),
                (
                  c.requires.tree,
                  λ i l.
                      let s = first_below ((21 - 2 * c.args.depth) * modulus) i c.args.a.now c.split_at_mut-low.result.0.now c.split_at_mut-low.result.1.now c.split_at_mut-first.result.0.now c.split_at_mut-first.result.1.now c.split_at_mut-low.ensures.value c.split_at_mut-first.ensures.value c.requires.below (omega arith) in
                      omega (arith, s, c.forward_quarters.ensures.third_room i l),
                ),
              ),
            ),
          ),
        ),
      ),
    )

pub forward_even-requires-4 : goal.forward_even-requires-4
forward_even-requires-4 t c =
    let d : 2 ≤ c.args.depth = omega arith in
    let b = grandchildren_inside c.args.depth c.args.node (length c.args.roots.now) d c.requires.inside in
    let n : length c.split_at_mut-first.result.0.now ≡ 2 ^ (c.args.depth - 2) = omega (arith, fours c.args.depth d, c.requires.long, c.split_at_mut-low.ensures.front_len, c.split_at_mut-first.ensures.front_len) in
    let m : length c.forward_quarters.new.fourth ≡ 2 ^ (c.args.depth - 2) = omega (arith, fours c.args.depth d, c.requires.long, c.split_at_mut-low.ensures.front_len, c.split_at_mut-first.ensures.front_len, c.forward_quarters.auto.fourth, c.split_at_mut-low.ensures.back_len, c.split_at_mut-third.ensures.back_len) in (
      omega arith,
      (
        omega arith,
        (
          omega arith,
          (
            m,
            (
              omega arith,
              (
                omega (arith, b),
                (
                  c.requires.tree,
                  λ i l.
                      let s = first_below ((21 - 2 * c.args.depth) * modulus) i c.args.a.now c.split_at_mut-low.result.0.now c.split_at_mut-low.result.1.now c.split_at_mut-first.result.0.now c.split_at_mut-first.result.1.now c.split_at_mut-low.ensures.value c.split_at_mut-first.ensures.value c.requires.below (omega arith) in
                      omega (arith, s, c.forward_quarters.ensures.fourth_room i l),
                ),
              ),
            ),
          ),
        ),
      ),
    )

pub returns-clause-values : goal.returns-clause-values
returns-clause-values t c =
    let d : 2 ≤ c.args.depth = omega arith in
    let b = grandchildren_inside c.args.depth c.args.node (length c.args.roots.now) d c.requires.inside in
    let r = nodes_inside c.args.depth c.args.node (length c.args.roots.now) d c.requires.inside in
    let n : length c.split_at_mut-first.result.0.now ≡ 2 ^ (c.args.depth - 2) = omega (arith, fours c.args.depth d, c.requires.long, c.split_at_mut-low.ensures.front_len, c.split_at_mut-first.ensures.front_len) in
    let n0 : length c.forward_even.new.a ≡ 2 ^ (c.args.depth - 2) = omega (arith, fours c.args.depth d, c.requires.long, c.split_at_mut-low.ensures.front_len, c.split_at_mut-first.ensures.front_len, c.forward_quarters.auto.first, c.forward_even.auto.a) in
    let n1 : length c.forward_even-2.new.a ≡ 2 ^ (c.args.depth - 2) = omega (arith, fours c.args.depth d, c.requires.long, c.split_at_mut-low.ensures.front_len, c.split_at_mut-first.ensures.front_len, c.forward_quarters.auto.second, c.split_at_mut-first.ensures.back_len, c.forward_even-2.auto.a) in
    let n2 : length c.forward_even-3.new.a ≡ 2 ^ (c.args.depth - 2) = omega (arith, fours c.args.depth d, c.requires.long, c.split_at_mut-low.ensures.front_len, c.split_at_mut-first.ensures.front_len, c.forward_quarters.auto.third, c.split_at_mut-low.ensures.back_len, c.split_at_mut-third.ensures.front_len, c.forward_even-3.auto.a) in
    let s : get_or c.args.roots.now c.args.node 0 ≡ c.index-roots-node.result = sym (get_or_read c.args.roots.now c.args.node c.index-roots-node.result (omega arith) c.index-roots-node.is 0) in
    let u : get_or c.args.roots.now (2 * c.args.node) 0 ≡ c.index-roots-node-2.result = sym (get_or_read c.args.roots.now (2 * c.args.node) c.index-roots-node-2.result (omega arith) c.index-roots-node-2.is 0) in
    let v : get_or c.args.roots.now (2 * c.args.node + 1) 0 ≡ c.index-roots-node-3.result = sym (get_or_read c.args.roots.now (2 * c.args.node + 1) c.index-roots-node-3.result (omega arith) c.index-roots-node-3.is 0) in
    rw (fours c.args.depth d, c.split_at_mut-low.ensures.value, c.split_at_mut-first.ensures.value, c.split_at_mut-third.ensures.value)
    (forward_two_steps modulus (c.args.depth - 2) c.args.node c.args.roots.now
    (quarters c.split_at_mut-first.result.0.now c.split_at_mut-first.result.1.now c.split_at_mut-third.result.0.now c.split_at_mut-third.result.1.now)
    c.forward_quarters.new.first c.forward_quarters.new.second c.forward_quarters.new.third c.forward_quarters.new.fourth
    c.forward_even.new.a c.forward_even-2.new.a c.forward_even-3.new.a c.forward_even-4.new.a
    c.requires.tree c.requires.node (omega (arith, b)) n0 n1 n2 (rw (s, u, v, ← n) c.forward_quarters.ensures.folded)
    c.forward_even.ensures.values c.forward_even-2.ensures.values c.forward_even-3.ensures.values c.forward_even-4.ensures.values)

pub returns-clause-below : goal.returns-clause-below
returns-clause-below t c = both_below (21 * modulus) (c.forward_even.new.a ++ c.forward_even-2.new.a) (c.forward_even-3.new.a ++ c.forward_even-4.new.a)
    (both_below (21 * modulus) c.forward_even.new.a c.forward_even-2.new.a c.forward_even.ensures.below c.forward_even-2.ensures.below)
    (both_below (21 * modulus) c.forward_even-3.new.a c.forward_even-4.new.a c.forward_even-3.ensures.below c.forward_even-4.ensures.below)
