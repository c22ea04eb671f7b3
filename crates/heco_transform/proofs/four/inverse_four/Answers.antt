use Rattle.std.proofs.Common.{◌≡◌, ◌+◌, ◌*◌, ℕ, arith, sym, subst, get_or, ◌∙◌, List}
use lib.IntN.{pos, ◌+ℤ◌}
use Rattle.std.proofs.lemmas.List.{get_or_read}
use Rattle.heco_ring.proofs.Remainders.{cong_refl}
use Rattle.heco_ring.specs.Remainders.{Cong}
use Rattle.heco_transform.specs.Modulus.{modulus}
use Rattle.heco_transform.specs.Values.{Values}
use Rattle.heco_transform.proofs.Fours.{written, four_list, four_back, four_below}
use Rattle.heco_transform.proofs.four.inverse_four.Goals as goal

exact : (r x y : ℕ) → r ≡ x + y → Cong modulus (pos r) (pos x +ℤ pos y)
exact r x y e = rw e (cong_refl modulus (pos (x + y)))

pub returns-clause-value : goal.returns-clause-value
returns-clause-value c = λ t b tree inv w.
    let i = c.args.node in
    let s0 : get_or c.args.inverses.now (2 * c.args.node) 0 ≡ c.index-inverses-node.result = sym (get_or_read c.args.inverses.now (2 * c.args.node) c.index-inverses-node.result (omega arith) c.index-inverses-node.is 0) in
    let s1 : get_or c.args.inverses.now (2 * c.args.node + 1) 0 ≡ c.index-inverses-node-2.result = sym (get_or_read c.args.inverses.now (2 * c.args.node + 1) c.index-inverses-node-2.result (omega arith) c.index-inverses-node-2.is 0) in
    let s2 : get_or c.args.inverses.now c.args.node 0 ≡ c.index-inverses-node-3.result = sym (get_or_read c.args.inverses.now c.args.node c.index-inverses-node-3.result (omega arith) c.index-inverses-node-3.is 0) in
    let s3 : get_or c.args.inverses.now c.args.node 0 ≡ c.index-inverses-node-4.result = sym (get_or_read c.args.inverses.now c.args.node c.index-inverses-node-4.result (omega arith) c.index-inverses-node-4.is 0) in
    let w' = subst (λ (v : List ℕ). Values modulus 4 c.args.node t b v) (four_list c.args.a.now c.requires.long) w in
    rw (written c.args.a.now c.inverse_butterfly-b0.result.0 c.inverse_butterfly-b1.result.0 c.inverse_butterfly-b0.result.1 c.inverse_butterfly-b1.result.1 c.requires.long)
    (four_back modulus c.args.node c.index-inverses-node.result c.index-inverses-node-2.result c.index-inverses-node-3.result c.index-inverses-node-4.result t b
    (get_or c.args.a.now 0 0) (get_or c.args.a.now 1 0) (get_or c.args.a.now 2 0) (get_or c.args.a.now 3 0)
    c.inverse_butterfly-c0.result.0 c.inverse_butterfly-c0.result.1 c.inverse_butterfly-c2.result.0 c.inverse_butterfly-c2.result.1 c.inverse_butterfly-b0.result.0 c.inverse_butterfly-b1.result.0 c.inverse_butterfly-b0.result.1 c.inverse_butterfly-b1.result.1
    tree c.requires.node (omega (arith, inv.long))
    (rw s0 at (inv.each (2 * i) (omega (arith, inv.long)))) (rw s1 at (inv.each (2 * i + 1) (omega (arith, inv.long)))) (rw s2 at (inv.each i (omega (arith, inv.long)))) (sym s3 ∙ s2) w'
    (exact c.inverse_butterfly-c0.result.0 (get_or c.args.a.now 0 0) (get_or c.args.a.now 1 0) c.inverse_butterfly-c0.ensures.sum) c.inverse_butterfly-c0.ensures.difference
    (exact c.inverse_butterfly-c2.result.0 (get_or c.args.a.now 2 0) (get_or c.args.a.now 3 0) c.inverse_butterfly-c2.ensures.sum) c.inverse_butterfly-c2.ensures.difference
    (exact c.inverse_butterfly-b0.result.0 c.inverse_butterfly-c0.result.0 c.inverse_butterfly-c2.result.0 c.inverse_butterfly-b0.ensures.sum) c.inverse_butterfly-b0.ensures.difference
    (exact c.inverse_butterfly-b1.result.0 c.inverse_butterfly-c0.result.1 c.inverse_butterfly-c2.result.1 c.inverse_butterfly-b1.ensures.sum) c.inverse_butterfly-b1.ensures.difference)

pub returns-clause-below : goal.returns-clause-below
returns-clause-below c =
    let a0 = c.requires.below 0 (omega (arith, c.requires.long)) in
    let a1 = c.requires.below 1 (omega (arith, c.requires.long)) in
    let a2 = c.requires.below 2 (omega (arith, c.requires.long)) in
    let a3 = c.requires.below 3 (omega (arith, c.requires.long)) in
    rw (written c.args.a.now c.inverse_butterfly-b0.result.0 c.inverse_butterfly-b1.result.0 c.inverse_butterfly-b0.result.1 c.inverse_butterfly-b1.result.1 c.requires.long)
    (four_below (8 * modulus) c.inverse_butterfly-b0.result.0 c.inverse_butterfly-b1.result.0 c.inverse_butterfly-b0.result.1 c.inverse_butterfly-b1.result.1
    (omega (arith, a0, a1, a2, a3, c.inverse_butterfly-b0.ensures.sum, c.inverse_butterfly-c0.ensures.sum, c.inverse_butterfly-c2.ensures.sum))
    (omega (arith, c.inverse_butterfly-b1.ensures.sum, c.inverse_butterfly-c0.ensures.room, c.inverse_butterfly-c2.ensures.room))
    (omega (arith, c.inverse_butterfly-b0.ensures.room))
    (omega (arith, c.inverse_butterfly-b1.ensures.room)))
