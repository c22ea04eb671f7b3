use Rattle.std.proofs.Common.{◌≡◌, ◌+◌, ◌-◌, ◌*◌, ◌<◌, ◌≤◌, ◌^◌, ℕ, get_or, refl, ◌∙◌, arith}
use Rattle.std.proofs.lemmas.List.{get_or_read}
use Rattle.std.proofs.lemmas.Nat.{pow_pos}
use Rattle.heco_marks.specs.Trees.{AreSums}
use Rattle.heco_marks.proofs.Mending.{mended_leaves, inside}
use Rattle.heco_marks.proofs.Building.{unsummed, summed_next}
use Rattle.heco_marks.proofs.tree.sum_up.Goals as goal

next_summed : (leaves node : ℕ) (counts : _) → 1 < node → AreSums leaves (λ i. node ≤ i) counts → AreSums leaves (λ i. node - 1 + 1 ≤ i) counts
next_summed leaves node counts some t = let e : node - 1 + 1 ≡ node = omega arith in rw e t

pub loop-node-init : goal.loop-node-init
loop-node-init c =
    let some : 0 < c.args.leaves = (let is : c.args.leaves ≡ 2 ^ c.requires.power.0 = c.requires.power.1 in rw is (pow_pos c.requires.power.0)) in
    record { few = omega arith; some = omega arith; sums = unsummed _ c.requires.leaves.0 _ c.requires.power c.requires.few c.requires.leaves.1; same = λ x. refl }

pub overflow_add-index : goal.overflow_add-index
overflow_add-index c =
    let few = c.loop-node.invariant.few in
    let t = next_summed _ _ _ (omega arith) c.loop-node.invariant.sums in
    let i = inside _ _ _ (c.loop-node.node - 1) t (omega arith) (omega arith) in
    let left : c.index.result.now ≡ get_or c.loop-node.counts.items (2 * (c.loop-node.node - 1)) 0 = get_or_read c.loop-node.counts.items _ _ (omega (arith, i.1)) c.index.ensures 0 in
    let right : c.index-in-loop-node.result.now ≡ get_or c.loop-node.counts.items (2 * (c.loop-node.node - 1) + 1) 0 = get_or_read c.loop-node.counts.items _ _ (omega (arith, i.1)) c.index-in-loop-node.ensures 0 in
    omega (arith, i.3)

pub loop-node-preserved : goal.loop-node-preserved
loop-node-preserved c =
    let few = c.loop-node.invariant.few in
    let t = next_summed _ _ _ (omega arith) c.loop-node.invariant.sums in
    let i = inside _ _ _ (c.loop-node.node - 1) t (omega arith) (omega arith) in
    let left : c.index.result.now ≡ get_or c.loop-node.counts.items (2 * (c.loop-node.node - 1)) 0 = get_or_read c.loop-node.counts.items _ _ (omega (arith, i.1)) c.index.ensures 0 in
    let right : c.index-in-loop-node.result.now ≡ get_or c.loop-node.counts.items (2 * (c.loop-node.node - 1) + 1) 0 = get_or_read c.loop-node.counts.items _ _ (omega (arith, i.1)) c.index-in-loop-node.ensures 0 in
    record {
      few = omega arith;
      some = omega arith;
      sums = rw (left, right) (summed_next _ _ (c.loop-node.node - 1) (omega arith) (omega arith) t);
      same = λ x. mended_leaves _ _ (c.loop-node.node - 1) (c.index.result.now + c.index-in-loop-node.result.now) (omega arith) x ∙ c.loop-node.invariant.same x;
    }
