use Rattle.std.proofs.Common.{◌≡◌, ◌*◌, get_or, length, arith}
use Rattle.std.proofs.lemmas.List.{get_or_read}
use Rattle.heco_marks.proofs.Descents.{begins, step_left, step_right, lands}
use Rattle.heco_marks.proofs.marks.Marks.nth.Goals as goal

pub loop-node-init : goal.loop-node-init
loop-node-init c = begins _ _ _ c.self.invariant (rw (← c.self.view_is) at c.requires)

pub loop-node-preserved-then-left-first : goal.loop-node-preserved-then-left-first
loop-node-preserved-then-left-first c =
    let double : c.loop-node.node * 2 ≡ 2 * c.loop-node.node = omega arith in
    let long : length c.self.inside.counts.items ≡ 2 * c.self.inside.leaves = c.self.invariant.1.count in
    let read : c.index-first.result.now ≡ get_or c.self.inside.counts.items (c.loop-node.node * 2) 0 = get_or_read c.self.inside.counts.items _ _ (omega arith) c.index-first.ensures 0 in
    let at : c.index-first.result.now ≡ get_or c.self.inside.counts.items (2 * c.loop-node.node) 0 = rw double at read in
    rw (double, at) (step_right _ _ _ _ _ c.self.invariant (omega arith) c.loop-node.invariant (omega arith))

pub loop-node-preserved : goal.loop-node-preserved
loop-node-preserved c =
    let double : c.loop-node.node * 2 ≡ 2 * c.loop-node.node = omega arith in
    let long : length c.self.inside.counts.items ≡ 2 * c.self.inside.leaves = c.self.invariant.1.count in
    let read : c.index-first.result.now ≡ get_or c.self.inside.counts.items (c.loop-node.node * 2) 0 = get_or_read c.self.inside.counts.items _ _ (omega arith) c.index-first.ensures 0 in
    let at : c.index-first.result.now ≡ get_or c.self.inside.counts.items (2 * c.loop-node.node) 0 = rw double at read in
    rw double (step_left _ _ _ _ _ c.self.invariant (omega arith) c.loop-node.invariant (omega arith))

pub overflow_cast-result : goal.overflow_cast-result
overflow_cast-result c =
    let l = lands _ _ _ _ _ c.self.invariant (omega arith) c.loop-node.invariant in
    let few = c.self.invariant.1.few in
    omega (arith, l.0)

pub returns : goal.returns
returns c = rw (← c.self.view_is) (lands _ _ _ _ _ c.self.invariant (omega arith) c.loop-node.invariant).1
