use Rattle.std.proofs.Common.{◌≡◌, ◌+◌, ◌*◌, get_or, refl, ◌∙◌, arith}
use Rattle.std.proofs.lemmas.List.{get_or_read}
use Rattle.heco_marks.proofs.Mending.{mended, mended_leaves, inside}
use Rattle.heco_marks.proofs.tree.mend.Goals as goal

pub overflow_mul-node : goal.overflow_mul-node
overflow_mul-node c = let i = (let t = (c.loop-node.invariant c.requires.0 c.requires.1).0 in inside _ _ _ _ t.1 t.0 (omega arith)) in omega (arith, i.1, i.2)

pub index-requires : goal.index-requires
index-requires c = let i = (let t = (c.loop-node.invariant c.requires.0 c.requires.1).0 in inside _ _ _ _ t.1 t.0 (omega arith)) in omega (arith, i.1)

pub overflow_mul-node-in-loop-node : goal.overflow_mul-node-in-loop-node
overflow_mul-node-in-loop-node c = let i = (let t = (c.loop-node.invariant c.requires.0 c.requires.1).0 in inside _ _ _ _ t.1 t.0 (omega arith)) in omega (arith, i.1, i.2)

pub overflow_add-node : goal.overflow_add-node
overflow_add-node c = let i = (let t = (c.loop-node.invariant c.requires.0 c.requires.1).0 in inside _ _ _ _ t.1 t.0 (omega arith)) in omega (arith, i.1, i.2)

pub index-requires-in-loop-node : goal.index-requires-in-loop-node
index-requires-in-loop-node c = let i = (let t = (c.loop-node.invariant c.requires.0 c.requires.1).0 in inside _ _ _ _ t.1 t.0 (omega arith)) in omega (arith, i.1)

pub overflow_add-index : goal.overflow_add-index
overflow_add-index c =
    let i = (let t = (c.loop-node.invariant c.requires.0 c.requires.1).0 in inside _ _ _ _ t.1 t.0 (omega arith)) in
    let left : c.index.result.now ≡ get_or c.loop-node.counts.items (2 * c.loop-node.node) 0 = get_or_read c.loop-node.counts.items _ _ (omega (arith, i.1)) c.index.ensures 0 in
    let right : c.index-in-loop-node.result.now ≡ get_or c.loop-node.counts.items (2 * c.loop-node.node + 1) 0 = get_or_read c.loop-node.counts.items _ _ (omega (arith, i.1)) c.index-in-loop-node.ensures 0 in
    omega (arith, i.2)

pub index_mut-requires : goal.index_mut-requires
index_mut-requires c = let i = (let t = (c.loop-node.invariant c.requires.0 c.requires.1).0 in inside _ _ _ _ t.1 t.0 (omega arith)) in omega (arith, i.0)

pub loop-node-preserved : goal.loop-node-preserved
loop-node-preserved c = λ leaves t.
    let was = c.loop-node.invariant leaves t in
    let i = inside _ _ _ _ was.0.1 was.0.0 (omega arith) in
    let left : c.index.result.now ≡ get_or c.loop-node.counts.items (2 * c.loop-node.node) 0 = get_or_read c.loop-node.counts.items _ _ (omega (arith, i.1)) c.index.ensures 0 in
    let right : c.index-in-loop-node.result.now ≡ get_or c.loop-node.counts.items (2 * c.loop-node.node + 1) 0 = get_or_read c.loop-node.counts.items _ _ (omega (arith, i.1)) c.index-in-loop-node.ensures 0 in
    (rw (left, right) (mended _ _ _ _ was.0 (omega arith) refl), λ x. mended_leaves _ _ c.loop-node.node (c.index.result.now + c.index-in-loop-node.result.now) was.0.0 x ∙ was.1 x)

pub returns : goal.returns
returns c = λ leaves t. let zero_is : c.loop-node.node ≡ 0 = omega arith in rw zero_is at (c.loop-node.invariant leaves t)
