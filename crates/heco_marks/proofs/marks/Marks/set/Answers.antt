use Rattle.std.proofs.Common.{◌<◌, refl}
use Rattle.heco_marks.proofs.Mending.{leaf_set}
use Rattle.heco_marks.proofs.Sets.{marked_rises, marked_set}
use Rattle.heco_marks.proofs.marks.Marks.set.Goals as goal

pub mend-requires : goal.mend-requires
mend-requires c =
    let there : c.args.number < c.self.inside.leaves = rw (← c.self.view_is) at c.requires.there in
    (c.self.inside.leaves, leaf_set _ _ c.args.number c.args.count _ c.self.invariant there c.requires.bit refl)

pub invariant_of-self : goal.invariant_of-self
invariant_of-self c =
    let there : c.args.number < c.self.inside.leaves = rw (← c.self.view_is) at c.requires.there in
    (c.mend.ensures c.self.inside.leaves (leaf_set _ _ c.args.number c.args.count _ c.self.invariant there c.requires.bit refl)).0

pub returns-clause-rising : goal.returns-clause-rising
returns-clause-rising c = marked_rises _ _

pub returns-clause-named : goal.returns-clause-named
returns-clause-named c = λ x.
    let there : c.args.number < c.self.inside.leaves = rw (← c.self.view_is) at c.requires.there in
    let t = leaf_set _ _ c.args.number c.args.count _ c.self.invariant there c.requires.bit refl in
    rw (← c.self.view_is) (marked_set _ _ _ c.args.number c.args.count x c.self.invariant there c.requires.bit (c.mend.ensures c.self.inside.leaves t).1)
