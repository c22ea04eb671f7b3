use Rattle.std.proofs.Common.{◌≡◌, ◌<◌, ◌*◌, get_or, length, ◌∙◌, arith}
use Rattle.std.proofs.lemmas.List.{get_or_read}
use Rattle.heco_marks.proofs.Descents.{root_total}
use Rattle.heco_marks.proofs.marks.Marks.count.Goals as goal

pub returns : goal.returns
returns c =
    let long : length c.self.inside.counts.items ≡ 2 * c.self.inside.leaves = c.self.invariant.1.count in
    let some : 0 < c.self.inside.leaves = c.self.invariant.0 in
    let read : c.index.result.now ≡ get_or c.self.inside.counts.items 1 0 = get_or_read c.self.inside.counts.items _ _ (omega arith) c.index.ensures 0 in
    rw (← c.self.view_is) (read ∙ root_total _ _ c.self.invariant)
