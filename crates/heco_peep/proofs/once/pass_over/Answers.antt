use Rattle.std.proofs.Common.{◌∙◌, sym}
use Rattle.heco_peep.proofs.ByEach.{ready_after, after_kept}
use Rattle.heco_peep.proofs.once.pass_over.Goals as goal

pub returns-then-branch-clause-ready : goal.returns-then-branch-clause-ready
returns-then-branch-clause-ready g c = ready_after _ _ _ _ _ _ c.requires (after_kept _ _ _ _ _ c.in_ok-d.ensures.tried (sym c.in_ok-is_kept.ensures ∙ c.if-branch.true))
