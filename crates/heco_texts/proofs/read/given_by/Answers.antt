use Rattle.std.proofs.Common.{◌∙◌, sym}
use Rattle.heco_texts.proofs.LineLaws.{next_line}
use Rattle.heco_texts.proofs.read.given_by.Goals as goal

pub loop-rest-preserved : goal.loop-rest-preserved
loop-rest-preserved c =
    next_line _ _ _ _ _ _ _ _ _ c.loop-rest.invariant c.cut_line.ensures.line c.cut_line.ensures.shorter (sym c.in_ok-rule.ensures.rule ∙ c.in_default.is) (c.in_ok-rule.ensures.given c.in_default.is)
