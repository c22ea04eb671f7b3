use Rattle.std.proofs.Common.{◌∙◌, ◌∷◌, sym, ap}
use Rattle.heco_texts.specs.Lines.{lines}
use Rattle.heco_texts.proofs.LineLaws.{ended_line, whole_line, no_lf}
use Rattle.heco_texts.proofs.bytes.cut_line.Goals as goal

pub returns-in-Some-clause-line : goal.returns-in-Some-clause-line
returns-in-Some-clause-line c =
    ap lines c.in-Some.ensures.found.0 ∙ ended_line c.in-Some.line.now c.in-Some.after.now (no_lf c.in-Some.line.now c.in-Some.ensures.found.1) ∙ sym (ap (λ x. x ∷ lines c.in-Some.after.now) c.without_cr.ensures)

pub returns-in-None-clause-line : goal.returns-in-None-clause-line
returns-in-None-clause-line c = whole_line c.args.text.now c.requires c.in-None.ensures.none
