use Rattle.std.proofs.Common.{ap, sym, ◌∙◌}
use Rattle.heco_statements.specs.Reading.{whole}
use Rattle.heco_statements.proofs.WholeSources.{whole_found, whole_only}
use Rattle.heco_parse.proofs.TreeFacts.{stopped, dived}
use Rattle.heco_parse.proofs.read.tree.Goals as goal

pub returns-in-Ok-clause-found : goal.returns-in-Ok-clause-found
returns-in-Ok-clause-found c = whole_found 64 8 _ c.in-Ok.x _ (ap (whole 64 8) (sym c.new-cursor.ensures) ∙ c.in-Ok.ensures)

pub returns-in-Ok-clause-only : goal.returns-in-Ok-clause-only
returns-in-Ok-clause-only c = whole_only 64 8 _ c.in-Ok.x _ (ap (whole 64 8) (sym c.new-cursor.ensures) ∙ c.in-Ok.ensures)

pub returns-in-Err-Syntax-clause-refused : goal.returns-in-Err-Syntax-clause-refused
returns-in-Err-Syntax-clause-refused c =
    let h = rw c.in-Err-Syntax.field-0-is at c.in-Err-Syntax.ensures in
    stopped c.args.text.now _ _ _ (ap (whole 64 8) (sym c.new-cursor.ensures) ∙ h) c.place_here.ensures

pub returns-in-Err-TooNested-clause-refused : goal.returns-in-Err-TooNested-clause-refused
returns-in-Err-TooNested-clause-refused c =
    let h = rw c.in-Err-TooNested.field-0-is at c.in-Err-TooNested.ensures in
    dived c.args.text.now _ _ _ (ap (whole 64 8) (sym c.new-cursor.ensures) ∙ h) c.place_here-in-Err-TooNested.ensures
