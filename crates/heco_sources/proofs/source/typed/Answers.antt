use Rattle.std.proofs.Common.{sym, subst}
use Rattle.heco_sources.specs.Sources.{IsSource}
use Rattle.heco_sources.proofs.source.typed.Goals as goal

pub returns-in-Ok-clause-source : goal.returns-in-Ok-clause-source
returns-in-Ok-clause-source c =
    let given : IsSource c.args.text.now c.args.tree = record { short = c.requires.short; tree = c.requires.is; none = c.in-Ok.ensures.none } in
    subst (IsSource c.args.text.now) (sym c.in-Ok.ensures.source) given
