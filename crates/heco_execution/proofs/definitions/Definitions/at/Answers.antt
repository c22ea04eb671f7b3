use Rattle.std.proofs.Common.{◌∙◌, sym, ap, slice_get, length, arith}
use Rattle.heco_execution.proofs.DefinitionLemmas.{at_place}
use Rattle.heco_execution.proofs.definitions.Definitions.at.Goals as goal

pub returns : goal.returns
returns c =
    ap (λ ds. slice_get ds c.args.k) (sym c.self.view_is)
    ∙ at_place c.self.inside.visible.now c.args.k c.index-visible-k.result (omega (arith, c.requires, ap length c.self.view_is)) c.index-visible-k.is
