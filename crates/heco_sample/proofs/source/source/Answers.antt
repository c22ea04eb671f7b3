use Rattle.std.proofs.Common.{subst}
use Rattle.heco_sources.specs.Sources.{IsRefused}
use Rattle.heco_sample.proofs.Refusals.{not_misread}
use Rattle.heco_sample.proofs.source.source.Goals as goal

pub unread-requires : goal.unread-requires
unread-requires c = not_misread c.in-Err.error (subst (λ t. IsRefused t c.in-Err.error) c.text.ensures c.in-Err.ensures.refused)
