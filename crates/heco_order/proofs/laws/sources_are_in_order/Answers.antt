use Rattle.heco_order.proofs.Ordered.{in_order}
use Rattle.heco_order.proofs.laws.sources_are_in_order.Goals as goal

pub returns : goal.returns
returns c = in_order
