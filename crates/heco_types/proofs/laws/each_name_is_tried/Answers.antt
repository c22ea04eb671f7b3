use Rattle.heco_types.proofs.TriedFacts.{each-name-tried}
use Rattle.heco_types.proofs.laws.each_name_is_tried.Goals as goal

pub returns : goal.returns
returns c = each-name-tried
