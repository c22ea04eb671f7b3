use Rattle.heco_ir.proofs.Counted.{agreement}
use Rattle.heco_ir.proofs.gates.nodes_have_the_cost.Goals as goal

pub returns : goal.returns
returns c = λ ns roots earlier inside once used. agreement ns roots earlier inside once used
