use Rattle.heco_rewrites.proofs.Dropping.{dropped}
use Rattle.heco_rewrites.proofs.laws.dead_gates_may_go.Goals as goal

pub returns : goal.returns
returns c = λ id vectors start outs gates even formed. dropped id vectors start outs gates even formed
