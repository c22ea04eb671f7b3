use Rattle.heco_rewrites.proofs.Renamed.{renamed}
use Rattle.heco_rewrites.proofs.laws.gates_may_be_renamed.Goals as goal

pub returns : goal.returns
returns c = λ id vs ws name old new g keeps stand valid. renamed id vs ws name old new g keeps stand valid
