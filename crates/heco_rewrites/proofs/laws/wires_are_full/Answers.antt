use Rattle.heco_rewrites.proofs.Full.{wires_full}
use Rattle.heco_rewrites.proofs.laws.wires_are_full.Goals as goal

pub returns : goal.returns
returns c = λ id vectors start gates some vectors_are formed even full. wires_full id vectors start gates some vectors_are formed even full
