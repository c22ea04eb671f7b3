use Rattle.std.proofs.Common.{false, ◌||◌, ap}
use Rattle.std.specs.List.{list_any}
use Rattle.std.proofs.lemmas.List.{get_or-replicate}
use Rattle.heco_circuit.specs.Needs.{turns_by}
use Rattle.heco_circuit.proofs.key_needs.marks.Goals as goal

pub loop-rest-init : goal.loop-rest-init
loop-rest-init c = λ q lt. ap (λ b. b || list_any (turns_by q) c.args.gates.now) (get_or-replicate 512 q false false lt)
