use Rattle.heco_pair.proofs.Calls.{calls_print_apart}
use Rattle.heco_pair.proofs.laws.calls_print_apart.Goals as goal

pub returns : goal.returns
returns c = calls_print_apart
