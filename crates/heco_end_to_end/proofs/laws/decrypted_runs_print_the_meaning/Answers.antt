use Rattle.heco_end_to_end.proofs.DecryptedRuns.{prints_the_meaning}
use Rattle.heco_end_to_end.proofs.laws.decrypted_runs_print_the_meaning.Goals as goal

pub returns : goal.returns
returns c = λ p circuit k material rows runs. prints_the_meaning p circuit k material rows runs
