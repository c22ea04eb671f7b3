use Rattle.heco_end_to_end.proofs.DecryptedRuns.{runs_are_read}
use Rattle.heco_end_to_end.proofs.InARow.{made_keys_read}
use Rattle.heco_end_to_end.proofs.laws.made_files_are_read.Goals as goal

pub returns-clause-keys : goal.returns-clause-keys
returns-clause-keys c = λ p circuit k id keys. made_keys_read p circuit k id keys

pub returns-clause-runs : goal.returns-clause-runs
returns-clause-runs c = λ p circuit k material messages given many. runs_are_read p circuit k material messages given many
