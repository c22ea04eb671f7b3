use Rattle.heco_tasks.proofs.MeasureLaws.{encrypted_of_the_chain}
use Rattle.heco_tasks.proofs.laws.encrypted_files_are_of_the_chain.Goals as goal

pub returns : goal.returns
returns c = encrypted_of_the_chain
