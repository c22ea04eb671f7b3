use Rattle.heco_exec.proofs.ChainFiles.{executed_of_one_chain}
use Rattle.heco_exec.proofs.laws.executed_files_are_of_one_chain.Goals as goal

pub returns : goal.returns
returns c = executed_of_one_chain
