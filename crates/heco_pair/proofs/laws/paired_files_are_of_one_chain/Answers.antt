use Rattle.heco_pair.proofs.ChainFiles.{paired_of_one_chain}
use Rattle.heco_pair.proofs.laws.paired_files_are_of_one_chain.Goals as goal

pub returns : goal.returns
returns c = paired_of_one_chain
