use Rattle.heco_tasks.proofs.MeasuredFileLaws.{chain_ready}
use Rattle.heco_tasks.proofs.laws.chain_files_are_ready.Goals as goal

pub returns : goal.returns
returns c = chain_ready
