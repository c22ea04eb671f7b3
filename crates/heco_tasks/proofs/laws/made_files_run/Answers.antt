use Rattle.heco_tasks.proofs.MadeFileLaws.{made_files_clear}
use Rattle.heco_tasks.proofs.laws.made_files_run.Goals as goal

pub returns : goal.returns
returns c = λ words agents file circuit k material rows held. made_files_clear words agents file circuit k material rows held
