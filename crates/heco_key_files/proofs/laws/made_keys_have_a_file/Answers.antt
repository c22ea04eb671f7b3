use Rattle.heco_key_files.proofs.MadeEvaluation.{made_evaluation}
use Rattle.heco_key_files.proofs.laws.made_keys_have_a_file.Goals as goal

pub returns : goal.returns
returns c = made_evaluation
