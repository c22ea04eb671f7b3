use Rattle.heco_end_to_end.proofs.DecryptedRuns.{rows_print}
use Rattle.heco_end_to_end.proofs.laws.rows_print_the_meaning.Goals as goal

pub returns : goal.returns
returns c = λ p e circuit k material messages rows row given many same. rows_print p e circuit k material messages rows row given many same
