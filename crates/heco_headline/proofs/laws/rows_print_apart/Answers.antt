use Rattle.heco_headline.proofs.PairLaw.{rows_print_apart}
use Rattle.heco_headline.proofs.laws.rows_print_apart.Goals as goal

pub returns : goal.returns
returns c = rows_print_apart
