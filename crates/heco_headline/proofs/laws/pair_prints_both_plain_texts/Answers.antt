use Rattle.heco_headline.proofs.PairLaw.{both_run, first_plain, second_plain}
use Rattle.heco_headline.proofs.laws.pair_prints_both_plain_texts.Goals as goal

pub returns : goal.returns
returns c = λ source circuit text other v w k material good input beside fits.
    let runs = both_run source circuit text other v w k material good input beside fits in
    (runs, first_plain source circuit k material v.rows w.rows good runs, second_plain source circuit k material v.rows w.rows good runs)
