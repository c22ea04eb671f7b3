use Rattle.heco_headline.proofs.Chain as chain
use Rattle.heco_headline.proofs.laws.good_circuits_print_the_plain_text.Goals as goal

pub returns : goal.returns
returns c = λ source circuit p input v k material h. (chain.runs source circuit p input v k material h, chain.plain source circuit p input v k material h)
