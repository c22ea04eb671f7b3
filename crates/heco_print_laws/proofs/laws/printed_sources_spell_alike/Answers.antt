use Rattle.heco_print_laws.proofs.Regain.{regained}
use Rattle.heco_print_laws.proofs.laws.printed_sources_spell_alike.Goals as goal

pub returns : goal.returns
returns c = regained
