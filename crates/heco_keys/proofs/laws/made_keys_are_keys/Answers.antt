use Rattle.heco_keys.proofs.MadeRows.{made_rows}
use Rattle.heco_keys.proofs.laws.made_keys_are_keys.Goals as goal

pub returns-clause-rows : goal.returns-clause-rows
returns-clause-rows c = made_rows
