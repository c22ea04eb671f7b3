use Rattle.std.proofs.Common.{rules}
use Rattle.heco_top.proofs.SeedLaws.{parsed_seed}
use Rattle.heco_top.proofs.seed.seed_of.Goals as goal

pub returns-in-Err : goal.returns-in-Err
returns-in-Err c = search (rules, parsed_seed c.args.word.now c.parse.result c.parse.ensures.value.0)
