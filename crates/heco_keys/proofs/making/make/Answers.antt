use Rattle.heco_scheme.specs.Keys.{AreRows}
use Rattle.heco_keys.specs.Made.{all_rows}
use Rattle.heco_keys.proofs.MadeRows.{made_rows, seen_rows}
use Rattle.heco_keys.proofs.making.make.Goals as goal

pub of-requires-2-clause-pairs : goal.of-requires-2-clause-pairs
of-requires-2-clause-pairs c =
    let k = c.args.k.now in
    seen_rows (AreRows k.preset.n) c.in_ok-switch.switch (all_rows k.preset.n k.s k.needs.relin k.needs.turns k.switch) c.in_ok-switch.ensures.rows
    (made_rows k.preset.n k.s k.needs.relin k.needs.turns k.switch k.preset.b c.requires.material.switch)
