use Rattle.std.proofs.Common.{ℕ, ◌<◌, arith, get_or}
use Rattle.heco_material.proofs.Counts.{rising_short}
use Rattle.heco_material.proofs.file_length.rising_len.Goals as goal

pub returns-clause-few : goal.returns-clause-few
returns-clause-few c =
    let below : (i : ℕ) → get_or c.args.turns.now i 0 < 65536 = λ i. omega (arith, c.type_inv.turns i) in
    let short = rising_short c.args.turns.now 65536 c.requires below in
    omega arith
