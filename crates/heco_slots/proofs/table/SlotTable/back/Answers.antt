use Rattle.std.proofs.Common.{◌≡◌, ◌*◌, ◌-◌, ◌%◌, ℕ, bit_and, arith}
use Rattle.std.proofs.lemmas.Nat.{mod_below}
use Rattle.heco_nums.proofs.PresetFacts.{facts}
use Rattle.heco_slots.proofs.Tables.{and_last}
use Rattle.heco_slots.proofs.table.SlotTable.back.Goals as goal

pub returns-clause-value : goal.returns-clause-value
returns-clause-value c =
    let p = c.args.self.now.preset in
    and_last p.n (facts p).depth ((2 * p.n - 1) * c.args.k) (facts p).n_power

pub returns-clause-below : goal.returns-clause-below
returns-clause-below c =
    let p = c.args.self.now.preset in
    let x : ℕ = (2 * p.n - 1) * c.args.k in
    let e : bit_and x (2 * p.n - 1) ≡ x % (2 * p.n) = and_last p.n (facts p).depth ((2 * p.n - 1) * c.args.k) (facts p).n_power in
    omega (arith, e, mod_below ((2 * p.n - 1) * c.args.k) (2 * p.n) (omega (arith, (facts p).n_pos)))
