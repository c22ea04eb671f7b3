use Rattle.std.proofs.Common.{◌≡◌, ◌<◌, ◌*◌, ◌%◌, ◌^◌, ℕ, get_or, arith, refl, subst}
use lib.IntN.{pos}
use Rattle.std.proofs.lemmas.Nat.{mod_below}
use Rattle.heco_nums.proofs.PresetFacts.{facts}
use Rattle.heco_slots.proofs.Spreads.{powers, summed_spread}
use Rattle.heco_slots.proofs.Tables.{entry, entry_masked, entry_below}
use Rattle.heco_slots.proofs.Terms.{Summed, summed_none, summed_more, power_at}
use Rattle.heco_slots.proofs.table.SlotTable.spread.Goals as goal

pub loop-j-init : goal.loop-j-init
loop-j-init c = let p = c.args.self.now.preset in summed_none p.t (powers p c.args.v.now c.args.step)

pub add_term-sum-requires-clause-y : goal.add_term-sum-requires-clause-y
add_term-sum-requires-clause-y c =
    let p = c.args.self.now.preset in
    let F = facts p in
    let x : ℕ = c.args.step * c.index.result.now in
    let y : c.index-in-loop-j.result.now < p.t = entry_below p.zeta p.t (x % (2 * p.n)) c.index-in-loop-j.result.now F.t_pos (entry_masked p.zeta p.t p.n F.depth x c.index-in-loop-j.result.now c.args.self.now.powers.items F.n_power F.n_pos c.args.self.now.of_zeta c.index-in-loop-j.ensures) in
    omega (arith, F.t_small, y)

pub loop-j-preserved : goal.loop-j-preserved
loop-j-preserved c =
    let p = c.args.self.now.preset in
    let F = facts p in
    let b : ℕ = c.args.step in
    let j : ℕ = c.loop-j.j in
    let g : ℕ = c.index.result.now in
    let y : ℕ = c.index-in-loop-j.result.now in
    let jn : j < p.slots = omega (arith, c.loop-j-test.true, c.requires.long) in
    let gi : g ≡ 3 ^ j % (2 * p.n) = entry 3 (2 * p.n) p.slots j g c.args.self.now.places.items c.args.self.now.of_three jn c.index.ensures in
    let yi : y ≡ p.zeta ^ (b * g % (2 * p.n)) % p.t = entry_masked p.zeta p.t p.n F.depth (b * g) y c.args.self.now.powers.items F.n_power F.n_pos c.args.self.now.of_zeta c.index-in-loop-j.ensures in
    summed_more p.t j c.loop-j.sum (get_or c.args.v.now j 0) y c.add_term-sum.result (pos (p.zeta ^ (b * 3 ^ j))) (powers p c.args.v.now b) F.t_small (c.requires.below j 0 c.loop-j-test.true) (entry_below p.zeta p.t (b * g % (2 * p.n)) y F.t_pos yi) c.loop-j.invariant refl
    (power_at p.t p.zeta p.n b j g y F.t_pos F.n_pos F.minus_one gi yi) c.add_term-sum.ensures

pub returns-clause-small : goal.returns-clause-small
returns-clause-small c =
    let p = c.args.self.now.preset in
    rw (c.from.ensures) (omega (arith, (facts p).t_small, mod_below c.loop-j.sum p.t (facts p).t_pos))

pub returns-clause-value : goal.returns-clause-value
returns-clause-value c =
    let p = c.args.self.now.preset in
    let e : c.loop-j.j ≡ p.slots = omega (arith, c.loop-j-test.false, c.loop-j.auto.j-end, c.requires.long) in
    rw (c.from.ensures) (summed_spread p c.args.v.now c.args.step c.loop-j.sum (subst (λ (i : ℕ). Summed p.t i c.loop-j.sum (powers p c.args.v.now c.args.step)) e c.loop-j.invariant))
