use Rattle.std.proofs.Common.{◌≡◌, ◌<◌, ◌*◌, ◌%◌, ◌^◌, ℕ, get_or, arith, refl, subst}
use native.Mathlib.Nat.{mod-mod}
use lib.IntN.{ℤ, pos, ◌*ℤ◌}
use Rattle.heco_nums.proofs.PresetFacts.{facts}
use Rattle.heco_ring.specs.Ring.{at, wholes}
use Rattle.heco_ring.proofs.Wrapping.{at-wholes}
use Rattle.heco_slots.proofs.Tables.{entry_masked, entry_below}
use Rattle.heco_slots.proofs.Terms.{Summed, below_turn, summed_none, summed_more}
use Rattle.heco_slots.proofs.TwoRows.{summed_value}
use Rattle.heco_slots.proofs.table.SlotTable.value_at.Goals as goal

pub loop-k-init : goal.loop-k-init
loop-k-init c = let p = c.args.self.now.preset in summed_none p.t (λ k. at (wholes c.args.m.now) k *ℤ pos (p.zeta ^ (k * c.args.step)))

pub add_term-sum-requires-clause-y : goal.add_term-sum-requires-clause-y
add_term-sum-requires-clause-y c =
    let p = c.args.self.now.preset in
    let F = facts p in
    let x : ℕ = c.loop-k.k * c.args.step in
    let y : c.index.result.now < p.t = entry_below p.zeta p.t (x % (2 * p.n)) c.index.result.now F.t_pos (entry_masked p.zeta p.t p.n F.depth x c.index.result.now c.args.self.now.powers.items F.n_power F.n_pos c.args.self.now.of_zeta c.index.ensures) in
    omega (arith, F.t_small, y)

pub loop-k-preserved : goal.loop-k-preserved
loop-k-preserved c =
    let p = c.args.self.now.preset in
    let F = facts p in
    let k : ℕ = c.loop-k.k in
    let w : ℕ = c.args.step in
    let y : ℕ = c.index.result.now in
    let f : ℕ → ℤ = λ k. at (wholes c.args.m.now) k *ℤ pos (p.zeta ^ (k * w)) in
    let yi : y ≡ p.zeta ^ (k * w % (2 * p.n)) % p.t = entry_masked p.zeta p.t p.n F.depth (k * w) y c.args.self.now.powers.items F.n_power F.n_pos c.args.self.now.of_zeta c.index.ensures in
    let fk : f k ≡ pos (get_or c.args.m.now k 0) *ℤ pos (p.zeta ^ (k * w)) = rw (at-wholes c.args.m.now k) refl in
    summed_more p.t k c.loop-k.sum (get_or c.args.m.now k 0) y c.add_term-sum.result (pos (p.zeta ^ (k * w))) f F.t_small (c.requires.below k 0 c.loop-k-test.true) (entry_below p.zeta p.t (k * w % (2 * p.n)) y F.t_pos yi) c.loop-k.invariant fk
    (below_turn p.t p.zeta p.n (k * w % (2 * p.n)) y (k * w) F.t_pos F.n_pos F.minus_one (mod-mod (k * w) (2 * p.n)) yi) c.add_term-sum.ensures

pub returns : goal.returns
returns c =
    let p = c.args.self.now.preset in
    let f : ℕ → ℤ = λ k. at (wholes c.args.m.now) k *ℤ pos (p.zeta ^ (k * c.args.step)) in
    let e : c.loop-k.k ≡ p.n = omega (arith, c.loop-k-test.false, c.loop-k.auto.k-end, c.requires.long) in
    rw (c.from.ensures) (summed_value p.n p.t p.zeta c.args.step c.loop-k.sum c.args.m.now (facts p).t_pos (subst (λ (i : ℕ). Summed p.t i c.loop-k.sum f) e c.loop-k.invariant))
