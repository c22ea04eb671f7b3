use Rattle.std.proofs.Common.{◌≡◌, ◌≤◌, ℕ, get_or, arith, SFits, to_z-of_z, refl}
use mir.Syntax.{w64}
use Rattle.heco_nums.proofs.PresetFacts.{facts}
use Rattle.heco_slots.proofs.Weights.{sizes, sizes_none, sizes_more, centred_small}
use Rattle.heco_slots.proofs.table.SlotTable.total_size.Goals as goal

pub loop-x-init : goal.loop-x-init
loop-x-init c = record { value = sizes_none c.args.self.now.preset.t c.args.m.now; small = omega arith }

pub loop-x-preserved : goal.loop-x-preserved
loop-x-preserved c =
    let p = c.args.self.now.preset in
    let m = c.args.m.now in
    let i : ℕ = c.loop-x.x-index in
    let fits : SFits w64 c.centre_t.result = record { sfits = c.centre_t.type_inv } in
    let size = simp to_z-of_z at c.unsigned_abs-sum.ensures.value in
    let x : c.unsigned_abs-sum.result ≡ sizes c.args.self.now.preset.t c.args.m.now c.loop-x.x-index = rw c.centre_t.ensures at size in
    let few : sizes c.args.self.now.preset.t c.args.m.now c.loop-x.x-index ≤ 32768 = centred_small p.t (get_or c.args.m.now c.loop-x.x-index 0) (c.requires.below c.loop-x.x-index 0 c.loop-x-test.true) (facts p).t_small in
    record {
      value = sizes_more c.args.self.now.preset.t i c.loop-x.sum c.unsigned_abs-sum.result _ c.args.m.now c.loop-x.invariant.value x refl;
      small = omega (arith, x, few, c.loop-x.invariant.small);
    }
