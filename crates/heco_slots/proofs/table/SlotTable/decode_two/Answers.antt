use Rattle.std.proofs.Common.{◌≡◌, ◌<◌, ◌*◌, ◌-◌, ◌%◌, ◌^◌, ◌∙◌, ℕ, List, length, arith}
use Rattle.std.proofs.lemmas.List.{length-set}
use Rattle.heco_slots.specs.Rows.{slot_in}
use Rattle.heco_slots.proofs.Tables.{entry}
use Rattle.heco_slots.proofs.TwoRows.{first_value, second_value, one_more, row_filled}
use Rattle.heco_slots.proofs.table.SlotTable.decode_two.Goals as goal

pub loop-j-preserved : goal.loop-j-preserved
loop-j-preserved c =
    let p = c.args.self.now.preset in
    let j : ℕ = c.loop-j.j in
    let m : List ℕ = c.args.m.now in
    let within : j < p.slots = omega (arith, c.loop-j-test.true, c.requires.first, c.loop-j.auto.first, c.loop-j.auto.j-end) in
    let place : c.index.result.now ≡ 3 ^ j % (2 * p.n) = entry 3 (2 * p.n) p.slots j c.index.result.now c.args.self.now.places.items c.args.self.now.of_three within c.index.ensures in
    record {
      long = length-set c.loop-j.second j c.value_at-in-loop-j.result ∙ c.loop-j.invariant.long;
      first = one_more c.loop-j.first j c.value_at.result (slot_in p 1 m) (omega (arith, within, c.requires.first, c.loop-j.auto.first)) c.loop-j.invariant.first (c.value_at.ensures ∙ first_value p m j c.index.result.now place);
      second = one_more c.loop-j.second j c.value_at-in-loop-j.result (slot_in p (2 * p.n - 1) m) (omega (arith, within, c.loop-j.invariant.long)) c.loop-j.invariant.second (c.value_at-in-loop-j.ensures ∙ second_value p m j c.index.result.now place);
    }

pub returns-clause-first : goal.returns-clause-first
returns-clause-first c =
    let long : length c.loop-j.first ≡ c.args.self.now.preset.slots = c.loop-j.auto.first ∙ c.requires.first in
    row_filled c.args.self.now.preset 1 c.args.m.now c.loop-j.first long (λ i h. c.loop-j.invariant.first i (omega (arith, h, long, c.loop-j-test.false, c.loop-j.auto.j-end, c.requires.first)))

pub returns-clause-second : goal.returns-clause-second
returns-clause-second c =
    row_filled c.args.self.now.preset (2 * c.args.self.now.preset.n - 1) c.args.m.now c.loop-j.second c.loop-j.invariant.long
    (λ i h. c.loop-j.invariant.second i (omega (arith, h, c.loop-j.invariant.long, c.loop-j-test.false, c.loop-j.auto.j-end, c.requires.first)))
