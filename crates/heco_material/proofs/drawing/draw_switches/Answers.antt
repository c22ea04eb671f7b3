use Rattle.std.proofs.Common.{◌≡◌, ℕ, ◌*◌, arith, ap, ◌∙◌, length}
use Rattle.rand_chacha.specs.ChaCha.{ChaCha}
use Rattle.heco_nums.specs.declared.preset.Preset.{Preset}
use Rattle.heco_draw.specs.Words.{ahead}
use Rattle.heco_nums.specs.Listed.{listed}
use Rattle.heco_draw.proofs.Drawn.{drawing_starts, drawing_goes_on, place_is}
use Rattle.heco_nums.proofs.ListedLaws.{length-listed}
use Rattle.heco_material.specs.declared.words.SwitchWords.{SwitchWords}
use Rattle.heco_material.specs.KeyLists.{IsSwitch}
use Rattle.heco_material.specs.Drawn.{drawn_switch, drawn_switches}
use Rattle.heco_material.proofs.Counts.{step_within}
use Rattle.heco_material.proofs.drawing.draw_switches.Goals as goal

abbrev item : Preset → ChaCha → ℕ → SwitchWords
item p g i = drawn_switch (ahead g (87 * p.n * i)) p.n p.b

pub loop-i-init : goal.loop-i-init
loop-i-init c = let p = c.args.p.now in drawing_starts (item p c.args.rng.now) (IsSwitch p.n p.b) c.args.rng.now (87 * p.n) c.new-switches.result c.new-switches.ensures

pub draw_rows-requires : goal.draw_rows-requires
draw_rows-requires c =
    let p = c.args.p.now in
    let place = place_is c.args.rng.now c.loop-i.rng (87 * p.n * c.loop-i.i) c.loop-i.invariant.place in
    let more = step_within (87 * p.n) c.loop-i.i c.args.count (omega arith) in
    omega arith

pub loop-i-preserved : goal.loop-i-preserved
loop-i-preserved c =
    let p = c.args.p.now in
    let g0 = c.args.rng.now in
    let i = c.loop-i.i in
    let is : c.in_ok-draw_rows.field-0 ≡ item p g0 i = c.in_ok-draw_rows.ensures.switch ∙ ap (λ (h : ChaCha). drawn_switch h p.n p.b) c.loop-i.invariant.place in
    drawing_goes_on (item p g0) (IsSwitch p.n p.b) g0 (87 * p.n) i c.loop-i.switches c.loop-i.rng c.in_ok-draw_rows.field-0 c.push.new.self c.draw_rows.new.rng c.loop-i.invariant is c.in_ok-draw_rows.ensures.within c.in_ok-draw_rows.ensures.rng c.in_ok-push.ensures.ok

pub returns-clause-switches : goal.returns-clause-switches
unfolding drawn_switches
returns-clause-switches c = let e : c.loop-i.i ≡ c.args.count = omega arith in c.loop-i.invariant.so_far ∙ ap (λ m. listed m (item c.args.p.now c.args.rng.now)) e

pub returns-clause-count : goal.returns-clause-count
returns-clause-count c = let e : c.loop-i.i ≡ c.args.count = omega arith in ap length c.loop-i.invariant.so_far ∙ length-listed (item c.args.p.now c.args.rng.now) c.loop-i.i ∙ e

pub returns-clause-within : goal.returns-clause-within
returns-clause-within c = c.loop-i.invariant.within
