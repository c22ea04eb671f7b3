use Rattle.std.proofs.Common.{◌≡◌, ℕ, ◌*◌, arith, ap, ◌∙◌, length}
use Rattle.rand_chacha.specs.ChaCha.{ChaCha}
use Rattle.heco_nums.specs.declared.preset.Preset.{Preset}
use Rattle.heco_draw.specs.Words.{ahead}
use Rattle.heco_nums.specs.Listed.{listed}
use Rattle.heco_draw.proofs.Drawn.{drawing_starts, drawing_goes_on, place_is}
use Rattle.heco_nums.proofs.ListedLaws.{length-listed}
use Rattle.heco_material.specs.declared.words.SwitchRow.{SwitchRow}
use Rattle.heco_material.specs.KeyLists.{IsSwitchRow}
use Rattle.heco_material.specs.KeyFormat.{switch_words}
use Rattle.heco_material.specs.Drawn.{drawn_row, drawn_switch}
use Rattle.heco_material.proofs.Counts.{step_within}
use Rattle.heco_material.proofs.drawing.draw_rows.Goals as goal

abbrev item : Preset → ChaCha → ℕ → SwitchRow
item p g i = drawn_row (ahead g (3 * p.n * i)) p.n p.b

pub loop-i-init : goal.loop-i-init
loop-i-init c = let p = c.args.p.now in drawing_starts (item p c.args.rng.now) (IsSwitchRow p.n p.b) c.args.rng.now (3 * p.n) c.new-rows.result c.new-rows.ensures

pub draw_row-requires : goal.draw_row-requires
draw_row-requires c =
    let p = c.args.p.now in
    let place = place_is c.args.rng.now c.loop-i.rng (3 * p.n * c.loop-i.i) c.loop-i.invariant.place in
    let more = step_within (3 * p.n) c.loop-i.i 29 (omega arith) in
    let all : 3 * p.n * 29 ≡ 87 * p.n = omega arith in
    omega arith

pub loop-i-preserved : goal.loop-i-preserved
loop-i-preserved c =
    let p = c.args.p.now in
    let g0 = c.args.rng.now in
    let i = c.loop-i.i in
    let is : c.in_ok-draw_row.field-0 ≡ item p g0 i = c.in_ok-draw_row.ensures.row ∙ ap (λ (h : ChaCha). drawn_row h p.n p.b) c.loop-i.invariant.place in
    drawing_goes_on (item p g0) (IsSwitchRow p.n p.b) g0 (3 * p.n) i c.loop-i.rows c.loop-i.rng c.in_ok-draw_row.field-0 c.push.new.self c.draw_row.new.rng c.loop-i.invariant is c.in_ok-draw_row.ensures.within c.in_ok-draw_row.ensures.rng c.in_ok-push.ensures.ok

pub returns : goal.returns
unfolding drawn_switch
returns c =
    let p = c.args.p.now in
    let e : c.loop-i.i ≡ 29 = omega arith in
    let all : 3 * p.n * c.loop-i.i ≡ 87 * p.n = rw e (omega arith) in
    record {
      switch = ap switch_words (c.loop-i.invariant.so_far ∙ ap (λ m. listed m (item p c.args.rng.now)) e);
      within = record { count = ap length c.loop-i.invariant.so_far ∙ length-listed (item p c.args.rng.now) c.loop-i.i ∙ e; rows = c.loop-i.invariant.within };
      rng = c.loop-i.invariant.place ∙ ap (ahead c.args.rng.now) all;
    }
