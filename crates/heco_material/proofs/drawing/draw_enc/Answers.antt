use Rattle.std.proofs.Common.{◌≡◌, ℕ, ◌+◌, ◌*◌, arith, ap, ◌∙◌, length, refl}
use Rattle.rand_chacha.specs.ChaCha.{ChaCha}
use Rattle.heco_nums.specs.declared.preset.Preset.{Preset}
use Rattle.heco_nums.proofs.PresetFacts.{facts}
use Rattle.heco_draw.specs.Words.{ahead, start}
use Rattle.heco_nums.specs.Listed.{listed}
use Rattle.heco_draw.proofs.Drawn.{drawing_starts, drawing_goes_on, place_is}
use Rattle.heco_nums.proofs.ListedLaws.{length-listed}
use Rattle.heco_material.specs.declared.words.EncRow.{EncRow}
use Rattle.heco_material.specs.KeyLists.{IsEncRow}
use Rattle.heco_material.specs.Drawn.{drawn_encryption, drawn_encryptions}
use Rattle.heco_material.proofs.Counts.{step_within, encryptions_few}
use Rattle.heco_material.proofs.drawing.draw_enc.Goals as goal

abbrev item : Preset → ChaCha → ℕ → EncRow
item p g i = drawn_encryption (ahead g ((p.h + 2 * p.n) * i)) p.n p.h p.b

begins : (seed : ℕ) → (start seed 2).word_pos ≡ 0
unfolding start
begins seed = refl

pub loop-i-init : goal.loop-i-init
loop-i-init c =
    let p = c.args.p.now in
    let s = drawing_starts (item p (start c.args.seed 2)) (IsEncRow p.n p.h p.b) (start c.args.seed 2) (p.h + 2 * p.n) c.new-rows.result c.new-rows.ensures in
    record { so_far = s.so_far; place = c.start-rng.ensures ∙ s.place; within = s.within }

pub draw_encryption-requires : goal.draw_encryption-requires
draw_encryption-requires c =
    let p = c.args.p.now in
    let f = facts p in
    let place = place_is (start c.args.seed 2) c.loop-i.rng ((p.h + 2 * p.n) * c.loop-i.i) c.loop-i.invariant.place in
    let at_start = begins c.args.seed in
    let more = step_within (p.h + 2 * p.n) c.loop-i.i c.args.count (omega arith) in
    let few = encryptions_few p.n p.h c.args.count f.n_small f.h_small (omega arith) in
    omega arith

pub loop-i-preserved : goal.loop-i-preserved
loop-i-preserved c =
    let p = c.args.p.now in
    let g0 = (start c.args.seed 2) in
    let i = c.loop-i.i in
    let is : c.in_ok-draw_encryption.field-0 ≡ item p g0 i = c.in_ok-draw_encryption.ensures.row ∙ ap (λ (h : ChaCha). drawn_encryption h p.n p.h p.b) c.loop-i.invariant.place in
    drawing_goes_on (item p g0) (IsEncRow p.n p.h p.b) g0 (p.h + 2 * p.n) i c.loop-i.rows c.loop-i.rng c.in_ok-draw_encryption.field-0 c.push.new.self c.draw_encryption.new.rng c.loop-i.invariant is c.in_ok-draw_encryption.ensures.within c.in_ok-draw_encryption.ensures.rng c.in_ok-push.ensures.ok

pub returns-clause-words : goal.returns-clause-words
unfolding drawn_encryptions
returns-clause-words c = let e : c.loop-i.i ≡ c.args.count = omega arith in c.loop-i.invariant.so_far ∙ ap (λ m. listed m (item c.args.p.now (start c.args.seed 2))) e

pub returns-clause-within : goal.returns-clause-within
returns-clause-within c = record {
  count = let e : c.loop-i.i ≡ c.args.count = omega arith in ap length c.loop-i.invariant.so_far ∙ length-listed (item c.args.p.now (start c.args.seed 2)) c.loop-i.i ∙ e;
  rows = c.loop-i.invariant.within;
}
