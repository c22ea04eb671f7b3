use Rattle.std.proofs.Common.{◌≡◌, ℕ, ◌+◌, ◌*◌, ◌%◌, ◌<◌, arith, ap, ◌∙◌, refl}
use Rattle.heco_nums.proofs.PresetFacts.{facts}
use Rattle.heco_draw.specs.Words.{word, start, values}
use Rattle.heco_nums.specs.Listed.{listed}
use Rattle.heco_draw.proofs.Drawn.{drawing_starts, drawing_goes_on, word_there, place_is}
use Rattle.heco_draw.proofs.draw.draw_values.Goals as goal

abbrev item : ℕ → ℕ → ℕ → ℕ
item t seed i = word (start seed 3) i % t

abbrev fits : ℕ → ℕ → Type 0
fits t x = x < t

pub loop-i-init : goal.loop-i-init
loop-i-init c =
    let s = drawing_starts (item c.args.p.now.t c.args.seed) (fits c.args.p.now.t) (start c.args.seed 3) 1 c.new-values.result c.new-values.ensures in
    record { so_far = s.so_far; place = c.start-rng.ensures ∙ s.place; within = s.within }

begins : (seed : ℕ) → (start seed 3).word_pos ≡ 0
unfolding start
begins seed = refl

pub next-requires : goal.next-requires
next-requires c =
    let place = place_is (start c.args.seed 3) c.loop-i.rng (1 * c.loop-i.i) c.loop-i.invariant.place in
    let at_start = begins c.args.seed in
    omega arith

pub loop-i-preserved : goal.loop-i-preserved
loop-i-preserved c =
    let g0 = start c.args.seed 3 in
    let t = c.args.p.now.t in
    let i = c.loop-i.i in
    let z : 1 * i + 0 ≡ i = omega arith in
    let here : word c.loop-i.rng 0 ≡ word g0 i = word_there g0 c.loop-i.rng (1 * i) 0 c.loop-i.invariant.place ∙ ap (word g0) z in
    let is : c.next.result % t ≡ item t c.args.seed i = ap (λ w. w % t) (c.next.ensures.word ∙ here) in
    let below : c.next.result % t < t = omega (arith, (facts c.args.p.now).t_pos) in
    drawing_goes_on (item t c.args.seed) (fits t) g0 1 i c.loop-i.values c.loop-i.rng (c.next.result % t) _ c.next.new.rng c.loop-i.invariant is below c.next.ensures.rng c.in_ok-push.ensures.ok

pub returns-clause-words : goal.returns-clause-words
unfolding values
returns-clause-words c = let e : c.loop-i.i ≡ c.args.count = omega arith in c.loop-i.invariant.so_far ∙ ap (λ m. listed m (item c.args.p.now.t c.args.seed)) e
