use Rattle.std.proofs.Common.{◌≡◌, ℕ, ◌+◌, ◌*◌, ◌<◌, ◌^◌, arith, ap, ◌∙◌, length}
use Rattle.rand_chacha.specs.ChaCha.{ChaCha}
use Rattle.heco_draw.specs.Words.{word, long_word, long_words}
use Rattle.heco_nums.specs.Listed.{listed}
use Rattle.heco_draw.proofs.Drawn.{drawing_starts, drawing_goes_on, word_there}
use Rattle.heco_nums.proofs.ListedLaws.{length-listed}
use Rattle.heco_draw.proofs.draw.draw_words.Goals as goal

abbrev item : ChaCha → ℕ → ℕ
item g i = long_word (word g (2 * i)) (word g (2 * i + 1))

abbrev fits : ℕ → Type 0
fits x = x < 2 ^ 58

pub loop-i-init : goal.loop-i-init
loop-i-init c = drawing_starts (item c.args.rng.now) fits c.args.rng.now 2 c.new-words.result c.new-words.ensures

pub loop-i-preserved : goal.loop-i-preserved
loop-i-preserved c =
    let g0 = c.args.rng.now in
    let i = c.loop-i.i in
    let z : 2 * i + 0 ≡ 2 * i = omega arith in
    let first : word c.loop-i.rng 0 ≡ word g0 (2 * i) = word_there g0 c.loop-i.rng (2 * i) 0 c.loop-i.invariant.place ∙ ap (word g0) z in
    let second : word c.loop-i.rng 1 ≡ word g0 (2 * i + 1) = word_there g0 c.loop-i.rng (2 * i) 1 c.loop-i.invariant.place in
    let is : c.long_word.result ≡ item g0 i = c.long_word.ensures.word ∙ ap (λ h. long_word h (word c.loop-i.rng 1)) first ∙ ap (long_word (word g0 (2 * i))) second in
    drawing_goes_on (item g0) fits g0 2 i c.loop-i.words c.loop-i.rng c.long_word.result _ c.long_word.new.rng c.loop-i.invariant is c.long_word.ensures.small c.long_word.ensures.rng c.in_ok-push.ensures.ok

pub returns-clause-words : goal.returns-clause-words
unfolding long_words
returns-clause-words c = let e : c.loop-i.i ≡ c.args.n = omega arith in c.loop-i.invariant.so_far ∙ ap (λ m. listed m (item c.args.rng.now)) e

pub returns-clause-within : goal.returns-clause-within
returns-clause-within c = record {
  long = let e : c.loop-i.i ≡ c.args.n = omega arith in ap length c.loop-i.invariant.so_far ∙ length-listed (item c.args.rng.now) c.loop-i.i ∙ e;
  below = c.loop-i.invariant.within;
}
