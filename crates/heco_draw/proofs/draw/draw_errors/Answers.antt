use Rattle.std.proofs.Common.{◌≡◌, ℕ, ◌+◌, ◌*◌, ◌≤◌, ◌++◌, ◌∷◌, [], arith, rules, ap, ◌∙◌, length}
use Rattle.std.specs.Prelude.{ℤ}
use Rattle.std.specs.Int.RustNames.{unsigned_abs}
use mir.Val.{SFits}
use mir.Syntax.{w8}
use Rattle.std.proofs.lemmas.Int.{to_z-of_z}
use Rattle.rand_chacha.specs.ChaCha.{ChaCha}
use Rattle.heco_draw.specs.Words.{word, error, errors}
use Rattle.heco_nums.specs.Listed.{listed}
use Rattle.heco_draw.proofs.Drawn.{drawing_starts, drawing_goes_on, word_there}
use Rattle.heco_nums.proofs.ListedLaws.{length-listed}
use Rattle.heco_draw.proofs.draw.draw_errors.Goals as goal

abbrev item : ℕ → ChaCha → ℕ → ℤ
item b g i = error b (word g i)

abbrev fits : ℕ → ℤ → Type 0
fits b z = unsigned_abs z ≤ b

pub loop-i-init : goal.loop-i-init
loop-i-init c = drawing_starts (item c.args.b c.args.rng.now) (fits c.args.b) c.args.rng.now 1 c.new-errors.result c.new-errors.ensures

pub loop-i-preserved : goal.loop-i-preserved
loop-i-preserved c =
    let g0 = c.args.rng.now in
    let b = c.args.b in
    let i = c.loop-i.i in
    let small : SFits w8 c.error.result = search rules in
    let same = to_z-of_z w8 c.error.result small in
    let z : 1 * i + 0 ≡ i = omega arith in
    let here : word c.loop-i.rng 0 ≡ word g0 i = word_there g0 c.loop-i.rng (1 * i) 0 c.loop-i.invariant.place ∙ ap (word g0) z in
    let is : c.error.result ≡ item b g0 i = c.error.ensures.value ∙ ap (error b) here in
    let pushed : c.push.new.self ≡ c.loop-i.errors ++ c.error.result ∷ [] = c.in_ok-push.ensures.ok ∙ ap (λ x. c.loop-i.errors ++ x ∷ []) same in
    drawing_goes_on (item b g0) (fits b) g0 1 i c.loop-i.errors c.loop-i.rng c.error.result c.push.new.self c.error.new.rng c.loop-i.invariant is c.error.ensures.small c.error.ensures.rng pushed

pub returns-clause-errors : goal.returns-clause-errors
unfolding errors
returns-clause-errors c = let e : c.loop-i.i ≡ c.args.n = omega arith in c.loop-i.invariant.so_far ∙ ap (λ m. listed m (item c.args.b c.args.rng.now)) e

pub returns-clause-within : goal.returns-clause-within
returns-clause-within c = record {
  long = let e : c.loop-i.i ≡ c.args.n = omega arith in ap length c.loop-i.invariant.so_far ∙ length-listed (item c.args.b c.args.rng.now) c.loop-i.i ∙ e;
  small = c.loop-i.invariant.within;
}
