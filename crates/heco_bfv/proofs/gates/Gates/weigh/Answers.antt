use Rattle.std.proofs.Common.{ℕ, List, length, sym, ap, ◌∙◌}
use lib.IntN.{ℤ}
use Rattle.heco_ring.specs.Ring.{wholes, times}
use Rattle.heco_scheme.specs.Ciphertexts.{part}
use Rattle.heco_scheme.specs.Gates.{times_each}
use Rattle.heco_scheme.proofs.WeighedNoise.{weighed_by_words, weighed_noise}
use Rattle.heco_bfv.proofs.Seen.{seen, count_two, count_three, third_long, made_two, made_three}
use Rattle.heco_bfv.proofs.Shapes.{times_ciphertext, times_count}
use Rattle.heco_bfv.proofs.gates.Gates.weigh.Goals as goal
use Rattle.heco_bfv.proofs.gates.Gates.weigh.Goals.{in-Some, in-None}

pub returns-clause-product : goal.returns-clause-product
unfolding times_each
returns-clause-product c =
    let p = c.args.self.now.preset in
    let n : ℕ = c.args.self.now.preset.n in
    let A = seen n c.args.a.now c.a.inside.first c.a.inside.second c.a.inside.third c.a.view_is c.requires.a in
    let O = seen n c.args.out.now c.out.inside.first c.out.inside.second c.out.inside.third c.out.view_is c.requires.out in
    let g : ℕ → List ℤ = λ i. times n (wholes c.args.m.now) (part c.args.a.now i) in
    let x = rw (c.requires.m, sym A.first) at c.mul_into.ensures.value in
    let y = rw (c.requires.m, sym A.second) at c.mul_into-2.ensures.value in
    elim c.match-out.branch [
      | in-Some w ↦
          let z = rw (third_long n c.args.out.now c.out.inside.first c.out.inside.second w.in-Some.third c.out.inside.third O w.in-Some.is, sym A.third) at w.product_third.ensures in
          rw (w.out-inside-is) (made_three (length c.args.a.now) n g c.mul_into.new.out c.mul_into-2.new.out w.product_third.new.out (sym c.requires.count ∙ count_three n c.args.out.now c.out.inside.first c.out.inside.second w.in-Some.third c.out.inside.third O w.in-Some.is) x y z)
      | in-None w ↦ rw (w.out-inside-is, w.in-None.is) (made_two (length c.args.a.now) n g c.mul_into.new.out c.mul_into-2.new.out (sym c.requires.count ∙ count_two n c.args.out.now c.out.inside.first c.out.inside.second c.out.inside.third O w.in-None.is) x y)
    ]

pub returns-clause-formula : goal.returns-clause-formula
returns-clause-formula c = λ v e. returns-clause-product c ∙ ap (λ (x : List ℕ). times_each c.args.self.now.preset (wholes x) c.args.a.now) e ∙ weighed_by_words c.args.self.now.preset v c.args.a.now

pub returns-clause-noise : goal.returns-clause-noise
returns-clause-noise c = λ v e s l E x. rw (returns-clause-formula c v e) (weighed_noise c.args.self.now.preset s v c.args.a.now l E x)

pub returns-clause-ciphertext : goal.returns-clause-ciphertext
returns-clause-ciphertext c = rw (returns-clause-product c) (times_ciphertext c.args.self.now.preset (wholes c.args.m.now) c.args.a.now c.requires.a.count)

pub returns-clause-count : goal.returns-clause-count
returns-clause-count c = ap length (returns-clause-product c) ∙ times_count c.args.self.now.preset (wholes c.args.m.now) c.args.a.now ∙ sym c.requires.count
