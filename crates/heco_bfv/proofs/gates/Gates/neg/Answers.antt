use Rattle.std.proofs.Common.{ℕ, List, length, sym, ap, ◌∙◌}
use lib.IntN.{ℤ}
use Rattle.heco_scheme.specs.Ciphertexts.{part}
use Rattle.heco_scheme.specs.Gates.{negated}
use Rattle.heco_ring.specs.Ring.{negate}
use Rattle.heco_bfv.proofs.Seen.{seen, count_two, count_three, third_long, made_two, made_three}
use Rattle.heco_scheme.proofs.LinearNoise.{negated_noise}
use Rattle.heco_bfv.proofs.Shapes.{negated_ciphertext, negated_count}
use Rattle.heco_bfv.proofs.gates.Gates.neg.Goals as goal
use Rattle.heco_bfv.proofs.gates.Gates.neg.Goals.{in-Some, in-None}

pub returns-clause-formula : goal.returns-clause-formula
unfolding negated
returns-clause-formula c =
    let n : ℕ = c.args.self.now.preset.n in
    let A = seen n c.args.a.now c.a.inside.first c.a.inside.second c.a.inside.third c.a.view_is c.requires.a in
    let O = seen n c.args.out.now c.out.inside.first c.out.inside.second c.out.inside.third c.out.view_is c.requires.out in
    let g : ℕ → List ℤ = λ i. negate n (part c.args.a.now i) in
    let x = rw (O.first_long, sym A.first) at c.negative.ensures in
    let y = rw (O.second_long, sym A.second) at c.negative-2.ensures in
    elim c.match-out.branch [
      | in-Some w ↦
          let z = rw (third_long n c.args.out.now c.out.inside.first c.out.inside.second w.in-Some.third c.out.inside.third O w.in-Some.is, sym A.third) at w.negative_third.ensures in
          rw (w.out-inside-is) (made_three (length c.args.a.now) n g c.negative.new.out c.negative-2.new.out w.negative_third.new.out (sym c.requires.count ∙ count_three n c.args.out.now c.out.inside.first c.out.inside.second w.in-Some.third c.out.inside.third O w.in-Some.is) x y z)
      | in-None w ↦ rw (w.out-inside-is, w.in-None.is) (made_two (length c.args.a.now) n g c.negative.new.out c.negative-2.new.out (sym c.requires.count ∙ count_two n c.args.out.now c.out.inside.first c.out.inside.second c.out.inside.third O w.in-None.is) x y)
    ]

pub returns-clause-noise : goal.returns-clause-noise
returns-clause-noise c = λ s m E x. rw (returns-clause-formula c) (negated_noise c.args.self.now.preset s c.args.a.now m E x)

pub returns-clause-ciphertext : goal.returns-clause-ciphertext
returns-clause-ciphertext c = rw (returns-clause-formula c) (negated_ciphertext c.args.self.now.preset c.args.a.now c.requires.a.count)

pub returns-clause-count : goal.returns-clause-count
returns-clause-count c = ap length (returns-clause-formula c) ∙ negated_count c.args.self.now.preset c.args.a.now ∙ sym c.requires.count
