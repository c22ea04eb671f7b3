use Rattle.std.proofs.Common.{max, ℕ, List, length, sym, ap, ◌∙◌}
use lib.IntN.{ℤ}
use Rattle.heco_scheme.specs.Ciphertexts.{part}
use Rattle.heco_scheme.specs.Gates.{subtracted}
use Rattle.heco_ring.specs.Ring.{plus, negate}
use Rattle.heco_bfv.proofs.Seen.{seen, count_two, count_three, third_long, third_or_long, made_two, made_three}
use Rattle.heco_scheme.proofs.LinearNoise.{subtracted_noise}
use Rattle.heco_bfv.proofs.Shapes.{subtracted_ciphertext, subtracted_count}
use Rattle.heco_bfv.proofs.gates.Gates.sub.Goals as goal
use Rattle.heco_bfv.proofs.gates.Gates.sub.Goals.{in-Some, in-None}

pub returns-clause-formula : goal.returns-clause-formula
unfolding subtracted
returns-clause-formula c =
    let n : ℕ = c.args.self.now.preset.n in
    let a = c.args.a.now in
    let b = c.args.b.now in
    let A = seen n c.args.a.now c.a.inside.first c.a.inside.second c.a.inside.third c.a.view_is c.requires.a in
    let B = seen n c.args.b.now c.b.inside.first c.b.inside.second c.b.inside.third c.b.view_is c.requires.b in
    let O = seen n c.args.out.now c.out.inside.first c.out.inside.second c.out.inside.third c.out.view_is c.requires.out in
    let f : ℕ → List ℤ = λ i. plus n (part a i) (negate n (part b i)) in
    let x = rw (O.first_long, sym A.first, sym B.first) at c.difference.ensures in
    let y = rw (O.second_long, sym A.second, sym B.second) at c.difference-2.ensures in
    elim c.match-out.branch [
      | in-Some w ↦
          let z = rw (third_long n c.args.out.now c.out.inside.first c.out.inside.second w.in-Some.third c.out.inside.third O w.in-Some.is, sym A.third, sym B.third) at w.difference_third.ensures in
          rw (w.out-inside-is) (made_three (max (length a) (length b)) n f c.difference.new.out c.difference-2.new.out w.difference_third.new.out (sym c.requires.count ∙ count_three n c.args.out.now c.out.inside.first c.out.inside.second w.in-Some.third c.out.inside.third O w.in-Some.is) x y z)
      | in-None w ↦ rw (w.out-inside-is, w.in-None.is) (made_two (max (length a) (length b)) n f c.difference.new.out c.difference-2.new.out (sym c.requires.count ∙ count_two n c.args.out.now c.out.inside.first c.out.inside.second c.out.inside.third O w.in-None.is) x y)
    ]

pub returns-clause-noise : goal.returns-clause-noise
returns-clause-noise c = λ s m l E F x y. rw (returns-clause-formula c) (subtracted_noise c.args.self.now.preset s c.args.a.now c.args.b.now m l E F x y)

pub difference_third-requires-clause-a : goal.difference_third-requires-clause-a
difference_third-requires-clause-a c =
    let n : ℕ = c.args.self.now.preset.n in
    let A = seen n c.args.a.now c.a.inside.first c.a.inside.second c.a.inside.third c.a.view_is c.requires.a in
    let O = seen n c.args.out.now c.out.inside.first c.out.inside.second c.out.inside.third c.out.view_is c.requires.out in
    rw (third_long n c.args.out.now c.out.inside.first c.out.inside.second c.in-Some.third c.out.inside.third O c.in-Some.is) (third_or_long n c.args.a.now c.a.inside.first c.a.inside.second c.a.inside.third A)

pub difference_third-requires-clause-b : goal.difference_third-requires-clause-b
difference_third-requires-clause-b c =
    let n : ℕ = c.args.self.now.preset.n in
    let B = seen n c.args.b.now c.b.inside.first c.b.inside.second c.b.inside.third c.b.view_is c.requires.b in
    let O = seen n c.args.out.now c.out.inside.first c.out.inside.second c.out.inside.third c.out.view_is c.requires.out in
    rw (third_long n c.args.out.now c.out.inside.first c.out.inside.second c.in-Some.third c.out.inside.third O c.in-Some.is) (third_or_long n c.args.b.now c.b.inside.first c.b.inside.second c.b.inside.third B)

pub returns-clause-ciphertext : goal.returns-clause-ciphertext
returns-clause-ciphertext c = rw (returns-clause-formula c) (subtracted_ciphertext c.args.self.now.preset c.args.a.now c.args.b.now (rw c.requires.count at c.requires.out.count))

pub returns-clause-count : goal.returns-clause-count
returns-clause-count c = ap length (returns-clause-formula c) ∙ subtracted_count c.args.self.now.preset c.args.a.now c.args.b.now ∙ sym c.requires.count
