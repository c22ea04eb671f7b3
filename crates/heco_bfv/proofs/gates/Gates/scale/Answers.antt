use Rattle.std.proofs.Common.{rules, ℕ, List, length, sym, ap, ◌∙◌, SFits, to_z-of_z}
use mir.Syntax.{w64}
use lib.IntN.{ℤ}
use Rattle.heco_scheme.specs.Ciphertexts.{part}
use Rattle.heco_scheme.specs.Gates.{scaled_by}
use Rattle.heco_nums.specs.Arithmetic.{centre_t}
use Rattle.heco_ring.specs.Ring.{scale}
use Rattle.heco_bfv.proofs.Seen.{seen, count_two, count_three, third_long, made_two, made_three}
use Rattle.heco_scheme.proofs.LinearNoise.{scaled_noise}
use Rattle.heco_bfv.proofs.Shapes.{scaled_ciphertext, scaled_count}
use Rattle.heco_bfv.proofs.gates.Gates.scale.Goals as goal
use Rattle.heco_bfv.proofs.gates.Gates.scale.Goals.{in-Some, in-None}

pub returns-clause-formula : goal.returns-clause-formula
unfolding scaled_by
returns-clause-formula c =
    let p = c.args.self.now.preset in
    let n : ℕ = c.args.self.now.preset.n in
    let A = seen n c.args.a.now c.a.inside.first c.a.inside.second c.a.inside.third c.a.view_is c.requires.a in
    let O = seen n c.args.out.now c.out.inside.first c.out.inside.second c.out.inside.third c.out.view_is c.requires.out in
    let f : SFits w64 c.factor-factor.result = search rules in
    let g : ℕ → List ℤ = λ i. scale n (centre_t c.args.self.now.preset.t c.args.c) (part c.args.a.now i) in
    let x0 = simp to_z-of_z at c.multiple.ensures in
    let y0 = simp to_z-of_z at c.multiple-2.ensures in
    let x = rw (O.first_long, sym A.first, c.factor-factor.ensures.value) at x0 in
    let y = rw (O.second_long, sym A.second, c.factor-factor.ensures.value) at y0 in
    elim c.match-out.branch [
      | in-Some w ↦
          let z0 = simp to_z-of_z at w.multiple_third.ensures in
          let z = rw (third_long n c.args.out.now c.out.inside.first c.out.inside.second w.in-Some.third c.out.inside.third O w.in-Some.is, sym A.third, c.factor-factor.ensures.value) at z0 in
          rw (w.out-inside-is) (made_three (length c.args.a.now) n g c.multiple.new.out c.multiple-2.new.out w.multiple_third.new.out (sym c.requires.count ∙ count_three n c.args.out.now c.out.inside.first c.out.inside.second w.in-Some.third c.out.inside.third O w.in-Some.is) x y z)
      | in-None w ↦ rw (w.out-inside-is, w.in-None.is) (made_two (length c.args.a.now) n g c.multiple.new.out c.multiple-2.new.out (sym c.requires.count ∙ count_two n c.args.out.now c.out.inside.first c.out.inside.second c.out.inside.third O w.in-None.is) x y)
    ]

pub returns-clause-noise : goal.returns-clause-noise
returns-clause-noise c = λ s m E x. rw (returns-clause-formula c) (scaled_noise c.args.self.now.preset s c.args.c c.args.a.now m E x)

pub returns-clause-ciphertext : goal.returns-clause-ciphertext
returns-clause-ciphertext c = rw (returns-clause-formula c) (scaled_ciphertext c.args.self.now.preset c.args.c c.args.a.now c.requires.a.count)

pub returns-clause-count : goal.returns-clause-count
returns-clause-count c = ap length (returns-clause-formula c) ∙ scaled_count c.args.self.now.preset c.args.c c.args.a.now ∙ sym c.requires.count
