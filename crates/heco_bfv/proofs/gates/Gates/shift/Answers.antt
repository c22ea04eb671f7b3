use Rattle.std.proofs.Common.{ℕ, List, [], length, sym, ap, ◌∙◌}
use lib.IntN.{ℤ, pos}
use mathlib.Core.Bool.{cond}
use lib.Dec.{eqb}
use Rattle.heco_nums.specs.Arithmetic.{scaled}
use Rattle.heco_scheme.specs.Ciphertexts.{part}
use Rattle.heco_scheme.specs.Gates.{shifted}
use Rattle.heco_ring.specs.Ring.{plus, constant}
use Rattle.heco_bfv.proofs.Constants.{shift_first, shift_second, shift_third}
use Rattle.heco_bfv.proofs.Seen.{seen, count_two, count_three, count_some, third_long, third_or_long, made_two, made_three}
use Rattle.heco_scheme.proofs.LinearNoise.{shifted_noise}
use Rattle.heco_bfv.proofs.Shapes.{shifted_ciphertext, shifted_count}
use Rattle.heco_bfv.proofs.gates.Gates.shift.Goals as goal
use Rattle.heco_bfv.proofs.gates.Gates.shift.Goals.{in-Some, in-None}

pub returns-clause-formula : goal.returns-clause-formula
unfolding shifted
returns-clause-formula c =
    let p = c.args.self.now.preset in
    let n : ℕ = c.args.self.now.preset.n in
    let v : ℕ = scaled c.args.self.now.preset.t c.args.c in
    let A = seen n c.args.a.now c.a.inside.first c.a.inside.second c.a.inside.third c.a.view_is c.requires.a in
    let O = seen n c.args.out.now c.out.inside.first c.out.inside.second c.out.inside.third c.out.view_is c.requires.out in
    let g : ℕ → List ℤ = λ i. plus n (part c.args.a.now i) (cond (eqb i 0) (constant n (pos v)) []) in
    let K = rw (c.raised.ensures.value, c.copy_in.ensures, c.args.self.now.zeros) at c.set.ensures in
    let x0 = rw (O.first_long, sym A.first) at c.sum.ensures in
    let y0 = rw (O.second_long, sym A.second) at c.sum-2.ensures in
    let x = shift_first n v (part c.args.a.now 0) c.set.new.self c.sum.new.out K x0 in
    let y = shift_second n (part c.args.a.now 1) c.args.self.now.zero c.sum-2.new.out c.args.self.now.zeros y0 in
    elim c.match-out.branch [
      | in-Some w ↦
          let z0 = rw (third_long n c.args.out.now c.out.inside.first c.out.inside.second w.in-Some.third c.out.inside.third O w.in-Some.is, sym A.third) at w.sum_third.ensures in
          let z = shift_third n (part c.args.a.now 2) w.sum_third.new.out z0 in
          rw (w.out-inside-is) (made_three (length c.args.a.now) n g c.sum.new.out c.sum-2.new.out w.sum_third.new.out (sym c.requires.count ∙ count_three n c.args.out.now c.out.inside.first c.out.inside.second w.in-Some.third c.out.inside.third O w.in-Some.is) x y z)
      | in-None w ↦ rw (w.out-inside-is, w.in-None.is) (made_two (length c.args.a.now) n g c.sum.new.out c.sum-2.new.out (sym c.requires.count ∙ count_two n c.args.out.now c.out.inside.first c.out.inside.second c.out.inside.third O w.in-None.is) x y)
    ]

pub returns-clause-noise : goal.returns-clause-noise
returns-clause-noise c = λ s m E x. rw (returns-clause-formula c) (shifted_noise c.args.self.now.preset s c.args.c c.args.a.now m E (count_some c.args.self.now.preset.n c.args.a.now c.requires.a) x)

pub sum_third-requires-clause-a : goal.sum_third-requires-clause-a
sum_third-requires-clause-a c =
    let n : ℕ = c.args.self.now.preset.n in
    let A = seen n c.args.a.now c.a.inside.first c.a.inside.second c.a.inside.third c.a.view_is c.requires.a in
    let O = seen n c.args.out.now c.out.inside.first c.out.inside.second c.out.inside.third c.out.view_is c.requires.out in
    rw (third_long n c.args.out.now c.out.inside.first c.out.inside.second c.in-Some.third c.out.inside.third O c.in-Some.is) (third_or_long n c.args.a.now c.a.inside.first c.a.inside.second c.a.inside.third A)

pub returns-clause-ciphertext : goal.returns-clause-ciphertext
returns-clause-ciphertext c = rw (returns-clause-formula c) (shifted_ciphertext c.args.self.now.preset c.args.c c.args.a.now c.requires.a.count)

pub returns-clause-count : goal.returns-clause-count
returns-clause-count c = ap length (returns-clause-formula c) ∙ shifted_count c.args.self.now.preset c.args.c c.args.a.now ∙ sym c.requires.count
