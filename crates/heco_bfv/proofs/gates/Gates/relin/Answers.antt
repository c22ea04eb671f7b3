use Rattle.std.proofs.Common.{◌≡◌, ◌^◌, ℕ, List, [], length, sym, ap, ◌∙◌, None, refl}
use lib.ListN.{get_or}
use Rattle.heco_nums.specs.declared.preset.Preset.{Preset}
use Rattle.heco_ring.specs.Ring.{wholes, plus, times, sum_lists}
use Rattle.heco_ring.specs.Remainders.{reduced}
use Rattle.heco_scheme.specs.Keys.{row, square}
use Rattle.heco_scheme.specs.Ciphertexts.{part}
use Rattle.heco_scheme.specs.Gates.{relinearised, switched, digits}
use Rattle.heco_scheme.proofs.SwitchedNoise.{relinearised_noise}
use Rattle.heco_bfv.proofs.Seen.{seen, third_at, none_third}
use Rattle.heco_bfv.proofs.Shapes.{relinearised_ciphertext, relinearised_count}
use Rattle.heco_bfv.proofs.gates.Gates.relin.Goals as goal

pub returns-in-Some-clause-formula : goal.returns-in-Some-clause-formula
unfolding relinearised switched
returns-in-Some-clause-formula c =
    let n : ℕ = c.args.self.now.preset.n in
    let A = seen n c.args.a.now c.a.inside.first c.a.inside.second c.a.inside.third c.a.view_is c.requires.a in
    let O = seen n c.args.out.now c.out.inside.first c.out.inside.second c.out.inside.third c.out.view_is c.requires.out in
    let third : List ℕ = c.in-Some.third in
    let m : c.args.self.now.room.n ≡ n = ap (λ (p : Preset). p.n) c.args.self.now.room_preset in
    let t : get_or c.args.a.now 2 [] ≡ c.in-Some.third = third_at n c.args.a.now c.a.inside.first c.a.inside.second c.in-Some.third c.a.inside.third A c.in-Some.is in
    let none : c.out.inside.third ≡ None = none_third n c.args.out.now c.out.inside.first c.out.inside.second c.out.inside.third O c.requires.two in
    let x : c.switch.new.c0 ≡ reduced (2 ^ 58) n (plus n (part c.args.a.now 0) (sum_lists n 29 (λ i. times n (digits n (get_or c.args.a.now 2 []) i) (wholes (row c.args.k.now.rows i).0)))) =
    rw (m, c.copy_in.ensures, sym A.first, sym t) at c.switch.ensures.first in
    let y : c.switch.new.c1 ≡ reduced (2 ^ 58) n (plus n (part c.args.a.now 1) (sum_lists n 29 (λ i. times n (digits n (get_or c.args.a.now 2 []) i) (wholes (row c.args.k.now.rows i).1)))) =
    rw (m, c.copy_in-2.ensures, sym A.second, sym t) at c.switch.ensures.second in
    rw (none, x, y) refl

pub returns-in-Some-clause-ciphertext : goal.returns-in-Some-clause-ciphertext
returns-in-Some-clause-ciphertext c = rw (returns-in-Some-clause-formula c) (relinearised_ciphertext c.args.self.now.preset c.args.k.now.rows c.args.a.now)

pub returns-in-Some-clause-count : goal.returns-in-Some-clause-count
returns-in-Some-clause-count c = ap length (returns-in-Some-clause-formula c) ∙ relinearised_count c.args.self.now.preset c.args.k.now.rows c.args.a.now

pub returns-in-Some-clause-noise : goal.returns-in-Some-clause-noise
unfolding square
returns-in-Some-clause-noise c = λ s m E K h. rw (returns-in-Some-clause-formula c) (relinearised_noise c.args.self.now.preset s c.args.k.now.rows c.args.a.now m E K h)
