use Rattle.std.proofs.Common.{◌≡◌, ◌∙◌, ◌^◌, ℕ, List, [], length, get_or, refl, sym}
use Rattle.heco_ring.specs.Remainders.{reduced}
use Rattle.heco_ring.specs.Ring.{wholes, times}
use Rattle.heco_measure.proofs.Phases.{two_at_least, phase_of_two, phase_of_three}
use Rattle.heco_measure.proofs.noise.phase_of.Goals as goal

pub returns-then-parts-eq2-clause-value : goal.returns-then-parts-eq2-clause-value
returns-then-parts-eq2-clause-value c =
    let p = c.args.s.now.preset in
    let x = c.args.c.now in
    let second : length (get_or x 1 []) ≡ p.n = c.requires.places 1 (two_at_least p.n x c.requires) in
    let m = rw (c.part.ensures, second, c.as_slice.ensures.places) at c.mul_sparse_into.ensures.value in
    let long : length c.mul_sparse_into.new.out ≡ p.n = c.mul_sparse_into.ensures.long ∙ c.in_ok-phase.ensures in
    let z = rw (long, c.part-2.ensures) at c.add_in.ensures.value in
    phase_of_two p c.args.s.now.places x c.mul_sparse_into.new.out c.add_in.new.self (sym c.parts.ensures.count ∙ c.if-parts-eq2.true) m z

pub returns-clause-value : goal.returns-clause-value
returns-clause-value c =
    let p = c.args.s.now.preset in
    let s = c.args.s.now.places in
    let x = c.args.c.now in
    let second : length (get_or x 1 []) ≡ p.n = c.requires.places 1 (two_at_least p.n x c.requires) in
    let m = rw (c.part.ensures, second, c.as_slice.ensures.places) at c.mul_sparse_into.ensures.value in
    let long : length c.mul_sparse_into.new.out ≡ p.n = c.mul_sparse_into.ensures.long ∙ c.in_ok-phase.ensures in
    let z = rw (long, c.part-2.ensures) at c.add_in.ensures.value in
    let whole : length c.add_in.new.self ≡ p.n = c.add_in.ensures.long ∙ long in
    let once : List ℕ = reduced (2 ^ 58) p.n (times p.n s (wholes (get_or x 2 []))) in
    let twice = rw (c.part-3.ensures) at c.in_ok-third.ensures.value in
    let sum = rw whole at c.add_in-2.ensures.value in
    phase_of_three p s x c.mul_sparse_into.new.out c.add_in.new.self once c.in_ok-third.third c.add_in-2.new.self m z refl twice sum
