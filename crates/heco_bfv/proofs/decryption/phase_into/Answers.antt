use Rattle.std.proofs.Common.{◌≡◌, ℕ, List, length, ◌∙◌, arith}
use Rattle.heco_ring.specs.Ring.{wholes}
use Rattle.heco_bfv.proofs.Seen.{seen, third_long}
use Rattle.heco_bfv.proofs.PhaseSteps.{two_phase, three_phase}
use Rattle.heco_bfv.proofs.decryption.phase_into.Goals as goal

pub returns-in-None-clause-formula : goal.returns-in-None-clause-formula
unfolding wholes
returns-in-None-clause-formula c =
    let n : ℕ = length c.args.out.now in
    let C = seen n c.args.c.now c.c.inside.first c.c.inside.second c.c.inside.third c.c.view_is c.requires.c in
    let m = rw (C.second_long) at c.mul_sparse_into.ensures.value in
    let z = rw (c.mul_sparse_into.ensures.long) at c.add_in.ensures.value in
    rw (C.first, C.second, C.third, c.in-None.is) (z ∙ two_phase n (wholes c.c.inside.first) (wholes c.c.inside.second) c.args.s.now c.mul_sparse_into.new.out m)

pub returns-in-Some-clause-formula : goal.returns-in-Some-clause-formula
returns-in-Some-clause-formula c =
    let n : ℕ = length c.args.out.now in
    let C = seen n c.args.c.now c.c.inside.first c.c.inside.second c.c.inside.third c.c.view_is c.requires.c in
    let m = rw (C.second_long) at c.mul_sparse_into.ensures.value in
    let z = rw (c.mul_sparse_into.ensures.long) at c.add_in.ensures.value in
    let third : List ℕ = c.in-Some.third in
    let lt : length third ≡ n = third_long n c.args.c.now c.c.inside.first c.c.inside.second third c.c.inside.third C c.in-Some.is in
    let p = rw lt at c.mul_sparse_into-in-Some.ensures.value in
    let lp : length c.mul_sparse_into-in-Some.new.out ≡ n = omega arith in
    let r = rw lp at c.mul_sparse_into-in-Some-2.ensures.value in
    let lz : length c.add_in.new.self ≡ n = omega arith in
    let e = rw lz at c.add_in-in-Some.ensures.value in
    rw (C.first, C.second, C.third, c.in-Some.is)
    (e ∙ three_phase n (wholes c.c.inside.first) (wholes c.c.inside.second) (wholes third) c.args.s.now c.mul_sparse_into.new.out c.add_in.new.self c.mul_sparse_into-in-Some.new.out c.mul_sparse_into-in-Some-2.new.out m z p r)
