use Rattle.std.proofs.Common.{◌≡◌, ◌*◌, ◌%◌, ◌^◌, ℕ, List, length, sym, ap, ◌∙◌, None, refl}
use lib.IntN.{ℤ}
use Rattle.heco_nums.specs.declared.preset.Preset.{Preset}
use Rattle.heco_ring.specs.Ring.{wholes, times, turn, sum_lists}
use Rattle.heco_ring.specs.Remainders.{reduced}
use Rattle.heco_scheme.specs.Keys.{row, turned_secret}
use Rattle.heco_scheme.specs.Ciphertexts.{part}
use Rattle.heco_scheme.specs.Gates.{turned, switched, digits}
use Rattle.heco_scheme.proofs.SwitchedNoise.{turned_noise}
use Rattle.heco_bfv.proofs.Seen.{seen, none_third}
use Rattle.heco_bfv.proofs.Shapes.{turned_ciphertext, turned_count}
use Rattle.heco_bfv.proofs.SwitchSteps.{turn_first, turn_second}
use Rattle.heco_bfv.proofs.gates.Gates.turn.Goals as goal

pub turn_into-requires-clause-out_len : goal.turn_into-requires-clause-out_len
turn_into-requires-clause-out_len c =
    let A = seen c.args.self.now.preset.n c.args.a.now c.a.inside.first c.a.inside.second c.a.inside.third c.a.view_is c.requires.a in
    let O = seen c.args.self.now.preset.n c.args.out.now c.out.inside.first c.out.inside.second c.out.inside.third c.out.view_is c.requires.out in
    O.first_long ∙ sym A.first_long

pub turn_into-requires-clause-g_in : goal.turn_into-requires-clause-g_in
turn_into-requires-clause-g_in c =
    let A = seen c.args.self.now.preset.n c.args.a.now c.a.inside.first c.a.inside.second c.a.inside.third c.a.view_is c.requires.a in
    let l : length c.a.inside.first ≡ c.args.self.now.preset.n = A.first_long in
    rw l c.exponent-g.ensures.small

pub turn_into-requires-2-clause-out_len : goal.turn_into-requires-2-clause-out_len
turn_into-requires-2-clause-out_len c =
    let A = seen c.args.self.now.preset.n c.args.a.now c.a.inside.first c.a.inside.second c.a.inside.third c.a.view_is c.requires.a in
    c.args.self.now.turned_long ∙ sym A.second_long

pub turn_into-requires-2-clause-g_in : goal.turn_into-requires-2-clause-g_in
turn_into-requires-2-clause-g_in c =
    let A = seen c.args.self.now.preset.n c.args.a.now c.a.inside.first c.a.inside.second c.a.inside.third c.a.view_is c.requires.a in
    let l : length c.a.inside.second ≡ c.args.self.now.preset.n = A.second_long in
    rw l c.exponent-g.ensures.small

pub returns-clause-formula : goal.returns-clause-formula
unfolding turned switched
returns-clause-formula c =
    let n : ℕ = c.args.self.now.preset.n in
    let r : ℕ = c.args.r in
    let g : ℕ = 3 ^ c.args.r % (2 * n) in
    let A = seen n c.args.a.now c.a.inside.first c.a.inside.second c.a.inside.third c.a.view_is c.requires.a in
    let O = seen n c.args.out.now c.out.inside.first c.out.inside.second c.out.inside.third c.out.view_is c.requires.out in
    let m : c.args.self.now.room.n ≡ n = ap (λ (p : Preset). p.n) c.args.self.now.room_preset in
    let none : c.out.inside.third ≡ None = none_third n c.args.out.now c.out.inside.first c.out.inside.second c.out.inside.third O c.requires.two in
    let b : List ℕ = reduced (2 ^ 58) n (turn n (part c.args.a.now 1) g) in
    let S0 : List ℤ = sum_lists n 29 (λ i. times n (digits n (reduced (2 ^ 58) n (turn n (part c.args.a.now 1) (3 ^ c.args.r % (2 * n)))) i) (wholes (row c.args.k.now.rows i).0)) in
    let S1 : List ℤ = sum_lists n 29 (λ i. times n (digits n (reduced (2 ^ 58) n (turn n (part c.args.a.now 1) (3 ^ c.args.r % (2 * n)))) i) (wholes (row c.args.k.now.rows i).1)) in
    let t0 : c.turn_into.new.out ≡ reduced (2 ^ 58) n (turn n (part c.args.a.now 0) (3 ^ c.args.r % (2 * n))) = rw (A.first_long, sym A.first, c.exponent-g.ensures.value) at c.turn_into.ensures.value in
    let t1 : c.turn_into-2.new.out ≡ reduced (2 ^ 58) n (turn n (part c.args.a.now 1) (3 ^ c.args.r % (2 * n))) = rw (A.second_long, sym A.second, c.exponent-g.ensures.value) at c.turn_into-2.ensures.value in
    let z : c.copy_in.new.self ≡ c.args.self.now.zero = c.copy_in.ensures in
    let x0 = rw (m, t1) at c.switch.ensures.first in
    let y0 = rw (m, t1) at c.switch.ensures.second in
    let x = turn_first n (turn n (part c.args.a.now 0) (3 ^ c.args.r % (2 * n))) S0 c.turn_into.new.out c.switch.new.c0 t0 x0 in
    let y = turn_second n S1 c.copy_in.new.self c.switch.new.c1 (z ∙ c.args.self.now.zeros) y0 in
    rw (none, x, y) refl

pub returns-clause-ciphertext : goal.returns-clause-ciphertext
returns-clause-ciphertext c = rw (returns-clause-formula c) (turned_ciphertext c.args.self.now.preset c.args.r c.args.k.now.rows c.args.a.now)

pub returns-clause-count : goal.returns-clause-count
returns-clause-count c = ap length (returns-clause-formula c) ∙ turned_count c.args.self.now.preset c.args.r c.args.k.now.rows c.args.a.now

pub returns-clause-noise : goal.returns-clause-noise
unfolding turned_secret
returns-clause-noise c = λ s m E K h. rw (returns-clause-formula c) (turned_noise c.args.self.now.preset s c.args.r c.args.k.now.rows c.args.a.now m E c.requires.r c.requires.a_two K h)
