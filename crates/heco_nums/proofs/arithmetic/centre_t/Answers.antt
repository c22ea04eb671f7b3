use Rattle.std.proofs.Common.{rules, ◌*◌, SFits, to_z-of_z, refl}
use Rattle.std.proofs.lemmas.Bool.{lt-ltb, le-ltb}
use lib.IntN.{◌-ℤ◌}
use mir.Syntax.{w64}
use Rattle.heco_nums.specs.Arithmetic.{centre_t}
use Rattle.heco_nums.proofs.arithmetic.centre_t.Goals as goal

pub returns-then-c-p : goal.returns-then-c-p
unfolding centre_t
returns-then-c-p c =
    let f : SFits w64 c.from.result = record { sfits = c.from.type_inv } in
    simp to_z-of_z (rw (lt-ltb (2 * c.args.c) c.args.p.now.t c.if-c-p.true) c.from.ensures)

pub returns-else-c-p : goal.returns-else-c-p
unfolding centre_t
returns-else-c-p c =
    let f : SFits w64 c.from-else-c-p.result = record { sfits = c.from-else-c-p.type_inv } in
    let g : SFits w64 c.from-else-c-p-2.result = record { sfits = c.from-else-c-p-2.type_inv } in
    let h : SFits w64 (c.from-else-c-p.result -ℤ c.from-else-c-p-2.result) = search rules in
    simp to_z-of_z (rw (le-ltb (2 * c.args.c) c.args.p.now.t c.if-c-p.false, c.from-else-c-p.ensures, c.from-else-c-p-2.ensures) refl)
