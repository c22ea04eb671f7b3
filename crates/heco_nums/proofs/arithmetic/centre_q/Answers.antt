use Rattle.std.proofs.Common.{rules, ◌^◌, arith, to_z-of_z}
use Rattle.std.proofs.Math.Facts.{to_z_pos}
use Rattle.std.proofs.lemmas.Bool.{lt-ltb, le-ltb}
use mir.Syntax.{w64}
use Rattle.heco_nums.specs.Arithmetic.{centre_q}
use Rattle.heco_nums.proofs.arithmetic.centre_q.Goals as goal

pub returns-then-c : goal.returns-then-c
unfolding centre_q
returns-then-c c = rw (lt-ltb c.args.c (2 ^ 57) c.if-c.true) (to_z_pos w64 (omega arith))

pub returns-else-c : goal.returns-else-c
unfolding centre_q
returns-else-c c = rw (le-ltb c.args.c (2 ^ 57) c.if-c.false, to_z_pos w64 {n = c.args.c} (omega arith)) (to_z-of_z {w = w64} (search rules))
