use Rattle.std.proofs.Common.{◌*◌, arith}
use lib.IntN.{pos, ◌*ℤ◌}
use Rattle.heco_ring.proofs.Integers.{z_mul_comm, z_neg_mul}
use Rattle.heco_transform.specs.Modulus.{modulus}
use Rattle.heco_transform.proofs.Butterflies.{plus_place, minus_place, twice}
use Rattle.heco_transform.proofs.four.forward_butterfly.Goals as goal

pub returns-clause-sum : goal.returns-clause-sum
returns-clause-sum c = plus_place modulus c.args.x c.times-z.result (pos c.args.s *ℤ pos c.args.y) (rw (z_mul_comm (pos c.args.s) (pos c.args.y)) c.times-z.ensures.value)

pub returns-clause-difference : goal.returns-clause-difference
returns-clause-difference c = rw (z_neg_mul (pos c.args.s) (pos c.args.y)) (minus_place modulus c.args.x (2 * modulus) c.times-z.result (pos c.args.s *ℤ pos c.args.y) (omega (arith, c.times-z.ensures.below)) twice (rw (z_mul_comm (pos c.args.s) (pos c.args.y)) c.times-z.ensures.value))
