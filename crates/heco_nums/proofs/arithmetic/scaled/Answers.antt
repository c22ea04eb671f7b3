use Rattle.std.proofs.Common.{arith, ◌≡◌, ◌*◌, ◌^◌, ◌<◌, refl}
use Rattle.std.proofs.Math.Nat.{mod-eq_of_lt}
use Rattle.heco_nums.specs.Arithmetic.{scaled}
use Rattle.heco_nums.proofs.PresetFacts.{facts}
use Rattle.heco_nums.proofs.arithmetic.scaled.Goals as goal

pub returns : goal.returns
unfolding scaled
returns c =
    let below : c.args.c * 2 ^ 58 < 2 ^ 128 = omega (arith, (facts c.args.p.now).t_small, c.requires) in
    let swapped : c.args.c * 2 ^ 58 ≡ 2 ^ 58 * c.args.c = omega arith in
    rw (c.from.ensures, c.from-2.ensures, c.from-3.ensures, mod-eq_of_lt below, swapped) refl
