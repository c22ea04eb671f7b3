use mir.Syntax.{w128}
use Rattle.std.proofs.Common.{rules, SFits, to_z-of_z, ◌<◌, ◌^◌, length, get_or, arith}
use lib.IntN.{pos}
use Rattle.heco_noise_laws.specs.Noise.{rounded}
use Rattle.heco_ring.proofs.Remainders.{rem-lt}
use Rattle.heco_ring.specs.Ring.{at}
use Rattle.heco_wide.proofs.Products.{rounded_filled}
use Rattle.heco_wide.proofs.round.round_all.Goals as goal

pub returns-clause-value : goal.returns-clause-value
unfolding at
returns-clause-value c = rounded_filled (length c.args.x.now) c.args.t c.args.x.now c.loop-k.out c.loop-k.invariant.long (λ k h. c.loop-k.invariant.done k (omega (arith, c.loop-k.invariant.long)))

pub set-requires-clause-below : goal.set-requires-clause-below
set-requires-clause-below c =
    let inside : c.loop-k.k < length c.args.x.now = omega (arith, c.loop-k.invariant.long) in
    let f : SFits w128 (get_or c.args.x.now c.loop-k.k (pos 0)) = search rules in
    let v = simp to_z-of_z at c.round.ensures in
    rw v (rem-lt (2 ^ 58) (rounded (2 ^ 58) c.args.t (get_or c.args.x.now c.loop-k.k (pos 0))) (omega arith))
