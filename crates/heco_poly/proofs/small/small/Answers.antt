use Rattle.std.proofs.Common.{rules, ◌<◌, ◌^◌, length, get_or, arith, ◌≢◌, below_more, get_or-set_other, get_or-set_same, SFits, to_z-of_z}
use mir.Syntax.{w8}
use lib.IntN.{pos}
use Rattle.heco_ring.proofs.Reduced.{filled}
use Rattle.heco_ring.specs.Ring.{at}
use Rattle.heco_poly.proofs.small.small.Goals as goal

pub loop-i-preserved : goal.loop-i-preserved
unfolding at
loop-i-preserved c =
    let inside : c.loop-i.i < length c.loop-i.out = omega arith in
    let f : SFits w8 (get_or c.args.words.now c.loop-i.i (pos 0)) = search rules in
    let v = simp to_z-of_z at c.of_word.ensures in
    below_more _ _ (λ k l. let ne : k ≢ c.loop-i.i = omega arith in rw get_or-set_other (c.loop-i.invariant k l)) (rw get_or-set_same v)

pub returns : goal.returns
returns c = filled (2 ^ 58) (length c.args.out.now) c.args.words.now c.loop-i.out c.loop-i.auto.out (λ k h. c.loop-i.invariant k (omega arith))
