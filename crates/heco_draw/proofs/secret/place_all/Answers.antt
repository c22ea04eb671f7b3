use Rattle.std.proofs.Common.{refl, length}
use Rattle.heco_draw.proofs.Placed.{placing_starts, placing_goes_on}
use Rattle.heco_draw.proofs.secret.place_all.Goals as goal

pub loop-i-init : goal.loop-i-init
loop-i-init c = placing_starts (length c.args.secret.now) c.args.rng.now c.args.secret.now refl

pub loop-i-preserved : goal.loop-i-preserved
loop-i-preserved c =
    placing_goes_on (length c.args.secret.now) c.args.rng.now c.args.secret.now c.loop-i.i c.loop-i.secret c.loop-i.rng c.place.new.secret c.place.new.rng c.loop-i.invariant c.place.ensures.placed c.place.ensures.rng
