use Rattle.std.proofs.Common.{length, ◌∙◌, SFits, to_z-of_z}
use mir.Syntax.{w64}
use Rattle.heco_bfv.proofs.Seen.{third_scaled}
use Rattle.heco_bfv.proofs.linear.multiple_third.Goals as goal

pub returns : goal.returns
returns c =
    let fx : SFits w64 c.args.c = c.ranges.c in
    let v = simp to_z-of_z at c.scale_in.ensures.value in
    let e = rw (c.take_third.ensures, c.requires.a) at v in
    e ∙ third_scaled (length c.args.out.now) c.args.c c.args.a.now
