use Rattle.std.proofs.Common.{length, ◌∙◌}
use Rattle.heco_bfv.proofs.Seen.{third_difference}
use Rattle.heco_bfv.proofs.linear.difference_third.Goals as goal

pub returns : goal.returns
returns c =
    let e = rw (c.take_third.ensures, c.requires.a) at c.sub_third.ensures in
    e ∙ third_difference (length c.args.out.now) c.args.a.now c.args.b.now
