use Rattle.std.proofs.Common.{length, ◌∙◌}
use Rattle.heco_bfv.proofs.Seen.{third_negated}
use Rattle.heco_bfv.proofs.linear.negative_third.Goals as goal

pub returns : goal.returns
returns c =
    let e = rw (c.take_third.ensures, c.requires.a) at c.neg_in.ensures.value in
    e ∙ third_negated (length c.args.out.now) c.args.a.now
