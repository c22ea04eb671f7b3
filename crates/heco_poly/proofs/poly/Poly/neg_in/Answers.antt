use Rattle.std.proofs.Common.{◌^◌, length, ap, ◌∙◌}
use Rattle.heco_ring.specs.Remainders.{reduced}
use Rattle.heco_ring.specs.Ring.{wholes}
use Rattle.heco_poly.proofs.Written.{minus_one_scale}
use Rattle.heco_poly.proofs.poly.Poly.neg_in.Goals as goal

pub returns-clause-value : goal.returns-clause-value
returns-clause-value c = c.scale_in.ensures.value ∙ ap (reduced (2 ^ 58) (length c.args.self.now)) (minus_one_scale (length c.args.self.now) (wholes c.args.self.now))
