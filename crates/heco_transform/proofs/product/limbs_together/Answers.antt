use Rattle.heco_transform.proofs.LimbLaws.{whole_is}
use Rattle.heco_transform.proofs.product.limbs_together.Goals as goal

pub returns : goal.returns
returns c = whole_is c.args.x c.args.y c.args.z
