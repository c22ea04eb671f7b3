use Rattle.heco_transform.proofs.Parts.{part_is}
use Rattle.heco_transform.proofs.bit_field.bit_field.Goals as goal

pub returns : goal.returns
returns c = part_is _ c.args.bits c.requires.bits
