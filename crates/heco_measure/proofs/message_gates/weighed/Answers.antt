use Rattle.heco_slots.specs.Messages as message
use Rattle.heco_measure.proofs.Plaintexts.{encoded_plain}
use Rattle.heco_measure.proofs.message_gates.weighed.Goals as goal

pub product-requires-clause-a : goal.product-requires-clause-a
product-requires-clause-a c = rw (c.in_ok-weigher.ensures) (encoded_plain c.args.table.now.preset c.args.v.now)

pub returns : goal.returns
unfolding message.weighed
returns c = rw (c.in_ok-weigher.ensures) at c.product.ensures
