use Rattle.std.proofs.Common.{◌∙◌, arith}
use Rattle.heco_slots.proofs.Weights.{two_below, two_long}
use Rattle.heco_bfv.proofs.Weighers.{weigher_filled}
use Rattle.heco_bfv.proofs.plain_vector.weigher_into.Goals as goal

pub set_all-requires-clause-below : goal.set_all-requires-clause-below
set_all-requires-clause-below c = rw c.encode_two.ensures (two_below c.args.table.now.preset c.args.v.now c.args.v.now)

pub returns : goal.returns
returns c =
    let p = c.args.table.now.preset in
    let each = rw c.encode_two.ensures at c.set_all.ensures.each in
    weigher_filled p c.args.v.now c.set_all.new.out (c.set_all.ensures.long ∙ c.requires.out) (λ k h. each k (omega (arith, two_long p c.args.v.now c.args.v.now)))
