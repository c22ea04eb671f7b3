use Rattle.std.proofs.Common.{length, arith}
use lib.ListN.{drop}
use Rattle.heco_transform.proofs.Written.{front}
use Rattle.heco_transform.proofs.transform.Transform.image_of_bits.Goals as goal

pub invariant_of-out : goal.invariant_of-out
invariant_of-out c =
    let w = front c.args.out.now.words.len c.forward.new.a (drop (length c.forward.new.a) c.args.out.now.words.items) (omega arith) in
    record { below = rw w c.forward.ensures.below }

pub returns-clause-image : goal.returns-clause-image
returns-clause-image c =
    let w = front c.args.out.now.words.len c.forward.new.a (drop (length c.forward.new.a) c.args.out.now.words.items) (omega arith) in
    rw (w, ← (c.bit_fields_into.ensures.value)) c.forward.ensures.image
