use Rattle.std.proofs.Common.{ℕ, length, ◌∙◌}
use Rattle.heco_ring.specs.Ring.{wholes}
use Rattle.heco_bfv.proofs.EncryptSteps.{masked_is}
use Rattle.heco_bfv.proofs.encryption.masked.Goals as goal

pub returns-clause-value : goal.returns-clause-value
returns-clause-value c =
    let n : ℕ = length c.args.out.now in
    let o = rw c.requires.key at c.mul_sparse_into.ensures.value in
    let x = rw c.requires.words at c.small_into.ensures.value in
    let e = rw c.mul_sparse_into.ensures.long at c.add_in.ensures.value in
    e ∙ masked_is n (wholes c.args.key.now) c.args.u.now c.args.error.now c.mul_sparse_into.new.out c.small_into.new.out o x
