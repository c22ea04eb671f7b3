use Rattle.std.proofs.Common.{arith, ◌∙◌}
use Rattle.heco_bfv.proofs.EncryptSteps.{add_scaled_is}
use Rattle.heco_bfv.proofs.encryption.add_scaled.Goals as goal

pub returns-clause-value : goal.returns-clause-value
returns-clause-value c =
    let e = rw c.requires.out at c.add_in.ensures.value in
    e ∙ add_scaled_is c.args.p.now c.args.message.now c.loop-k.words c.args.out.now (λ k h. c.loop-k.invariant.done k (omega arith))
