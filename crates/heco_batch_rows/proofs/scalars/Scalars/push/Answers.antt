use Rattle.std.proofs.Common.{arith, rules}
use Rattle.heco_batch.specs.Plain.{IsPlain}
use Rattle.heco_batch.proofs.PlainPushed.{plain_push}
use Rattle.heco_batch_rows.proofs.scalars.Scalars.push.Goals as goal

pub returns : goal.returns
returns c =
    let p : IsPlain c.args.self.now.p.slots c.args.self.now.count c.args.n = search (rules, c.if-not-is_plain.ensures, c.is_plain.ensures) in
    rw c.in_ok-id.ensures.grown (plain_push c.requires c.args.n p (omega (arith, c.if-self-ge524288.false)))
