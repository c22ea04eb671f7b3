use Rattle.std.proofs.Common.{◌^◌, length, get_or, arith, sym, ap, ◌∙◌}
use Rattle.heco_ring.specs.Remainders.{rem}
use Rattle.heco_ring.specs.Ring.{wholes}
use Rattle.heco_ring.proofs.Reduced.{filled}
use Rattle.heco_ring.proofs.Remainders.{rem_nat}
use Rattle.heco_ring.proofs.Wrapping.{at-wholes}
use Rattle.heco_bfv.proofs.words.Words.give.Goals as goal

pub returns-clause-value : goal.returns-clause-value
returns-clause-value c =
    let w = c.args.self.now in
    let n = length c.args.self.now in
    filled (2 ^ 58) n (wholes w) c.loop-k.out c.loop-k.invariant.long (λ k h.
    c.loop-k.invariant.done k (omega arith) ∙ sym (rem_nat (2 ^ 58) (get_or w k 0)) ∙ ap (rem (2 ^ 58)) (sym (at-wholes w k)))
