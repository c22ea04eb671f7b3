use Rattle.std.proofs.Common.{◌<◌, ◌^◌, ℕ, length, get_or, arith, ap, ◌∙◌}
use Rattle.std.proofs.lemmas.List.{length-set}
use Rattle.heco_nums.specs.Arithmetic.{centre_t}
use Rattle.heco_ring.specs.Remainders.{rem}
use Rattle.heco_slots.proofs.TwoRows.{one_more}
use Rattle.heco_bfv.proofs.plain_vector.set_all.Goals as goal

pub loop-k-preserved : goal.loop-k-preserved
loop-k-preserved c =
    let k : ℕ = c.loop-k.k in
    let within : k < length c.loop-k.out = omega (arith, c.loop-k-test.true, c.len-k-end.ensures, c.requires.long, c.loop-k.invariant.long) in
    record {
      long = ap length c.set.ensures ∙ length-set c.loop-k.out c.loop-k.k c.word.result ∙ c.loop-k.invariant.long;
      each = rw c.set.ensures (one_more c.loop-k.out c.loop-k.k c.word.result (λ i. rem (2 ^ 58) (centre_t c.args.p.now.t (get_or c.args.m.now i 0))) within c.loop-k.invariant.each c.word.ensures.value);
    }
