use Rattle.std.proofs.Common.{◌^◌, ℕ, length, arith, ap, sym, ◌∙◌}
use lib.IntN.{ℤ}
use Rattle.heco_ring.specs.Remainders.{rem}
use Rattle.heco_ring.specs.Ring.{at, wholes}
use Rattle.heco_ring.proofs.Pairing.{at-table}
use Rattle.heco_ring.proofs.Reduced.{filled}
use Rattle.heco_ring.proofs.Wrapping.{at-wholes}
use Rattle.heco_noise_laws.specs.Noise.{rounded, round_part}
use Rattle.heco_bfv.proofs.decryption.round_all.Goals as goal

pub returns : goal.returns
unfolding round_part
returns c =
    let n : ℕ = length c.args.z.now in
    let t : ℕ = c.args.t in
    let z = c.args.z.now in
    filled t n (round_part n (2 ^ 58) t (wholes z)) c.loop-k.out (c.loop-k.auto.out ∙ c.requires.long) (λ k h.
    c.loop-k.invariant k (omega arith) ∙ ap (λ (x : ℤ). rem t (rounded (2 ^ 58) t x)) (sym (at-wholes z k)) ∙ ap (rem t) (sym (at-table n (λ k. rounded (2 ^ 58) t (at (wholes z) k)) k h)))
