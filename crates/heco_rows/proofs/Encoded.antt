-- What is encoded in two rows is below t.
use Prim.Native.Nat.{ℕ, ◌-◌, ◌*◌, ◌^◌, ◌<◌}
use native.Mathlib.Omega.{arith}
use mathlib.Core.List.{List}
use lib.IntN.{ℤ, pos, ◌+ℤ◌, ◌*ℤ◌}
use lib.ListN.{get_or}
use Rattle.std.specs.Prelude.{All}
use Rattle.std.proofs.lemmas.List.FromFn.{get_or-map-range_with_len, length-map-range_with_len}
use Rattle.heco_nums.specs.declared.preset.Preset.{Preset}
use Rattle.heco_nums.proofs.PresetFacts.{facts}
use Rattle.heco_ring.specs.Ring.{sum_z}
use Rattle.heco_ring.proofs.Remainders.{rem-lt}
use Rattle.heco_slots.specs.Rows.{encoded_two, encoded_two_at}

pub encoded_two_below : (p : Preset) (v w : List ℕ) → All (λ x. x < p.t) (encoded_two p v w)
unfolding encoded_two encoded_two_at
encoded_two_below p v w = λ k d h.
    let l : k < p.n = omega (arith, h, length-map-range_with_len (encoded_two_at p v w) 0 p.n) in
    rw (get_or-map-range_with_len (encoded_two_at p v w) 0 p.n k k d l (omega arith))
    (rem-lt p.t (pos p.ninv *ℤ sum_z p.slots (λ j. pos (get_or v j 0) *ℤ pos (p.zeta ^ ((2 * p.n - 1) * (k * 3 ^ j))) +ℤ pos (get_or w j 0) *ℤ pos (p.zeta ^ (k * 3 ^ j)))) (facts p).t_pos)
