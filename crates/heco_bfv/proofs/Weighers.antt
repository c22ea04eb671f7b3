-- The polynomial of a plain vector, filled in place by place.
use Prim.Native.Nat.{ℕ, ◌<◌}
use mathlib.Core.Path.{◌≡◌, ap, sym, ◌∙◌}
use mathlib.Core.List.{List}
use lib.ListN.{length, get_or}
use Rattle.heco_nums.specs.Arithmetic.{centre_t}
use Rattle.heco_nums.specs.declared.preset.Preset.{Preset}
use Rattle.heco_ring.specs.Remainders.{rem}
use Rattle.heco_ring.proofs.Pairing.{at-table}
use Rattle.heco_ring.proofs.Reduced.{filled, length-reduced}
use Rattle.heco_slots.specs.Rows.{encode_two_at, encoded_two_at, encoded_two}
use Rattle.heco_slots.specs.Weighing.{weigher_by, weigher}
use Rattle.heco_slots.proofs.Weights.{two_at}
use Rattle.heco_scheme.specs.Gates.{weigher_words}
use Rattle.heco_scheme.specs.Noise.{q}

pub weigher_filled : (p : Preset) (v out : List ℕ) → length out ≡ p.n → ((k : ℕ) → k < p.n → get_or out k 0 ≡ rem q (centre_t p.t (get_or (encoded_two p v v) k 0))) → out ≡ weigher_words p v
unfolding weigher_words weigher_by encoded_two_at
weigher_filled p v out long each = filled q p.n (weigher p v) out long (λ k h.
    each k h ∙ ap (λ (x : ℕ). rem q (centre_t p.t x)) (two_at p v v k h)
    ∙ ap (rem q) (sym (at-table p.n (λ k. centre_t p.t (encode_two_at p.n p.slots p.t p.zeta p.ninv v v k)) k h)))

pub weigher_long : (p : Preset) (v : List ℕ) → length (weigher_words p v) ≡ p.n
unfolding weigher_words
weigher_long p v = length-reduced q p.n (weigher p v)
