-- The polynomial that a plain vector weighs by, and how heavy it is.
use Rattle.std.specs.Prelude.{ℕ, List}
use lib.IntN.{ℤ}
use Rattle.heco_nums.specs.Arithmetic.{centre_t}
use Rattle.heco_nums.specs.declared.preset.Preset.{Preset}
use Rattle.heco_ring.specs.Ring.{table}
use Rattle.heco_ring.specs.Sizes.{weight}
use Rattle.heco_slots.specs.Rows.{encode_two_at}

-- the plaintext with the N slots v in both rows, its coefficients between -t/2 and t/2; z has order 2n
unfoldable pub weigher_by : ℕ → ℕ → ℕ → ℕ → ℕ → List ℕ → List ℤ
weigher_by n N t z ninv v = table n (λ k. centre_t t (encode_two_at n N t z ninv v v k))

-- the sum of the sizes of its coefficients
unfoldable pub vector_weight_by : ℕ → ℕ → ℕ → ℕ → ℕ → List ℕ → ℕ
vector_weight_by n N t z ninv v = weight n (weigher_by n N t z ninv v)

abbrev pub weigher : Preset → List ℕ → List ℤ
weigher p v = weigher_by p.n p.slots p.t p.zeta p.ninv v

abbrev pub vector_weight : Preset → List ℕ → ℕ
vector_weight p v = vector_weight_by p.n p.slots p.t p.zeta p.ninv v
