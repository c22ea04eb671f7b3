-- The slots of a plaintext, and the plaintext with given slots.
-- After Smart and Vercauteren, ePrint 2011/133; the order of the slots is our own.
use Rattle.std.specs.Prelude.{ℕ, ◌*◌, ◌^◌, List}
use lib.IntN.{pos, ◌*ℤ◌}
use lib.ListN.{get_or}
use Rattle.heco_nums.specs.declared.preset.Preset.{Preset}
use Rattle.heco_ring.specs.Remainders.{rem}
use Rattle.heco_ring.specs.Ring.{sum_z, wholes}
use Rattle.heco_ring.specs.Slots.{slot, decode, encode}

-- m at zeta^(3^j), modulo t
unfoldable pub slot_of : Preset → List ℕ → ℕ → ℕ
slot_of p m j = slot p.n p.t p.zeta (wholes m) j

-- the N slots of m
unfoldable pub decoded : Preset → List ℕ → List ℕ
decoded p m = decode p.n p.t p.zeta p.slots (wholes m)

-- the plaintext with the N slots v; its values at zeta^(-3^j) are 0
unfoldable pub encoded : Preset → List ℕ → List ℕ
encoded p v = encode p.n p.t p.zeta p.ninv p.slots v

-- the sum of v_j zeta^(b 3^j), modulo t
unfoldable pub spread_at : Preset → List ℕ → ℕ → ℕ
spread_at p v b = rem p.t (sum_z p.slots (λ j. pos (get_or v j 0) *ℤ pos (p.zeta ^ (b * 3 ^ j))))
