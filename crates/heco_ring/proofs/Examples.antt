-- The definitions at small lists, computed.
use mathlib.Core.List.{[], ◌∷◌}
use mathlib.Core.Path.{◌≡◌, refl}
use lib.IntN.{pos, negsuc}
use Rattle.heco_ring.specs.Remainders.{rem, quo}
use Rattle.heco_ring.specs.Ring.{sum_z, at, table, wholes, sign, times_at, times, turn_at, turn}
use Rattle.heco_ring.specs.Slots.{value, slot, encode_at, encode, decode}

-- (1 + 2x + 3x^2)(x + 4x^2) is -11 - 11x + 6x^2 where x^3 is -1
product : times 3 (pos 1 ∷ pos 2 ∷ pos 3 ∷ []) (pos 0 ∷ pos 1 ∷ pos 4 ∷ []) ≡ negsuc 10 ∷ negsuc 10 ∷ pos 6 ∷ []
unfolding times times_at table sum_z at sign
product = refl

-- x goes to x^3, x^2 to x^6 = -x^2, and x^3 to x^9 = x
turned : turn 4 (pos 5 ∷ pos 6 ∷ pos 7 ∷ pos 8 ∷ []) 3 ≡ pos 5 ∷ pos 8 ∷ negsuc 6 ∷ pos 6 ∷ []
unfolding turn turn_at table sum_z at sign
turned = refl

-- -7 is 4 times -2, and 1
remainder : rem 4 (negsuc 6) ≡ 1
unfolding rem
remainder = refl

quotient : quo 4 (negsuc 6) ≡ negsuc 1
unfolding quo
quotient = refl

-- two slots of four coefficients modulo 17, where 2^4 is -1: the polynomial with the slots 3 and 5, and back
encoded : encode 4 17 2 13 2 (3 ∷ 5 ∷ []) ≡ 2 ∷ 0 ∷ 2 ∷ 14 ∷ []
unfolding encode encode_at rem sum_z
encoded = refl

decoded : decode 4 17 2 2 (wholes (2 ∷ 0 ∷ 2 ∷ 14 ∷ [])) ≡ 3 ∷ 5 ∷ []
unfolding decode slot value rem sum_z at wholes
decoded = refl
