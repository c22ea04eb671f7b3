-- Plaintexts: polynomials modulo t, as lists of n numbers below t, and what is done to them.
-- After Fan and Vercauteren, ePrint 2012/144, with t for the plaintext modulus.
use Rattle.std.specs.Prelude.{ℕ, ◌*◌, ◌%◌, ◌^◌, List}
use lib.IntN.{pos}
use Rattle.heco_nums.specs.declared.preset.Preset.{Preset}
use Rattle.heco_ring.specs.Remainders.{reduced}
use Rattle.heco_ring.specs.Ring.{wholes, plus, negate, scale, times, turn, constant}
use Rattle.heco_slots.specs.Rows.{encoded_two}

unfoldable pub sum : Preset → List ℕ → List ℕ → List ℕ
sum p a b = reduced p.t p.n (plus p.n (wholes a) (wholes b))

unfoldable pub difference : Preset → List ℕ → List ℕ → List ℕ
difference p a b = reduced p.t p.n (plus p.n (wholes a) (negate p.n (wholes b)))

unfoldable pub opposite : Preset → List ℕ → List ℕ
opposite p a = reduced p.t p.n (negate p.n (wholes a))

unfoldable pub multiple : Preset → ℕ → List ℕ → List ℕ
multiple p c a = reduced p.t p.n (scale p.n (pos c) (wholes a))

-- the constant c
unfoldable pub constant_of : Preset → ℕ → List ℕ
constant_of p c = reduced p.t p.n (constant p.n (pos c))

-- c more at coefficient 0
unfoldable pub raised : Preset → ℕ → List ℕ → List ℕ
raised p c a = reduced p.t p.n (plus p.n (wholes a) (constant p.n (pos c)))

unfoldable pub product : Preset → List ℕ → List ℕ → List ℕ
product p a b = reduced p.t p.n (times p.n (wholes a) (wholes b))

-- times the plaintext with the N slots v in both rows
unfoldable pub weighed : Preset → List ℕ → List ℕ → List ℕ
weighed p v a = product p (encoded_two p v v) a

-- the turn by 3^r
unfoldable pub turned : Preset → ℕ → List ℕ → List ℕ
turned p r a = reduced p.t p.n (turn p.n (wholes a) (3 ^ r % (2 * p.n)))
