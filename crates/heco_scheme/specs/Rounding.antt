-- Centred polynomials modulo q = 2^58, and polynomials times t / q. Halves are rounded up, which is our own.
use Rattle.std.specs.Prelude.{ℕ, ◌^◌, List}
use lib.IntN.{ℤ}
use lib.ListN.{get_or}
use Rattle.heco_nums.specs.Arithmetic.{centre_q}
use Rattle.heco_ring.specs.Ring.{table}
use Rattle.heco_ring.specs.Remainders.{reduced}
use Rattle.heco_noise_laws.specs.Noise.{round_part}

-- the first n coefficients, from -q/2 to q/2 - 1
unfoldable pub centred : ℕ → List ℕ → List ℤ
centred n c = table n (λ k. centre_q (get_or c k 0))

-- each coefficient x becomes t x / q to the nearest whole number, modulo q
unfoldable pub rounded_all : ℕ → ℕ → List ℤ → List ℕ
rounded_all n t x = reduced (2 ^ 58) n (round_part n (2 ^ 58) t x)
