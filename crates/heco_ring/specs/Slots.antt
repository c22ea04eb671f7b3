-- The slots of a polynomial modulo t: its values at roots of x^n + 1. z^n is -1 modulo t.
-- After Smart and Vercauteren, ePrint 2011/133; the order of the slots is our own.
use Prim.Native.Nat.{ℕ, ◌+◌, ◌-◌, ◌*◌, ◌/◌, ◌%◌, ◌^◌, ◌<◌}
use mathlib.Core.Path.{◌≡◌}
use mathlib.Core.List.{List, map}
use lib.IntN.{ℤ, pos, ◌*ℤ◌}
use lib.ListN.{get_or}
use Rattle.std.specs.List.{range_with_len}
use Rattle.heco_ring.specs.Ring.{sum_z, at}
use Rattle.heco_ring.specs.Remainders.{rem}

-- m(z^w) modulo t; z^w is a root of x^n + 1 where w is odd
unfoldable pub value : ℕ → ℕ → ℕ → ℕ → List ℤ → ℕ
value n t z w m = rem t (sum_z n (λ k. at m k *ℤ pos (z ^ (k * w))))

-- slot j: m(z^(3^j)) modulo t
unfoldable pub slot : ℕ → ℕ → ℕ → List ℤ → ℕ → ℕ
slot n t z m j = value n t z (3 ^ j) m

-- (1/n) times the sum of v_j z^(-k 3^j), modulo t: coefficient k of the polynomial with the N slots v. z^(2n - 1) is 1/z
unfoldable pub encode_at : ℕ → ℕ → ℕ → ℕ → ℕ → List ℕ → ℕ → ℕ
encode_at n t z ninv N v k = rem t (pos ninv *ℤ sum_z N (λ j. pos (get_or v j 0) *ℤ pos (z ^ ((2 * n - 1) * (k * 3 ^ j)))))

unfoldable pub encode : ℕ → ℕ → ℕ → ℕ → ℕ → List ℕ → List ℕ
encode n t z ninv N v = map (λ k. encode_at n t z ninv N v k) (range_with_len 0 n)

-- the first N slots
unfoldable pub decode : ℕ → ℕ → ℕ → ℕ → List ℤ → List ℕ
decode n t z N m = map (λ j. slot n t z m j) (range_with_len 0 N)

-- N slots of n coefficients, modulo t: z has order 2n and n the inverse ninv modulo t, and 3 has order N modulo 2n, all by few tests
pub record HasSlots (n N t z ninv : ℕ) : Type 0 where
  pub depth : ℕ
  pub n_power : n ≡ 2 ^ (depth + 2)
  pub slots_power : N ≡ 2 ^ (depth + 1)
  pub t_pos : 0 < t
  pub minus_one : z ^ n % t ≡ t - 1
  pub inverse : n * ninv % t ≡ 1
  pub round : 3 ^ N % (2 * n) ≡ 1
  pub half : 3 ^ (N / 2) % (2 * n) ≡ 1 → ⊥
