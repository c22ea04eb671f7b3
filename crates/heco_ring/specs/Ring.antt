-- The ring of polynomials with n whole coefficients, where x^n is -1.
-- After Fan and Vercauteren, ePrint 2012/144, section 2, with the negacyclic product written out.
use Prim.Native.Nat.{ℕ, zero, suc, ◌+◌, ◌*◌, ◌%◌}
use mathlib.Core.List.{List, map}
use mathlib.Core.Bool.{cond}
use lib.IntN.{ℤ, pos, negsuc, ◌+ℤ◌, ◌*ℤ◌, neg_ℤ}
use lib.ListN.{get_or}
use lib.Dec.{eqb}
use Rattle.std.specs.List.{range_with_len}

-- the finite sum f 0 + .. + f (n - 1)
unfoldable pub sum_z : ℕ → (ℕ → ℤ) → ℤ
sum_z zero f = pos 0
sum_z (suc n) f = sum_z n f +ℤ f n

-- coefficient i, and 0 past the end
unfoldable pub at : List ℤ → ℕ → ℤ
at a i = get_or a i (pos 0)

-- the list of f 0, .., f (n - 1)
unfoldable pub table : ℕ → (ℕ → ℤ) → List ℤ
table n f = map f (range_with_len 0 n)

-- the numbers of a list as whole numbers
unfoldable pub wholes : List ℕ → List ℤ
wholes a = map pos a

-- what x^m, for m below 2n, has at place k: 1 where m is k, -1 where m is k + n
unfoldable pub sign : ℕ → ℕ → ℕ → ℤ
sign n m k = cond (eqb m k) (pos 1) (cond (eqb m (k + n)) (negsuc 0) (pos 0))

-- coefficient k of a product: the sum of a_i b_j where i + j is k, less that where i + j is k + n
unfoldable pub times_at : ℕ → List ℤ → List ℤ → ℕ → ℤ
times_at n a b k = sum_z n (λ i. sum_z n (λ j. at a i *ℤ at b j *ℤ sign n (i + j) k))

unfoldable pub times : ℕ → List ℤ → List ℤ → List ℤ
times n a b = table n (times_at n a b)

unfoldable pub plus : ℕ → List ℤ → List ℤ → List ℤ
plus n a b = table n (λ k. at a k +ℤ at b k)

unfoldable pub negate : ℕ → List ℤ → List ℤ
negate n a = table n (λ k. neg_ℤ (at a k))

unfoldable pub scale : ℕ → ℤ → List ℤ → List ℤ
scale n c a = table n (λ k. c *ℤ at a k)

-- the polynomial c
unfoldable pub constant : ℕ → ℤ → List ℤ
constant n c = table n (λ k. cond (eqb k 0) c (pos 0))

-- coefficient k of a(x^g): place i goes to i g modulo 2n, and with its sign changed to n places less where that is n or more
unfoldable pub turn_at : ℕ → List ℤ → ℕ → ℕ → ℤ
turn_at n a g k = sum_z n (λ i. at a i *ℤ sign n (i * g % (2 * n)) k)

unfoldable pub turn : ℕ → List ℤ → ℕ → List ℤ
turn n a g = table n (turn_at n a g)

-- the sum of the polynomials f 0, .., f (l - 1)
unfoldable pub sum_lists : ℕ → ℕ → (ℕ → List ℤ) → List ℤ
sum_lists n zero f = table n (λ k. pos 0)
sum_lists n (suc l) f = plus n (sum_lists n l f) (f l)
