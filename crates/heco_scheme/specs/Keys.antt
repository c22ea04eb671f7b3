-- Keys as formulas. After Fan and Vercauteren, ePrint 2012/144, sections 3 and 4; the form of the switch keys, with
-- 29 digits in base 4, is our own.
use Rattle.std.specs.Prelude.{◌≡◌, ℕ, ◌*◌, ◌%◌, ◌^◌, ◌<◌, List, [], length, ℤ, pos}
use lib.ListN.{get_or}
use Rattle.heco_ring.specs.Ring.{wholes, plus, negate, scale, times, turn}
use Rattle.heco_ring.specs.Remainders.{reduced}
use Rattle.heco_nums.specs.MaterialBounds.{AreErrors}

-- -(a s + e): the first part of the public key to the secret s, from its second part a and the error e
unfoldable pub key_part : ℕ → List ℤ → List ℕ → List ℤ → List ℕ
key_part n s a e = reduced (2 ^ 58) n (negate n (plus n (times n (wholes a) s) e))

-- -(a s + e) + 4^i s': the first part of row i of a switch key from s' to s, from its second part a and the error e
unfoldable pub switch_part : ℕ → List ℤ → List ℤ → ℕ → List ℕ → List ℤ → List ℕ
switch_part n s s' i a e = reduced (2 ^ 58) n (plus n (negate n (plus n (times n (wholes a) s) e)) (scale n (pos (4 ^ i)) s'))

-- what relinearisation switches from
unfoldable pub square : ℕ → List ℤ → List ℤ
square n s = times n s s

-- what a turn by r slots switches from
unfoldable pub turned_secret : ℕ → List ℤ → ℕ → List ℤ
turned_secret n s r = turn n s (3 ^ r % (2 * n))

-- the public key of the secret s, with some error
pub record IsPublicKey (n b : ℕ) (s : List ℤ) (p0 p1 : List ℕ) : Type 0 where
  pub error : List ℤ
  pub small : AreErrors n b error
  pub first : p0 ≡ key_part n s p1 error

abbrev pub row : List (List ℕ × List ℕ) → ℕ → List ℕ × List ℕ
row k i = get_or k i ([], [])

-- 29 pairs of polynomials of n places
pub record AreRows (n : ℕ) (k : List (List ℕ × List ℕ)) : Type 0 where
  pub count : length k ≡ 29
  pub firsts : (i : ℕ) → i < 29 → length (row k i).0 ≡ n
  pub seconds : (i : ℕ) → i < 29 → length (row k i).1 ≡ n

-- a switch key from s' to the secret s, with some errors
pub record IsSwitchKey (n b : ℕ) (s s' : List ℤ) (k : List (List ℕ × List ℕ)) : Type 0 where
  pub errors : ℕ → List ℤ
  pub small : (i : ℕ) → i < 29 → AreErrors n b (errors i)
  pub first : (i : ℕ) → i < 29 → (row k i).0 ≡ switch_part n s s' i (row k i).1 (errors i)
