-- How many parts a ciphertext has, and how long they are: two facts of lists and numbers that a ghost field can keep.
use Rattle.std.specs.Prelude.{ℕ, ◌<◌, ◌≡◌, List, [], length}
use lib.ListN.{get_or}

-- c has m parts of n places
pub record HasParts (m n : ℕ) (c : List (List ℕ)) : Type 0 where
  pub count : length c ≡ m
  pub places : (i : ℕ) → i < m → length (get_or c i []) ≡ n
