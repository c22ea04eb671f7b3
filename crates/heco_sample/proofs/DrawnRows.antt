-- The drawn values are two rows of 512 numbers below t.
use Rattle.std.proofs.Common.{◌≡◌, ℕ, zero, suc, ◌%◌, Bool, true, List, [], ◌∷◌, map, take, drop, length, refl, arith, nat_lt}
use Rattle.std.specs.List.{list_all, range_with_len}
use Rattle.std.proofs.lemmas.Bool.{and_parts, lt-ltb}
use Rattle.std.proofs.lemmas.List.{length-take-le, length-drop}
use Rattle.rand_chacha.specs.ChaCha.{ChaCha}
use Rattle.heco_nums.proofs.ListedLaws.{length-listed}
use Rattle.heco_draw.specs.Words.{start, word, values}
use Rattle.heco_nums.specs.Listed.{listed}
use Rattle.heco_sample.specs.Drawn.{drawn_values}
use Rattle.heco_sample_source.specs.Laws.{IsSampleRow}

-- ---- what holds of all holds of the front and of the back

all_mapped : (test : ℕ → Bool) (f : ℕ → ℕ) (xs : List ℕ) → ((i : ℕ) → test (f i) ≡ true) → list_all test (map f xs) ≡ true
all_mapped test f [] h = refl
all_mapped test f (x ∷ xs) h = rw (h x) (all_mapped test f xs h)

all_front : (test : ℕ → Bool) (n : ℕ) (xs : List ℕ) → list_all test xs ≡ true → list_all test (take n xs) ≡ true
all_front test zero xs h = refl
all_front test (suc n) [] h = refl
all_front test (suc n) (x ∷ xs) h = let both = and_parts (test x) (list_all test xs) h in rw (both.0) (all_front test n xs both.1)

all_back : (test : ℕ → Bool) (n : ℕ) (xs : List ℕ) → list_all test xs ≡ true → list_all test (drop n xs) ≡ true
all_back test zero xs h = h
all_back test (suc n) [] h = h
all_back test (suc n) (x ∷ xs) h = all_back test n xs ((and_parts (test x) (list_all test xs) h).1)

-- ---- the drawn values

abbrev is_below : ℕ → Bool
is_below v = nat_lt v 65537

below : (seed : ℕ) → list_all is_below (drawn_values seed) ≡ true
unfolding values listed
below seed = all_mapped is_below (λ i. word (start seed 3) i % 65537) (range_with_len 0 1024) (λ i. lt-ltb (word (start seed 3) i % 65537) 65537 (omega arith))

pub length-values : (g : ChaCha) (t count : ℕ) → length (values g t count) ≡ count
unfolding values
length-values g t count = length-listed (λ i. word g i % t) count

pub first_row : (seed : ℕ) → IsSampleRow (take 512 (drawn_values seed))
first_row seed = record { long = length-take-le 512 (drawn_values seed) (let n = length-values (start seed 3) 65537 1024 in omega arith); below = all_front is_below 512 (drawn_values seed) (below seed) }

pub second_row : (seed : ℕ) → IsSampleRow (drop 512 (drawn_values seed))
second_row seed = record { long = omega (arith, length-drop 512 (drawn_values seed), length-values (start seed 3) 65537 1024); below = all_back is_below 512 (drawn_values seed) (below seed) }
