-- The figures of worked sources, computed from the definitions.
use Rattle.std.proofs.Common.{◌≡◌, ℕ, suc, ◌+◌, ◌*◌, List, [], ◌∷◌, ◌++◌, map, refl, ap, Bool, true, false}
use Rattle.std.specs.List.{range_with_len, flat_map}
use Rattle.std.specs.Option.{option_map_or}
use Rattle.heco_nums.specs.Presets.{modulus_of, slots_of}
use Rattle.heco_nums.specs.Arithmetic.{centre_t}
use Rattle.heco_written.specs.ScalarTerm.{ScalarTerm, Number, Element, sum_of, product_of, negation_of}
use Rattle.heco_written.specs.VectorTerm.{VectorTerm, Input, Multiplied}
use Rattle.heco_written.specs.Fold.{power, fold_within, fold}
use Rattle.heco_written.specs.WrittenForm.{WrittenHome, Known, At, written}
use Rattle.heco_written.specs.Cost.{cost, late_cost}
use Rattle.heco_written.specs.Needs.{needs_relinearisation, turn_amounts}
use Rattle.heco_written.proofs.FoldTerms.{fold-power}
use Rattle.heco_written.specs.Bound.{scheme_of, bound, greatest_bound, first_deep}

-- what is known of the written forms of output elements
record Figures : Type 0 where
  cost_is : ℕ
  late_cost_is : ℕ
  relinearises : Bool
  turns : List ℕ
  greatest : ℕ

-- for the preset of this number
module _ (id : ℕ) where
  abbrev vectors : List ScalarTerm → List VectorTerm
  vectors [] = []
  vectors (x ∷ xs) = vector_of (written (modulus_of id) (slots_of id) x).home ++ vectors xs
    where
      vector_of : WrittenHome → List VectorTerm
      vector_of (Known c) = []
      vector_of (At p) = p.vector ∷ []

  abbrev figures_of : List VectorTerm → Figures
  figures_of vs = record { cost_is = cost vs; late_cost_is = late_cost vs; relinearises = needs_relinearisation vs; turns = turn_amounts (slots_of id) vs; greatest = greatest_bound (scheme_of id) vs }

  abbrev figures : List ScalarTerm → Figures
  figures xs = figures_of (vectors xs)

  abbrev plus : ScalarTerm → ScalarTerm → ScalarTerm
  plus = sum_of (modulus_of id)

  abbrev times : ScalarTerm → ScalarTerm → ScalarTerm
  times = product_of (modulus_of id)

  abbrev minus : ScalarTerm → ScalarTerm → ScalarTerm
  minus x y = plus x (negation_of (modulus_of id) y)

  abbrev total_from : ScalarTerm → List ScalarTerm → ScalarTerm
  total_from s [] = s
  total_from s (x ∷ xs) = total_from (plus s x) xs

  -- by a loop that adds to 0
  abbrev total : List ScalarTerm → ScalarTerm
  total xs = total_from (Number 0) xs

  abbrev square : ScalarTerm → ScalarTerm
  square x = times x x

abbrev a : ℕ → ScalarTerm
a i = Element 0 i

abbrev b : ℕ → ScalarTerm
b i = Element 1 i

abbrev below : ℕ → List ℕ
below n = range_with_len 0 n

-- the dot product of eight
dot_product_of_eight : figures 1 (total 1 (map (λ i. times 1 (a i) (b i)) (below 8)) ∷ [])
    ≡ record { cost_is = 8; late_cost_is = 11; relinearises = true; turns = 1 ∷ 2 ∷ 4 ∷ []; greatest = 794538952 }
unfolding power fold_within fold centre_t
dot_product_of_eight = refl

-- sums and differences of neighbours
sums_of_neighbours : figures 1 (map (λ i. plus 1 (a i) (a (suc i))) (below 7))
    ≡ record { cost_is = 2; late_cost_is = 2; relinearises = false; turns = 1 ∷ []; greatest = 724996 }
unfolding power fold_within fold centre_t
sums_of_neighbours = refl

differences_of_neighbours : figures 1 (map (λ i. minus 1 (a (suc i)) (a i)) (below 7))
    ≡ record { cost_is = 3; late_cost_is = 3; relinearises = false; turns = 7 ∷ []; greatest = 724996 }
unfolding power fold_within fold centre_t
differences_of_neighbours = refl

-- the sum of seven elements
sum_of_seven : figures 1 (total 1 (map a (below 7)) ∷ [])
    ≡ record { cost_is = 8; late_cost_is = 8; relinearises = false; turns = 1 ∷ 2 ∷ 4 ∷ []; greatest = 4326206 }
unfolding power fold_within fold centre_t
sum_of_seven = refl

-- an element twice, and the next
one_twice_and_the_next : figures 1 (total 1 (a 0 ∷ a 0 ∷ a 1 ∷ []) ∷ [])
    ≡ record { cost_is = 3; late_cost_is = 3; relinearises = false; turns = 1 ∷ []; greatest = 729750 }
unfolding power fold_within fold centre_t
one_twice_and_the_next = refl

-- a run that wraps
run_that_wraps : figures 1 (total 1 (a 6 ∷ a 7 ∷ a 0 ∷ []) ∷ [])
    ≡ record { cost_is = 4; late_cost_is = 4; relinearises = false; turns = 1 ∷ 2 ∷ []; greatest = 1445238 }
unfolding power fold_within fold centre_t
run_that_wraps = refl

-- two products of scalars
two_products_of_scalars : figures 1 (plus 1 (times 1 (Element 0 0) (Element 1 0)) (times 1 (Element 2 0) (Element 3 0)) ∷ [])
    ≡ record { cost_is = 5; late_cost_is = 4; relinearises = true; turns = []; greatest = 197382634 }
unfolding power fold_within fold centre_t
two_products_of_scalars = refl

-- the sum of squared differences
hamming_distance : figures 1 (total 1 (map (λ i. square 1 (minus 1 (a i) (b i))) (below 8)) ∷ [])
    ≡ record { cost_is = 10; late_cost_is = 13; relinearises = true; turns = 1 ∷ 2 ∷ 4 ∷ []; greatest = 1578302408 }
unfolding power fold_within fold centre_t
hamming_distance = refl

-- 2 a0 + 3 a1 + a2
weighted_sum : figures 1 (total 1 (times 1 (Number 2) (a 0) ∷ times 1 (Number 3) (a 1) ∷ times 1 (Number 1) (a 2) ∷ []) ∷ [])
    ≡ record { cost_is = 6; late_cost_is = 6; relinearises = false; turns = 1 ∷ 2 ∷ []; greatest = 1459500 }
unfolding power fold_within fold centre_t
weighted_sum = refl

-- 2 a0, and 3 a1: two gates, where a compiled circuit has one product by a plain vector
two_multiples : figures 1 (times 1 (Number 2) (a 0) ∷ times 1 (Number 3) (a 1) ∷ [])
    ≡ record { cost_is = 2; late_cost_is = 2; relinearises = false; turns = []; greatest = 14262 }
unfolding power fold_within fold centre_t
two_multiples = refl

-- a chain of squarings
three_squarings : figures 1 (square 1 (square 1 (square 1 (a 0))) ∷ [])
    ≡ record { cost_is = 6; late_cost_is = 6; relinearises = true; turns = []; greatest = 41913197113166453 }
unfolding power fold_within fold centre_t
three_squarings = refl

-- the full sum of eight, twice
full_sum_twice : figures 1 (total 1 (map a (below 8) ++ map a (below 8)) ∷ [])
    ≡ record { cost_is = 7; late_cost_is = 7; relinearises = false; turns = 1 ∷ 2 ∷ 4 ∷ []; greatest = 10092896 }
unfolding power fold_within fold centre_t
full_sum_twice = refl

-- the blur of an 8 by 8 image: each inner pixel with its eight neighbours
box_blur : figures 3 (map (λ at. total 3 (map (λ k. a (at + k)) (0 ∷ 1 ∷ 2 ∷ 8 ∷ 9 ∷ 10 ∷ 16 ∷ 17 ∷ 18 ∷ []))) (flat_map (λ x. map (λ y. 8 * x + y) (below 6)) (below 6)))
    ≡ record { cost_is = 8; late_cost_is = 8; relinearises = false; turns = 1 ∷ 2 ∷ 8 ∷ 16 ∷ []; greatest = 91740900 }
unfolding power fold_within fold centre_t
box_blur = refl

abbrev doubled : ℕ → VectorTerm
doubled k = power (Multiplied (Input 0) (Input 1)) k

-- the dot product of 64, whose written form is its products, doubled 6 times; figure by figure, since one step would be too long
written_of_64 : vectors 3 (total 3 (map (λ i. times 3 (a i) (b i)) (below 64)) ∷ []) ≡ doubled 6 ∷ []
written_of_64 = ap (λ v. v ∷ []) (fold-power (Multiplied (Input 0) (Input 1)) 6)

cost_of_64 : cost (doubled 6 ∷ []) ≡ 14
unfolding power fold_within fold centre_t
cost_of_64 = refl

late_cost_of_64 : late_cost (doubled 6 ∷ []) ≡ 20
unfolding power fold_within fold centre_t
late_cost_of_64 = refl

relinearisation_of_64 : needs_relinearisation (doubled 6 ∷ []) ≡ true
unfolding power fold_within fold centre_t
relinearisation_of_64 = refl

turns_of_64 : turn_amounts 64 (doubled 6 ∷ []) ≡ 1 ∷ 2 ∷ 4 ∷ 8 ∷ 16 ∷ 32 ∷ []
unfolding power fold_within fold centre_t
turns_of_64 = refl

greatest_bound_of_64 : greatest_bound (scheme_of 3) (doubled 6 ∷ []) ≡ 335449990208
unfolding power fold_within fold centre_t
greatest_bound_of_64 = refl

-- the dot product of 512, whose written form is its products, doubled 9 times; figure by figure, since one step would be too long
written_of_512 : vectors 5 (total 5 (map (λ i. times 5 (a i) (b i)) (below 512)) ∷ []) ≡ doubled 9 ∷ []
written_of_512 = ap (λ v. v ∷ []) (fold-power (Multiplied (Input 0) (Input 1)) 9)

cost_of_512 : cost (doubled 9 ∷ []) ≡ 20
unfolding power fold_within fold centre_t
cost_of_512 = refl

late_cost_of_512 : late_cost (doubled 9 ∷ []) ≡ 29
unfolding power fold_within fold centre_t
late_cost_of_512 = refl

relinearisation_of_512 : needs_relinearisation (doubled 9 ∷ []) ≡ true
unfolding power fold_within fold centre_t
relinearisation_of_512 = refl

turns_of_512 : turn_amounts 512 (doubled 9 ∷ []) ≡ 1 ∷ 2 ∷ 4 ∷ 8 ∷ 16 ∷ 32 ∷ 64 ∷ 128 ∷ 256 ∷ []
unfolding power fold_within fold centre_t
turns_of_512 = refl

greatest_bound_of_512 : greatest_bound (scheme_of 5) (doubled 9 ∷ []) ≡ 106970622267936256
unfolding power fold_within fold centre_t
greatest_bound_of_512 = refl

-- a fourth squaring is too deep, and nothing below it
four_squarings : map (λ v. option_map_or (bound (scheme_of 1)) (first_deep (scheme_of 1) v) 0) (vectors 1 (square 1 (square 1 (square 1 (square 1 (a 0)))) ∷ [])) ≡ 863747166108134984309 ∷ []
unfolding power fold_within fold centre_t
four_squarings = refl

-- what a linear operation makes of a product is long too
twice_a_product : figures 1 (times 1 (Number 2) (times 1 (a 0) (b 0)) ∷ [])
    ≡ record { cost_is = 3; late_cost_is = 3; relinearises = true; turns = []; greatest = 197382634 }
unfolding power fold_within fold centre_t
twice_a_product = refl

a_product_and_one : figures 1 (plus 1 (times 1 (a 0) (b 0)) (Number 1) ∷ [])
    ≡ record { cost_is = 3; late_cost_is = 3; relinearises = true; turns = []; greatest = 98691445 }
unfolding power fold_within fold centre_t
a_product_and_one = refl

a_product_taken_away : figures 1 (minus 1 (Element 2 0) (times 1 (a 0) (b 0)) ∷ [])
    ≡ record { cost_is = 4; late_cost_is = 4; relinearises = true; turns = []; greatest = 98696071 }
unfolding power fold_within fold centre_t
a_product_taken_away = refl

-- a product as the right factor is relinearised at once
a_product_as_right_factor : figures 1 (times 1 (Element 2 0) (times 1 (a 0) (b 0)) ∷ [])
    ≡ record { cost_is = 4; late_cost_is = 4; relinearises = true; turns = []; greatest = 1016965036469 }
unfolding power fold_within fold centre_t
a_product_as_right_factor = refl

-- a number that is added
one_more : figures 1 (plus 1 (a 0) (Number 1) ∷ [])
    ≡ record { cost_is = 1; late_cost_is = 1; relinearises = false; turns = []; greatest = 4882 }
unfolding power fold_within fold centre_t
one_more = refl
