-- The written form: where a scalar term is among the slots of vector terms. This project's own rule, after HECO's batching.
use Rattle.std.specs.Prelude.{◌≡◌, ℕ, zero, suc, ◌+◌, ◌-◌, ◌*◌, ◌%◌, ◌<◌, List, [], ◌∷◌, ◌++◌, map, Bool, true, false, ◌&&◌, cond}
use Rattle.std.specs.Prelude.{nat_eq, nat_lt, Option, Some, None}
use Rattle.heco_written.specs.World.{World}
use Rattle.heco_written.specs.ScalarTerm.{ScalarTerm, Number, Element, Sum, Product, Negation, scalar_value}
use Rattle.heco_written.specs.VectorTerm.{VectorTerm, Input, Negated, Added, Multiplied, Scaled, Shifted, turned_by, slot_value, same_vector}
use Rattle.heco_written.specs.Fold.{fold}

-- one slot of a vector
pub record Place : Type 0 where
  pub vector : VectorTerm
  pub slot : ℕ

-- where a scalar's value is: known, or at a place
pub data WrittenHome : Type 0 where
  Known : ℕ → WrittenHome
  At : Place → WrittenHome

-- consecutive slots of a vector
pub record Run : Type 0 where
  pub vector : VectorTerm
  pub slot : ℕ
  pub size : ℕ

abbrev pub run_of : Place → Run
run_of p = record { vector = p.vector; slot = p.slot; size = 1 }

abbrev pub longer : Run → Run
longer r = record { vector = r.vector; slot = r.slot; size = r.size + 1 }

-- the place is the slot after the run, which does not go all the way round
abbrev pub continues : ℕ → Run → Place → Bool
continues slots r p = same_vector r.vector p.vector && (nat_eq p.slot ((r.slot + r.size) % slots) && nat_lt r.size slots)

-- the runs of places in order, each as long as it can be, from an open run on
abbrev pub runs_from : ℕ → Run → List Place → List Run
runs_from slots r [] = r ∷ []
runs_from slots r (p ∷ ps) = cond (continues slots r p) (runs_from slots (longer r) ps) (r ∷ runs_from slots (run_of p) ps)

-- the place of a run's sum
abbrev pub folded : Run → Place
folded r = record { vector = fold r.vector r.size; slot = r.slot }

-- the turn that brings one slot to another
abbrev pub distance : ℕ → ℕ → ℕ → ℕ
distance slots to from = (from + (slots - to)) % slots

-- the second place's vector, turned to the first place's slot
abbrev pub aligned : ℕ → Place → Place → VectorTerm
aligned slots p q = turned_by (distance slots p.slot q.slot) q.vector

-- the sum of places, at the slot of the first
abbrev pub added_to : ℕ → Place → List Place → Place
added_to slots p [] = p
added_to slots p (q ∷ qs) = added_to slots (record { vector = Added p.vector (aligned slots p q); slot = p.slot }) qs

abbrev pub shifted_by : ℕ → Place → Place
shifted_by zero p = p
shifted_by (suc c) p = record { vector = Shifted (suc c) p.vector; slot = p.slot }

-- the places among homes, in order
abbrev pub places : List WrittenHome → List Place
places [] = []
places (Known c ∷ hs) = places hs
places (At p ∷ hs) = p ∷ places hs

-- the vectors of the places among homes, in order: the written forms
abbrev pub vectors_of : List WrittenHome → List VectorTerm
vectors_of homes = map (λ p. p.vector) (places homes)

-- the sum of what is known
abbrev pub constant : List WrittenHome → ℕ
constant [] = 0
constant (Known c ∷ hs) = c + constant hs
constant (At p ∷ hs) = constant hs

abbrev pub runs : ℕ → List Place → List Run
runs slots [] = []
runs slots (p ∷ ps) = runs_from slots (run_of p) ps

-- a constant and the sum of runs
abbrev pub sum_at : ℕ → ℕ → List Run → WrittenHome
sum_at slots c [] = Known c
sum_at slots c (r ∷ rs) = At (shifted_by c (added_to slots (folded r) (map folded rs)))

-- the same by steps: the sum of runs, a place beside what is summed, and the home with a constant
abbrev pub sum_of_runs : ℕ → List Run → Option Place
sum_of_runs slots [] = None
sum_of_runs slots (r ∷ rs) = Some (added_to slots (folded r) (map folded rs))

abbrev pub beside : ℕ → Option Place → Place → Place
beside slots None q = q
beside slots (Some p) q = record { vector = Added p.vector (aligned slots p q); slot = p.slot }

abbrev pub with_constant : ℕ → Option Place → WrittenHome
with_constant c None = Known c
with_constant c (Some p) = At (shifted_by c p)

-- the home of a sum, from those of its members
abbrev pub sum_home : ℕ → ℕ → List WrittenHome → WrittenHome
sum_home modulus slots hs = sum_at slots (constant hs % modulus) (runs slots (places hs))

abbrev pub product_home : ℕ → ℕ → WrittenHome → WrittenHome → WrittenHome
product_home modulus slots (Known c) (Known d) = Known ((c * d) % modulus)
product_home modulus slots (Known c) (At p) = At (record { vector = Scaled c p.vector; slot = p.slot })
product_home modulus slots (At p) (Known c) = At (record { vector = Scaled c p.vector; slot = p.slot })
product_home modulus slots (At p) (At q) = At (record { vector = Multiplied p.vector (aligned slots p q); slot = p.slot })

abbrev pub negation_home : ℕ → ℕ → WrittenHome → WrittenHome
negation_home modulus slots (Known c) = Known ((modulus - c % modulus) % modulus)
negation_home modulus slots (At p) = At (record { vector = Negated p.vector; slot = p.slot })

-- a term's home, and the homes of its members: a sum's are those of its left part and then its right part
pub record Written : Type 0 where
  pub home : WrittenHome
  pub members : List WrittenHome

abbrev pub alone : WrittenHome → Written
alone h = record { home = h; members = h ∷ [] }

abbrev pub summed : ℕ → ℕ → List WrittenHome → Written
summed modulus slots hs = record { home = sum_home modulus slots hs; members = hs }

-- the written form of a scalar term
abbrev pub written : ℕ → ℕ → ScalarTerm → Written
written modulus slots (Number c) = alone (Known c)
written modulus slots (Element a i) = alone (At (record { vector = Input a; slot = i }))
written modulus slots (Sum x y) = summed modulus slots ((written modulus slots x).members ++ (written modulus slots y).home ∷ [])
written modulus slots (Product x y) = alone (product_home modulus slots (written modulus slots x).home (written modulus slots y).home)
written modulus slots (Negation x) = alone (negation_home modulus slots (written modulus slots x).home)

-- what a home holds under given inputs
abbrev pub home_value : World → WrittenHome → ℕ
home_value w (Known c) = c % w.modulus
home_value w (At p) = slot_value w p.vector p.slot

-- a place's slot is one of the slots
abbrev pub IsWithinSlots : ℕ → WrittenHome → Type 0
IsWithinSlots slots (Known c) = Unit {0}
IsWithinSlots slots (At p) = p.slot < slots

-- each element is within the slots
abbrev pub ElementsWithin : ℕ → ScalarTerm → Type 0
ElementsWithin slots (Number c) = Unit {0}
ElementsWithin slots (Element a i) = i < slots
ElementsWithin slots (Sum x y) = ElementsWithin slots x × ElementsWithin slots y
ElementsWithin slots (Product x y) = ElementsWithin slots x × ElementsWithin slots y
ElementsWithin slots (Negation x) = ElementsWithin slots x

abbrev pub is_known : WrittenHome → Bool
is_known (Known c) = true
is_known (At p) = false

-- the home is a place that holds the term's value
abbrev pub AtPlace : World → ScalarTerm → WrittenHome → Type 0
AtPlace w x (Known c) = ⊥
AtPlace w x (At p) = (p.slot < w.slots) × (scalar_value w x ≡ slot_value w p.vector p.slot)
