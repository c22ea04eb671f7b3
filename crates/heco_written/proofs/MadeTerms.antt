use Rattle.std.proofs.Common.{◌≡◌, ℕ, zero, suc, ◌%◌, ◌<◌, List, [], ◌∷◌, ◌++◌, refl, ap, sym, ◌∙◌, Bool, true, false, cond, ◌&&◌, ◌||◌, not}
use Rattle.std.proofs.Math.Nat.{mod-lt}
use Rattle.heco_written.specs.World.{World}
use Rattle.heco_written.specs.Proper.{IsProper}
use Rattle.heco_written.specs.ScalarTerm.{ScalarTerm, Number, Element, Sum, Product, Negation, is_number, sum_of, product_of, negation_of, IsMade, number, element, sum, product, negation, scalar_value}
use Rattle.heco_written.specs.WrittenForm.{Place, Run, WrittenHome, Known, At, Written, is_known, run_of, runs, runs_from, longer, continues, places, constant, sum_at, product_home, negation_home, written, ElementsWithin, IsWithinSlots, home_value, AtPlace}
use Rattle.heco_written.proofs.WrittenLaw.{home_value-written, written-within}

module _ (modulus slots : ℕ) (some : 0 < modulus) where
  proper_sum : (x y : ScalarTerm) → IsProper modulus slots x → IsProper modulus slots y → IsProper modulus slots (sum_of modulus x y)
  proper_sum (Number c) (Number d) hx hy = mod-lt _ some
  proper_sum (Number zero) y hx hy = hy
  proper_sum x (Number zero) hx hy = hx
  proper_sum (Number (suc c)) y hx hy = (hx, hy, refl)
  proper_sum x y hx hy = (hx, hy, refl)

  proper_product : (x y : ScalarTerm) → IsProper modulus slots x → IsProper modulus slots y → IsProper modulus slots (product_of modulus x y)
  proper_product (Number c) (Number d) hx hy = mod-lt _ some
  proper_product (Number zero) y hx hy = some
  proper_product (Number (suc zero)) y hx hy = hy
  proper_product x (Number zero) hx hy = some
  proper_product x (Number (suc zero)) hx hy = hx
  proper_product (Number (suc (suc c))) y hx hy = (hx, hy, refl, refl)
  proper_product x y hx hy = (hx, hy, refl, refl)

  proper_negation : (x : ScalarTerm) → IsProper modulus slots x → IsProper modulus slots (negation_of modulus x)
  proper_negation (Number c) hx = mod-lt _ some
  proper_negation x hx = (hx, refl)

  pub proper_made : {x : ScalarTerm} → IsMade modulus slots x → IsProper modulus slots x
  proper_made (number c h) = h
  proper_made (element a i h) = h
  proper_made (sum x y z hx hy e) = rw e (proper_sum x y (proper_made hx) (proper_made hy))
  proper_made (product x y z hx hy e) = rw e (proper_product x y (proper_made hx) (proper_made hy))
  proper_made (negation x z hx e) = rw e (proper_negation x (proper_made hx))

  pub proper-within : (x : ScalarTerm) → IsProper modulus slots x → ElementsWithin slots x
  proper-within (Number c) h = tt
  proper-within (Element a i) h = h
  proper-within (Sum x y) h = (proper-within x h.0, proper-within y h.1)
  proper-within (Product x y) h = (proper-within x h.0, proper-within y h.1)
  proper-within (Negation x) h = proper-within x h.0

  -- some home is a place
  abbrev has_place : List WrittenHome → Bool
  has_place [] = false
  has_place (h ∷ hs) = not (is_known h) || has_place hs

  has_place-append : (hs : List WrittenHome) (k : WrittenHome) → has_place (hs ++ k ∷ []) ≡ (has_place hs || not (is_known k))
  has_place-append [] (Known c) = refl
  has_place-append [] (At p) = refl
  has_place-append (Known c ∷ hs) k = has_place-append hs k
  has_place-append (At p ∷ hs) k = refl

  runs_from-at : (c : ℕ) (r : Run) (ps : List Place) → is_known (sum_at slots c (runs_from slots r ps)) ≡ false
  runs_from-at c r [] = refl
  runs_from-at c r (p ∷ ps) = by (continues slots r p) (runs_from-at c (longer r) ps)
    where
      by : (t : Bool) → is_known (sum_at slots c (runs_from slots (longer r) ps)) ≡ false
          → is_known (sum_at slots c (cond t (runs_from slots (longer r) ps) (r ∷ runs_from slots (run_of p) ps))) ≡ false
      by true e = e
      by false e = refl

  sum-at : (c : ℕ) (hs : List WrittenHome) → has_place hs ≡ true → is_known (sum_at slots c (runs slots (places hs))) ≡ false
  sum-at c [] h = cc
  sum-at c (Known d ∷ hs) h = sum-at c hs h
  sum-at c (At p ∷ hs) h = runs_from-at c (run_of p) (places hs)

  is_known-product : (g h : WrittenHome) → is_known (product_home modulus slots g h) ≡ (is_known g && is_known h)
  is_known-product (Known c) (Known d) = refl
  is_known-product (Known c) (At q) = refl
  is_known-product (At p) (Known d) = refl
  is_known-product (At p) (At q) = refl

  is_known-negation : (g : WrittenHome) → is_known (negation_home modulus slots g) ≡ is_known g
  is_known-negation (Known c) = refl
  is_known-negation (At p) = refl

  one_place : (h : WrittenHome) → has_place (h ∷ []) ≡ not (is_known h)
  one_place (Known c) = refl
  one_place (At p) = refl

  some_not : (a b : Bool) → (a && b) ≡ false → (not a || not b) ≡ true
  some_not true true h = cc
  some_not true false h = refl
  some_not false b h = refl

  record Places (x : ScalarTerm) (f : Written) : Type 0 where
    home_known : is_known f.home ≡ is_number x
    members_placed : has_place f.members ≡ not (is_number x)

  one_member : (x : ScalarTerm) (h : WrittenHome) → is_known h ≡ is_number x → Places x (record { home = h; members = h ∷ [] })
  one_member x h e = record { home_known = e; members_placed = one_place h ∙ ap not e }

  places_of : (x : ScalarTerm) → IsProper modulus slots x → Places x (written modulus slots x)
  places_of (Number c) h = one_member (Number c) _ refl
  places_of (Element a i) h = one_member (Element a i) _ refl
  places_of (Sum x y) h =
      let f : Places x (written modulus slots x) = places_of x h.0 in
      let g : Places y (written modulus slots y) = places_of y h.1 in
      let placed : has_place ((written modulus slots x).members ++ (written modulus slots y).home ∷ []) ≡ true =
      has_place-append (written modulus slots x).members (written modulus slots y).home
      ∙ rw (f.members_placed, g.home_known) (some_not (is_number x) (is_number y) h.2) in
      record { home_known = sum-at (constant ((written modulus slots x).members ++ (written modulus slots y).home ∷ []) % modulus) ((written modulus slots x).members ++ (written modulus slots y).home ∷ []) placed; members_placed = placed }
  places_of (Product x y) h =
      let f : Places x (written modulus slots x) = places_of x h.0 in
      let g : Places y (written modulus slots y) = places_of y h.1 in
      one_member (Product x y) (product_home modulus slots (written modulus slots x).home (written modulus slots y).home)
      (is_known-product _ _ ∙ rw (f.home_known, g.home_known) h.2)
  places_of (Negation x) h =
      let f : Places x (written modulus slots x) = places_of x h.0 in
      one_member (Negation x) (negation_home modulus slots (written modulus slots x).home) (is_known-negation _ ∙ f.home_known ∙ h.1)

  pub is_known-written : (x : ScalarTerm) → IsProper modulus slots x → is_known (written modulus slots x).home ≡ is_number x
  is_known-written x h = (places_of x h).home_known

at_place : (h : WrittenHome) → is_known h ≡ false → (p : Place) × (h ≡ At p)
at_place (Known c) e = cc
at_place (At p) e = (p, refl)

-- a made term that is no number has the value that its written form holds
pub written_law : (w : World) (x : ScalarTerm) → 0 < w.slots → 0 < w.modulus → IsMade w.modulus w.slots x → is_number x ≡ false
    → AtPlace w x (written w.modulus w.slots x).home
written_law w x room some made e =
    let proper : IsProper w.modulus w.slots x = proper_made w.modulus w.slots some made in
    let within : ElementsWithin w.slots x = proper-within w.modulus w.slots some x proper in
    by (written w.modulus w.slots x).home (is_known-written w.modulus w.slots some x proper ∙ e) (written-within w some room x within) (home_value-written w some room x within)
  where
    by : (h : WrittenHome) → is_known h ≡ false → IsWithinSlots w.slots h → home_value w h ≡ scalar_value w x → AtPlace w x h
    by (Known c) k within value = cc
    by (At p) k within value = (within, sym value)
