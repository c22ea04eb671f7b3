use Rattle.std.proofs.Common.{◌≡◌, ℕ, ◌+◌, ◌-◌, ◌*◌, ◌%◌, ◌<◌, List, [], ◌∷◌, ◌++◌, map, refl, ap, sym, ◌∙◌, arith}
use Rattle.std.proofs.Math.Nat.{mod-eq_of_lt, add-mod-mod, mod-add-mod, mod-mod}
use Rattle.std.proofs.lemmas.Nat.{mul-mod_first, mul-mod_second}
use Rattle.heco_written.specs.World.{World}
use Rattle.heco_written.specs.ScalarTerm.{ScalarTerm, Number, Element, Sum, Product, Negation, scalar_value}
use Rattle.heco_written.specs.VectorTerm.{Input}
use Rattle.heco_written.specs.WrittenForm.{Run, WrittenHome, Known, At, Written, runs, folded, added_to, places, constant, sum_at, sum_home, product_home, negation_home, written, home_value, ElementsWithin, IsWithinSlots}
use Rattle.heco_written.proofs.SlotValues.{scalar_value-lt}
use Rattle.heco_written.proofs.RunSlots.{place_value, places_sum, run_value, runs_sum, PlacesWithin, RunsWithin, runs-within, runs_sum-runs, place_value-folded, places_sum-folded, places-within-folded, added_to-slot, place_value-added_to, place_value-shifted_by, shifted_by-slot, aligned_value}

abbrev pub homes_sum : World → List WrittenHome → ℕ
homes_sum w [] = 0
homes_sum w (h ∷ hs) = home_value w h + homes_sum w hs

abbrev pub HomesWithin : ℕ → List WrittenHome → Type 0
HomesWithin n [] = Unit {0}
HomesWithin n (h ∷ hs) = IsWithinSlots n h × HomesWithin n hs

places-within : (n : ℕ) (hs : List WrittenHome) → HomesWithin n hs → PlacesWithin n (places hs)
places-within n [] h = tt
places-within n (Known c ∷ hs) h = places-within n hs h.1
places-within n (At p ∷ hs) h = (h.0, places-within n hs h.1)

homes-within-append : (n : ℕ) (hs : List WrittenHome) (k : WrittenHome) → HomesWithin n hs → IsWithinSlots n k → HomesWithin n (hs ++ k ∷ [])
homes-within-append n [] k h a = (a, tt)
homes-within-append n (x ∷ hs) k h a = (h.0, homes-within-append n hs k h.1 a)

homes_sum-append : (w : World) (hs : List WrittenHome) (k : WrittenHome) → homes_sum w (hs ++ k ∷ []) ≡ homes_sum w hs + home_value w k
homes_sum-append w [] k = omega arith
homes_sum-append w (x ∷ hs) k = omega (arith, homes_sum-append w hs k)

-- homes hold the constant and what the places hold
homes_sum-split : (w : World) (hs : List WrittenHome) → homes_sum w hs % w.modulus ≡ (constant hs + places_sum w (places hs)) % w.modulus
homes_sum-split w [] = refl
homes_sum-split w (Known c ∷ hs) =
    mod-add-mod c w.modulus (homes_sum w hs)
    ∙ sym (add-mod-mod c (homes_sum w hs) w.modulus)
    ∙ ap (λ s. (c + s) % w.modulus) (homes_sum-split w hs)
    ∙ add-mod-mod c (constant hs + places_sum w (places hs)) w.modulus
    ∙ ap (λ s. s % w.modulus) (omega arith)
homes_sum-split w (At p ∷ hs) =
    sym (add-mod-mod (place_value w p) (homes_sum w hs) w.modulus)
    ∙ ap (λ s. (place_value w p + s) % w.modulus) (homes_sum-split w hs)
    ∙ add-mod-mod (place_value w p) (constant hs + places_sum w (places hs)) w.modulus
    ∙ ap (λ s. s % w.modulus) (omega arith)

module _ (w : World) (some : 0 < w.modulus) (room : 0 < w.slots) where
  sum_at_value : (c : ℕ) (rs : List Run) → RunsWithin w.slots rs → home_value w (sum_at w.slots c rs) ≡ (c + runs_sum w rs) % w.modulus
  sum_at_value c [] h = let e : c + 0 ≡ c = omega arith in rw e refl
  sum_at_value c (r ∷ rs) h =
      place_value-shifted_by w some room c (added_to w.slots (folded r) (map folded rs))
      ∙ ap (λ s. (s + c) % w.modulus) (place_value-added_to w some room (folded r) (map folded rs) h.0.0 (places-within-folded w some room rs h.1))
      ∙ mod-add-mod (place_value w (folded r) + places_sum w (map folded rs)) w.modulus c
      ∙ ap (λ s. s % w.modulus) (omega arith)
      ∙ sym (add-mod-mod (place_value w (folded r) + c) (places_sum w (map folded rs)) w.modulus)
      ∙ ap (λ s. (place_value w (folded r) + c + s) % w.modulus) (places_sum-folded w some room rs h.1)
      ∙ add-mod-mod (place_value w (folded r) + c) (runs_sum w rs) w.modulus
      ∙ ap (λ s. (s + c + runs_sum w rs) % w.modulus) (place_value-folded w some room r h.0)
      ∙ ap (λ s. s % w.modulus) (omega arith)
      ∙ mod-add-mod (run_value w r) w.modulus (c + runs_sum w rs)
      ∙ ap (λ s. s % w.modulus) (omega arith)

  sum_at-within : (c : ℕ) (rs : List Run) → RunsWithin w.slots rs → IsWithinSlots w.slots (sum_at w.slots c rs)
  sum_at-within c [] h = tt
  sum_at-within c (r ∷ rs) h =
      rw (shifted_by-slot w some room c (added_to w.slots (folded r) (map folded rs)), added_to-slot w some room (folded r) (map folded rs)) h.0.0

  sum_home_value : (hs : List WrittenHome) → HomesWithin w.slots hs → home_value w (sum_home w.modulus w.slots hs) ≡ homes_sum w hs % w.modulus
  sum_home_value hs h =
      sum_at_value (constant hs % w.modulus) (runs w.slots (places hs)) (runs-within w.slots (places hs) (places-within w.slots hs h))
      ∙ mod-add-mod (constant hs) w.modulus (runs_sum w (runs w.slots (places hs)))
      ∙ ap (λ s. (constant hs + s) % w.modulus) (runs_sum-runs w (places hs) (places-within w.slots hs h))
      ∙ sym (homes_sum-split w hs)

  product_home_value : (g h : WrittenHome) → IsWithinSlots w.slots g → IsWithinSlots w.slots h
      → home_value w (product_home w.modulus w.slots g h) ≡ (home_value w g * home_value w h) % w.modulus
  product_home_value (Known c) (Known d) hg hh =
      mod-mod (c * d) w.modulus ∙ sym (mul-mod_second (c % w.modulus) d w.modulus ∙ mul-mod_first c d w.modulus)
  product_home_value (Known c) (At p) hg hh = sym (mul-mod_first c (place_value w p) w.modulus)
  product_home_value (At p) (Known d) hg hh =
      ap (λ s. s % w.modulus) (omega arith) ∙ sym (mul-mod_second (place_value w p) d w.modulus)
  product_home_value (At p) (At q) hg hh = ap (λ s. (place_value w p * s) % w.modulus) (aligned_value w some room p q hg hh)

  product_home-within : (g h : WrittenHome) → IsWithinSlots w.slots g → IsWithinSlots w.slots h → IsWithinSlots w.slots (product_home w.modulus w.slots g h)
  product_home-within (Known c) (Known d) hg hh = tt
  product_home-within (Known c) (At p) hg hh = hh
  product_home-within (At p) (Known d) hg hh = hg
  product_home-within (At p) (At q) hg hh = hg

  negation_home_value : (g : WrittenHome) → home_value w (negation_home w.modulus w.slots g) ≡ (w.modulus - home_value w g) % w.modulus
  negation_home_value (Known c) = mod-mod _ w.modulus
  negation_home_value (At p) = refl

  negation_home-within : (g : WrittenHome) → IsWithinSlots w.slots g → IsWithinSlots w.slots (negation_home w.modulus w.slots g)
  negation_home-within (Known c) h = tt
  negation_home-within (At p) h = h

  -- what is known of a written form
  record Holds (x : ScalarTerm) (f : Written) : Type 0 where
    home_within : IsWithinSlots w.slots f.home
    members_within : HomesWithin w.slots f.members
    home_holds : home_value w f.home ≡ scalar_value w x
    members_hold : homes_sum w f.members % w.modulus ≡ scalar_value w x

  one_member : (x : ScalarTerm) (h : WrittenHome) → IsWithinSlots w.slots h → home_value w h ≡ scalar_value w x → Holds x (record { home = h; members = h ∷ [] })
  one_member x h a e = record {
    home_within = a;
    members_within = (a, tt);
    home_holds = e;
    members_hold =
        let z : home_value w h + 0 ≡ scalar_value w x = omega (arith, e) in
        ap (λ s. s % w.modulus) z ∙ mod-eq_of_lt (scalar_value-lt w x some);
  }

  holds : (x : ScalarTerm) → ElementsWithin w.slots x → Holds x (written w.modulus w.slots x)
  holds (Number c) h = one_member (Number c) (Known c) tt refl
  holds (Element a i) h = one_member (Element a i) (At (record { vector = Input a; slot = i })) h refl
  holds (Sum x y) h =
      let f : Holds x (written w.modulus w.slots x) = holds x h.0 in
      let g : Holds y (written w.modulus w.slots y) = holds y h.1 in
      let within : HomesWithin w.slots ((written w.modulus w.slots x).members ++ (written w.modulus w.slots y).home ∷ []) = homes-within-append w.slots (written w.modulus w.slots x).members (written w.modulus w.slots y).home f.members_within g.home_within in
      let total : homes_sum w ((written w.modulus w.slots x).members ++ (written w.modulus w.slots y).home ∷ []) % w.modulus ≡ (scalar_value w x + scalar_value w y) % w.modulus =
      ap (λ s. s % w.modulus) (homes_sum-append w (written w.modulus w.slots x).members (written w.modulus w.slots y).home)
      ∙ sym (mod-add-mod (homes_sum w (written w.modulus w.slots x).members) w.modulus (home_value w (written w.modulus w.slots y).home))
      ∙ ap (λ s. (s + home_value w (written w.modulus w.slots y).home) % w.modulus) f.members_hold
      ∙ ap (λ s. (scalar_value w x + s) % w.modulus) g.home_holds in
      record {
        home_within = sum_at-within (constant ((written w.modulus w.slots x).members ++ (written w.modulus w.slots y).home ∷ []) % w.modulus) (runs w.slots (places ((written w.modulus w.slots x).members ++ (written w.modulus w.slots y).home ∷ [])))
            (runs-within w.slots _ (places-within w.slots _ within));
        members_within = within;
        home_holds = sum_home_value _ within ∙ total;
        members_hold = total;
      }
  holds (Product x y) h =
      let f : Holds x (written w.modulus w.slots x) = holds x h.0 in
      let g : Holds y (written w.modulus w.slots y) = holds y h.1 in
      one_member (Product x y) (product_home w.modulus w.slots (written w.modulus w.slots x).home (written w.modulus w.slots y).home) (product_home-within _ _ f.home_within g.home_within)
      (product_home_value _ _ f.home_within g.home_within ∙ rw (f.home_holds, g.home_holds) refl)
  holds (Negation x) h =
      let f : Holds x (written w.modulus w.slots x) = holds x h in
      one_member (Negation x) (negation_home w.modulus w.slots (written w.modulus w.slots x).home) (negation_home-within _ f.home_within)
      (negation_home_value _ ∙ rw (f.home_holds) refl)

  pub home_value-written : (x : ScalarTerm) → ElementsWithin w.slots x → home_value w (written w.modulus w.slots x).home ≡ scalar_value w x
  home_value-written x h = (holds x h).home_holds

  pub written-within : (x : ScalarTerm) → ElementsWithin w.slots x → IsWithinSlots w.slots (written w.modulus w.slots x).home
  written-within x h = (holds x h).home_within
