use Rattle.std.proofs.Common.{◌≡◌, ℕ, zero, suc, ◌+◌, ◌%◌, ◌<◌, List, [], ◌∷◌, map, refl, ap, sym, ◌∙◌, arith, add-one, Bool, true, false, cond, ◌&&◌}
use Rattle.std.specs.Prelude.{nat_eq}
use Rattle.std.proofs.lemmas.Bool.{eqb-true}
use Rattle.std.proofs.Math.Nat.{mod-eq_of_lt, add-mod-mod, mod-add-mod}
use Rattle.heco_written.specs.World.{World}
use Rattle.heco_written.specs.VectorTerm.{VectorTerm, Input, Negated, Added, Multiplied, Scaled, Shifted, Turned, slot_value, same_vector}
use Rattle.heco_written.specs.WrittenForm.{Place, Run, run_of, longer, continues, runs_from, runs, folded, distance, aligned, added_to, shifted_by}
use Rattle.heco_written.proofs.SlotValues.{slot_value-lt, slot_value-turned_by, distance_reaches}
use Rattle.heco_written.proofs.FoldSlots.{slots_sum, slots_sum-one, slot_value-fold}

pub both_left : (a b : Bool) → (a && b) ≡ true → a ≡ true
both_left true b h = refl
both_left false b h = h

pub both_right : (a b : Bool) → (a && b) ≡ true → b ≡ true
both_right true b h = h
both_right false b h = cc

pub same_vector-true : (v u : VectorTerm) → same_vector v u ≡ true → v ≡ u
same_vector-true (Input a) (Input b) h = ap Input (eqb-true a b h)
same_vector-true (Negated v) (Negated u) h = ap Negated (same_vector-true v u h)
same_vector-true (Added v v2) (Added u u2) h =
    rw (same_vector-true v u (both_left _ _ h), same_vector-true v2 u2 (both_right (same_vector v u) _ h)) refl
same_vector-true (Multiplied v v2) (Multiplied u u2) h =
    rw (same_vector-true v u (both_left _ _ h), same_vector-true v2 u2 (both_right (same_vector v u) _ h)) refl
same_vector-true (Scaled c v) (Scaled d u) h =
    rw (eqb-true c d (both_left _ _ h), same_vector-true v u (both_right (nat_eq c d) _ h)) refl
same_vector-true (Shifted c v) (Shifted d u) h =
    rw (eqb-true c d (both_left _ _ h), same_vector-true v u (both_right (nat_eq c d) _ h)) refl
same_vector-true (Turned r v) (Turned s u) h =
    rw (eqb-true r s (both_left _ _ h), same_vector-true v u (both_right (nat_eq r s) _ h)) refl
same_vector-true v u h = cc

abbrev pub place_value : World → Place → ℕ
place_value w p = slot_value w p.vector p.slot

abbrev pub places_sum : World → List Place → ℕ
places_sum w [] = 0
places_sum w (p ∷ ps) = place_value w p + places_sum w ps

abbrev pub run_value : World → Run → ℕ
run_value w r = slots_sum w r.vector r.slot r.size

abbrev pub runs_sum : World → List Run → ℕ
runs_sum w [] = 0
runs_sum w (r ∷ rs) = run_value w r + runs_sum w rs

-- each place is within the slots
abbrev pub PlacesWithin : ℕ → List Place → Type 0
PlacesWithin n [] = Unit {0}
PlacesWithin n (p ∷ ps) = (p.slot < n) × PlacesWithin n ps

abbrev pub RunWithin : ℕ → Run → Type 0
RunWithin n r = (r.slot < n) × (0 < r.size)

-- each run has a slot and begins within the slots
abbrev pub RunsWithin : ℕ → List Run → Type 0
RunsWithin n [] = Unit {0}
RunsWithin n (r ∷ rs) = RunWithin n r × RunsWithin n rs

pub runs_from-within : (n : ℕ) (r : Run) (ps : List Place) → RunWithin n r → PlacesWithin n ps → RunsWithin n (runs_from n r ps)
runs_from-within n r [] hr hp = (hr, tt)
runs_from-within n r (p ∷ ps) hr hp =
    by (continues n r p) (runs_from-within n (longer r) ps (hr.0, omega arith) hp.1) (runs_from-within n (run_of p) ps (hp.0, omega arith) hp.1)
  where
    by : (t : Bool) → RunsWithin n (runs_from n (longer r) ps) → RunsWithin n (runs_from n (run_of p) ps)
        → RunsWithin n (cond t (runs_from n (longer r) ps) (r ∷ runs_from n (run_of p) ps))
    by true a b = a
    by false a b = (hr, b)

-- a run that goes on by a place
longer_value : (w : World) (r : Run) (p : Place) → continues w.slots r p ≡ true → run_value w (longer r) ≡ run_value w r + place_value w p
longer_value w r p h =
    let v : r.vector ≡ p.vector = same_vector-true r.vector p.vector (both_left _ _ h) in
    let s : p.slot ≡ (r.slot + r.size) % w.slots = eqb-true _ _ (both_left _ _ (both_right (same_vector r.vector p.vector) _ h)) in
    let e : place_value w p ≡ slot_value w r.vector ((r.slot + r.size) % w.slots) = rw (s, v) refl in
    rw (e, add-one) refl

-- runs hold what the places hold
pub runs_sum-runs_from : (w : World) (r : Run) (ps : List Place) → PlacesWithin w.slots ps
    → runs_sum w (runs_from w.slots r ps) ≡ run_value w r + places_sum w ps
runs_sum-runs_from w r [] h = refl
runs_sum-runs_from w r (p ∷ ps) h =
    by (continues w.slots r p) refl (runs_sum-runs_from w (longer r) ps h.1) (runs_sum-runs_from w (run_of p) ps h.1)
  where
    by : (t : Bool) → continues w.slots r p ≡ t
        → runs_sum w (runs_from w.slots (longer r) ps) ≡ run_value w (longer r) + places_sum w ps
        → runs_sum w (runs_from w.slots (run_of p) ps) ≡ run_value w (run_of p) + places_sum w ps
        → runs_sum w (cond t (runs_from w.slots (longer r) ps) (r ∷ runs_from w.slots (run_of p) ps)) ≡ run_value w r + (place_value w p + places_sum w ps)
    by true e a b = omega (arith, a, longer_value w r p e)
    by false e a b = omega (arith, b, slots_sum-one w p.vector p.slot h.0)

pub runs_sum-runs : (w : World) (ps : List Place) → PlacesWithin w.slots ps → runs_sum w (runs w.slots ps) ≡ places_sum w ps
runs_sum-runs w [] h = refl
runs_sum-runs w (p ∷ ps) h = omega (arith, runs_sum-runs_from w (run_of p) ps h.1, slots_sum-one w p.vector p.slot h.0)

pub runs-within : (n : ℕ) (ps : List Place) → PlacesWithin n ps → RunsWithin n (runs n ps)
runs-within n [] h = tt
runs-within n (p ∷ ps) h = runs_from-within n (run_of p) ps (h.0, omega arith) h.1

module _ (w : World) (some : 0 < w.modulus) (room : 0 < w.slots) where
  place_value-mod : (p : Place) → place_value w p % w.modulus ≡ place_value w p
  place_value-mod p = mod-eq_of_lt (slot_value-lt w p.vector p.slot some)

  pub place_value-folded : (r : Run) → RunWithin w.slots r → place_value w (folded r) ≡ run_value w r % w.modulus
  place_value-folded r h = slot_value-fold w r.vector some room r.size r.slot h.1 h.0

  pub places_sum-folded : (rs : List Run) → RunsWithin w.slots rs → places_sum w (map folded rs) % w.modulus ≡ runs_sum w rs % w.modulus
  places_sum-folded [] h = refl
  places_sum-folded (r ∷ rs) h =
      rw (place_value-folded r h.0) (mod-add-mod _ w.modulus _
      ∙ sym (add-mod-mod _ (places_sum w (map folded rs)) w.modulus)
      ∙ ap (λ s. (run_value w r + s) % w.modulus) (places_sum-folded rs h.1)
      ∙ add-mod-mod _ _ w.modulus)

  pub places-within-folded : (rs : List Run) → RunsWithin w.slots rs → PlacesWithin w.slots (map folded rs)
  places-within-folded [] h = tt
  places-within-folded (r ∷ rs) h = (h.0.0, places-within-folded rs h.1)

  pub aligned_value : (p q : Place) → p.slot < w.slots → q.slot < w.slots → slot_value w (aligned w.slots p q) p.slot ≡ place_value w q
  aligned_value p q hp hq =
      slot_value-turned_by w (distance w.slots p.slot q.slot) q.vector p.slot hp
      ∙ ap (slot_value w q.vector) (distance_reaches w.slots p.slot q.slot hp hq)

  pub added_to-slot : (p : Place) (qs : List Place) → (added_to w.slots p qs).slot ≡ p.slot
  added_to-slot p [] = refl
  added_to-slot p (q ∷ qs) = added_to-slot (record { vector = Added p.vector (aligned w.slots p q); slot = p.slot }) qs

  pub place_value-added_to : (p : Place) (qs : List Place) → p.slot < w.slots → PlacesWithin w.slots qs
      → place_value w (added_to w.slots p qs) ≡ (place_value w p + places_sum w qs) % w.modulus
  place_value-added_to p [] hp h = let e : place_value w p + 0 ≡ place_value w p = omega arith in rw e (sym (place_value-mod p))
  place_value-added_to p (q ∷ qs) hp h =
      place_value-added_to (record { vector = Added p.vector (aligned w.slots p q); slot = p.slot }) qs hp h.1
      ∙ mod-add-mod (place_value w p + slot_value w (aligned w.slots p q) p.slot) w.modulus (places_sum w qs)
      ∙ ap (λ s. (place_value w p + s + places_sum w qs) % w.modulus) (aligned_value p q hp h.0)
      ∙ ap (λ s. s % w.modulus) (omega arith)

  pub place_value-shifted_by : (c : ℕ) (p : Place) → place_value w (shifted_by c p) ≡ (place_value w p + c) % w.modulus
  place_value-shifted_by zero p = let e : place_value w p + 0 ≡ place_value w p = omega arith in rw e (sym (place_value-mod p))
  place_value-shifted_by (suc c) p = refl

  pub shifted_by-slot : (c : ℕ) (p : Place) → (shifted_by c p).slot ≡ p.slot
  shifted_by-slot zero p = refl
  shifted_by-slot (suc c) p = refl
