-- The vector has at each slot what is asked there.
use Rattle.std.proofs.Common.{◌≡◌, ℕ, zero, suc, ◌<◌, List, [], ◌∷◌, refl, sym, ◌∙◌, arith, Bool, true, false, ◌&&◌, ◌||◌, not, eqb, cond}
use Rattle.std.specs.Prelude.{slice_get, slice_index, Some}
use Rattle.std.specs.List.{list_any}
use Rattle.std.proofs.lemmas.Bool.{eqb-true, eq-eqb}
use Rattle.std.proofs.lemmas.List.FromFn.{get_or-map-range_with_len}
use Rattle.heco_fields.proofs.Bools.{both_true}
use Rattle.heco_nums.specs.Presets.{slots_of}
use Rattle.heco_circuit.specs.Plans.{Plan}
use Rattle.heco_plainvec.specs.declared.multiple.Asked.{Asked}
use Rattle.heco_plainvec.specs.Gathering.{asked, differs, agree, at_slot, vector}

none_differs : (x y : Asked) (xs : List Asked) (i : ℕ) → not (list_any (differs x) xs) ≡ true → slice_get xs i ≡ Some y → x.slot ≡ y.slot → x.by ≡ y.by
none_differs x y [] i h e s = absurd cc
none_differs x y (z ∷ xs) zero h e s =
    let q : z ≡ y = (let f : Some z ≡ Some y = e in cc) in
    let u : differs x z ≡ false = first (differs x z) (list_any (differs x) xs) h in
    eqb-true x.by y.by (same (eqb x.slot y.slot) (eqb x.by y.by) (rw q at u) (eq-eqb x.slot y.slot s))
  where
    first : (b c : Bool) → not (b || c) ≡ true → b ≡ false
    first true c h = absurd cc
    first false c h = refl

    same : (a b : Bool) → (a && not b) ≡ false → a ≡ true → b ≡ true
    same true true h e = refl
    same true false h e = sym h
    same false b h e = absurd cc
none_differs x y (z ∷ xs) (suc i) h e s = none_differs x y xs i (rest (differs x z) (list_any (differs x) xs) h) e s
  where
    rest : (b c : Bool) → not (b || c) ≡ true → not c ≡ true
    rest true c h = absurd cc
    rest false c h = h

pub asked_there : (xs : List Asked) (y : Asked) (i : ℕ) → agree xs ≡ true → slice_get xs i ≡ Some y → at_slot xs y.slot ≡ y.by
asked_there [] y i h e = absurd cc
asked_there (x ∷ xs) y zero h e = let q : x ≡ y = (let f : Some x ≡ Some y = e in cc) in rw q (rw (eq-eqb y.slot y.slot refl) refl)
asked_there (x ∷ xs) y (suc i) h e =
    let u = both_true (not (list_any (differs x) xs)) (agree xs) h in
    by_test (eqb x.slot y.slot) refl (λ s. none_differs x y xs i u.0 e s) (asked_there xs y i u.1 e)
  where
    by_test : (b : Bool) → eqb x.slot y.slot ≡ b → (x.slot ≡ y.slot → x.by ≡ y.by) → at_slot xs y.slot ≡ y.by → cond b x.by (at_slot xs y.slot) ≡ y.by
    by_test true t f g = f (eqb-true x.slot y.slot t)
    by_test false t f g = g

pub vector_there : (c : Plan) (a : ℕ) (y : Asked) (i : ℕ) → agree (asked c a) ≡ true → slice_get (asked c a) i ≡ Some y → y.slot < slots_of c.preset → slice_index (vector c a) y.slot ≡ y.by
vector_there c a y i h e l = get_or-map-range_with_len (at_slot (asked c a)) 0 (slots_of c.preset) y.slot y.slot 0 l (omega arith) ∙ asked_there (asked c a) y i h e
