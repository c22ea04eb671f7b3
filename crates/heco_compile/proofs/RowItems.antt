-- The first item of lists one after another that has a number, by its list and its place there.
use Rattle.std.proofs.Common.{◌≡◌, refl, ap, ℕ, zero, suc, ◌+◌, ◌<◌, List, [], ◌∷◌, ◌++◌, map, length, take, Some, None, Option, arith}
use Rattle.std.specs.Prelude.{All, slice_get}
use Rattle.std.specs.List.{flat_map, sum_by}
use Rattle.std.proofs.lemmas.List.Elements.{All-nil, All-cons}
use Rattle.std.proofs.lemmas.List.Sums.{sum_by-cons}
use Rattle.heco_nums.specs.declared.shape.Shape.{Shape}

abbrev joined : {X : Type 0} → List (List X) → List X
joined rows = flat_map (λ row. row) rows

module _ {X : Type 0} (f : X → Option ℕ) where
  -- no item has a number
  abbrev pub Shallow : List X → Type 0
  Shallow [] = Unit {0}
  Shallow (x ∷ xs) = (f x ≡ None) × Shallow xs

  abbrev AllNone : List X → Type 0
  AllNone xs = All (λ x. f x ≡ None) xs

  all_none : (xs : List X) → Shallow xs → AllNone xs
  all_none [] h = All-nil (λ x. f x ≡ None)
  all_none (x ∷ xs) h = All-cons (λ x. f x ≡ None) x xs h.0 (all_none xs h.1)

  shallow_left : (xs ys : List X) → Shallow (xs ++ ys) → Shallow xs
  shallow_left [] ys h = tt
  shallow_left (x ∷ xs) ys h = (h.0, shallow_left xs ys h.1)

  shallow_right : (xs ys : List X) → Shallow (xs ++ ys) → Shallow ys
  shallow_right [] ys h = h
  shallow_right (x ∷ xs) ys h = shallow_right xs ys h.1

  pub rows_none : (rows : List (List X)) → Shallow (joined rows) → All AllNone rows
  rows_none [] h = All-nil AllNone
  rows_none (row ∷ rows) h = All-cons AllNone row rows (all_none row (shallow_left row (joined rows) h)) (rows_none rows (shallow_right row (joined rows) h))

  -- item x stands at this place of this list, and no item before it has a number
  pub record IsFirst (rows : List (List X)) (out index : ℕ) (x : X) : Type 0 where
    pub row : List X
    pub row_is : slice_get rows out ≡ Some row
    pub rows_before : All AllNone (take out rows)
    pub item_is : slice_get row index ≡ Some x
    pub items_before : AllNone (take index row)

  in_row : (row rest : List X) (index : ℕ) (x : X) → index < length row → slice_get (row ++ rest) index ≡ Some x → Shallow (take index (row ++ rest))
      → (slice_get row index ≡ Some x) × Shallow (take index row)
  in_row [] rest index x l e h = absurd (omega arith)
  in_row (y ∷ row) rest zero x l e h = (e, tt)
  in_row (y ∷ row) rest (suc index) x l e h = let (is, before) = in_row row rest index x (omega arith) e h.1 in (is, (h.0, before))

  behind_row : (row rest : List X) (number : ℕ) (x : X) → slice_get (row ++ rest) (length row + number) ≡ Some x → Shallow (take (length row + number) (row ++ rest))
      → Shallow row × (slice_get rest number ≡ Some x) × Shallow (take number rest)
  behind_row [] rest number x e h = let none : 0 + number ≡ number = omega arith in (tt, rw none at e, rw none at h)
  behind_row (y ∷ row) rest number x e h =
      let more : length (y ∷ row) + number ≡ suc (length row + number) = omega arith in
      let all : Shallow (take (suc (length row + number)) (y ∷ (row ++ rest))) = rw more at h in
      let r = behind_row row rest number x (rw more at e) all.1 in
      ((all.0, r.0), r.1, r.2)

  -- the first item that has a number, where the lists have the lengths of shapes
  pub first_in : (rows : List (List X)) (shapes : List Shape) → map (λ row. length row) rows ≡ map (λ s. s.len) shapes → (out index : ℕ) (s : Shape)
      → slice_get shapes out ≡ Some s → index < s.len → (x : X) → slice_get (joined rows) (sum_by (λ s. s.len) (take out shapes) + index) ≡ Some x
      → Shallow (take (sum_by (λ s. s.len) (take out shapes) + index) (joined rows)) → IsFirst rows out index x
  first_in rows [] long out index s here l x e h = absurd cc
  first_in [] (t ∷ shapes) long out index s here l x e h = absurd (let no : ⊥ = cc in no)
  first_in (row ∷ rows) (t ∷ shapes) long zero index s here l x e h =
      let same : t ≡ s = cc in
      let len : length row ≡ t.len = cc in
      let none : sum_by (λ s. s.len) (take 0 (t ∷ shapes)) + index ≡ index = omega arith in
      let (is, before) = in_row row (joined rows) index x (omega (arith, len, ap (λ (u : Shape). u.len) same)) (rw none at e) (rw none at h) in
      record { row = row; row_is = refl; rows_before = All-nil AllNone; item_is = is; items_before = all_none (take index row) before }
  first_in (row ∷ rows) (t ∷ shapes) long (suc out) index s here l x e h =
      let len : length row ≡ t.len = cc in
      let rest : map (λ row. length row) rows ≡ map (λ s. s.len) shapes = cc in
      let n : sum_by (λ s. s.len) (take (suc out) (t ∷ shapes)) + index ≡ length row + (sum_by (λ s. s.len) (take out shapes) + index) =
      omega (arith, sum_by-cons (λ (s : Shape). s.len) t (take out shapes), len) in
      let behind = behind_row row (joined rows) (sum_by (λ s. s.len) (take out shapes) + index) x (rw n at e) (rw n at h) in
      let r = first_in rows shapes rest out index s here l x behind.1 behind.2 in
      record { row = r.row; row_is = r.row_is; rows_before = All-cons AllNone row (take out rows) (all_none row behind.0) r.rows_before; item_is = r.item_is; items_before = r.items_before }
