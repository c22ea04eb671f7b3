-- One output more.
use Rattle.std.proofs.Common.{◌≡◌, ℕ, zero, suc, ◌+◌, ◌<◌, List, [], ◌∷◌, ◌++◌, length, map, Some, sym, ap, ◌∙◌, get_or, take, drop, arith}
use Rattle.std.specs.Prelude.{slice_get}
use Rattle.std.specs.List.{sum_by, flat_map}
use Rattle.std.proofs.lemmas.List.{take_more, drop_more, map-append, append_assoc, append-nil, take-append-drop}
use Rattle.std.proofs.lemmas.List.Concat.{flat_map-append}
use Rattle.std.proofs.lemmas.List.Sums.{sum_by-cons}
use Rattle.heco_nums.specs.declared.shape.Shape.{Shape}
use Rattle.heco_ir.specs.declared.dialect.NodeId.{NodeId}
use Rattle.heco_ir.specs.declared.home.Home.{Home}
use Rattle.heco_circuit.specs.declared.gate.Cell.{Cell}
use Rattle.heco_circuit.specs.declared.gate.Output.{Output}
use Rattle.heco_circuit.specs.Plans.{shape_of}
use Rattle.heco_place.specs.inside.Cells.{cells_of}
use Rattle.heco_place.specs.Fitting.{AllHomesWithin}

same_shape : (o : Output) (s : Shape) → o.name ≡ s.name → length o.cells ≡ s.len → shape_of o ≡ s
same_shape o s e f = ap (λ n. record { name = n; len = length o.cells }) e ∙ ap (λ l. record { name = s.name; len = l }) f

module _ (f : Home → Cell) (os : List Output) (o : Output) (shapes : List Shape) (i : ℕ) (s : Shape) (l : i < length shapes) (here : s ≡ get_or shapes i s) where
  pub shapes_more : map shape_of os ≡ take i shapes → o.name ≡ s.name → length o.cells ≡ s.len → map shape_of (os ++ o ∷ []) ≡ take (i + 1) shapes
  shapes_more are e g =
      map-append shape_of os (o ∷ []) ∙ ap (λ xs. xs ++ shape_of o ∷ []) are
      ∙ ap (λ x. take i shapes ++ x ∷ []) (same_shape o s e g ∙ here) ∙ sym (take_more shapes i s l)

  pub count_more : sum_by (λ (x : Shape). x.len) (drop i shapes) ≡ s.len + sum_by (λ (x : Shape). x.len) (drop (i + 1) shapes)
  count_more =
      ap (sum_by (λ (x : Shape). x.len)) (drop_more shapes i s l) ∙ sum_by-cons (λ (x : Shape). x.len) (get_or shapes i s) (drop (i + 1) shapes)
      ∙ ap (λ (x : Shape). x.len + sum_by (λ (x : Shape). x.len) (drop (i + 1) shapes)) (sym here)

pub cells_more : (f : Home → Cell) (os : List Output) (o : Output) (rest mine more homes : List Home) → rest ≡ mine ++ more → o.cells ≡ map f mine
    → flat_map cells_of os ++ map f rest ≡ map f homes → flat_map cells_of (os ++ o ∷ []) ++ map f more ≡ map f homes
cells_more f os o rest mine more homes split cells are =
    ap (λ xs. xs ++ map f more) (flat_map-append cells_of os (o ∷ []) ∙ ap (λ xs. flat_map cells_of os ++ xs) (append-nil o.cells ∙ cells))
    ∙ append_assoc (flat_map cells_of os) (map f mine) (map f more)
    ∙ ap (λ xs. flat_map cells_of os ++ xs) (sym (ap (map f) split ∙ map-append f mine more)) ∙ are

behind : {X : Type 0} (xs ys : List X) (k : ℕ) (x : X) → slice_get ys k ≡ Some x → slice_get (xs ++ ys) (length xs + k) ≡ Some x
behind [] ys k x e = let z : 0 + k ≡ k = omega arith in rw z e
behind (y ∷ xs) ys k x e = let z : suc (length xs) + k ≡ suc (length xs + k) = omega arith in rw z (behind xs ys k x e)

front : {X : Type 0} (xs ys : List X) (k : ℕ) (x : X) → slice_get xs k ≡ Some x → slice_get (xs ++ ys) k ≡ Some x
front [] ys k x e = absurd cc
front (y ∷ xs) ys zero x e = e
front (y ∷ xs) ys (suc k) x e = front xs ys k x e

pub within_front : (n : ℕ) (roots : List NodeId) (rest mine more : List Home) → rest ≡ mine ++ more → AllHomesWithin n roots rest → AllHomesWithin n roots mine
within_front n roots rest mine more split h k x e = h k x (rw split (front mine more k x e))

pub within_behind : (n : ℕ) (roots : List NodeId) (rest mine more : List Home) → rest ≡ mine ++ more → AllHomesWithin n roots rest → AllHomesWithin n roots more
within_behind n roots rest mine more split h k x e = h (length mine + k) x (rw split (behind mine more k x e))

pub split_is : (rest mine more : List Home) (n : ℕ) → mine ≡ take n rest → more ≡ drop n rest → rest ≡ mine ++ more
split_is rest mine more n e f = rw (e, f) (sym (take-append-drop n rest))
