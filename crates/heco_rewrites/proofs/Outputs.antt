-- Outputs over other wires: that they may stand, what they mean, and that their texts are as long.
use Rattle.std.proofs.Common.{◌≡◌, ℕ, zero, suc, ◌-◌, ◌^◌, ◌<◌, List, [], ◌∷◌, ◌++◌, length, map, refl, ap, sym, ◌∙◌, subst, arith, length-append, Bool, true, ◌&&◌, ◌||◌, not, eqb}
use Rattle.std.specs.Prelude.{Some, slice_get, slice_index, flat_map}
use Rattle.std.specs.List.{list_any, list_all, AllZip}
use Rattle.std.specs.Int.{w16, to_be_bytes}
use Rattle.std.proofs.lemmas.Bool.{ltb-true, lt-ltb}
use Rattle.std.proofs.lemmas.List.{map_push, length-map}
use Rattle.heco_nums.specs.declared.shape.Shape.{Shape}
use Rattle.heco_nums.specs.Words.{is_word}
use Rattle.heco_nums.specs.Runs.{all_along}
use Rattle.heco_fields.proofs.Bools.{both_true, and_true}
use Rattle.heco_circuit.specs.declared.gate.Cell.{Cell}
use Rattle.heco_circuit.specs.declared.gate.Cell.TheVariants.{Number, Slot}
use Rattle.heco_circuit.specs.declared.gate.Output.{Output}
use Rattle.heco_circuit.specs.CircuitFormat.{name_text, cell_text, output_text}
use Rattle.heco_circuit.specs.Plans.{shape_of, is_cell, is_output, is_name, names_input, names_output, push}
use Rattle.heco_circuit.specs.Validity.{is_between, has_parts, is_wire}
use Rattle.heco_meaning.specs.Meanings.{cell_value, output_values}
use Rattle.heco_rewrites.specs.Wires.{Wires, StandsFor, cell_over, output_over}

-- ---- all outputs
all_get : {X : Type 0} (test : X → Bool) (xs : List X) (k : ℕ) (x : X) → list_all test xs ≡ true → slice_get xs k ≡ Some x → test x ≡ true
all_get test [] k x h e = absurd cc
all_get test (y ∷ xs) zero x h e = let q : y ≡ x = (let r : Some y ≡ Some x = e in cc) in subst (λ z. test z ≡ true) q (both_true (test y) (list_all test xs) h).0
all_get test (y ∷ xs) (suc k) x h e = all_get test xs k x (both_true (test y) (list_all test xs) h).1 e

pub cells_stand : (t slots : ℕ) (inputs : List Shape) (parts : List ℕ) (earlier outputs : List Output) (i j : ℕ) (o : Output) (x : Cell) → all_along (is_output t slots inputs parts) push earlier outputs ≡ true → slice_get outputs i ≡ Some o → slice_get o.cells j ≡ Some x
    → is_cell t slots parts x ≡ true
cells_stand t slots inputs parts earlier [] i j o x h e q = absurd cc
cells_stand t slots inputs parts earlier (p ∷ outputs) zero j o x h e q =
    let r : p ≡ o = (let s : Some p ≡ Some o = e in cc) in
    let u = both_true (is_output t slots inputs parts earlier p) (all_along (is_output t slots inputs parts) push (push earlier p) outputs) h in
    let w = both_true (is_name inputs earlier p.name) (is_between 1 4096 (length p.cells) && list_all (is_cell t slots parts) p.cells) u.0 in
    let z = both_true (is_between 1 4096 (length p.cells)) (list_all (is_cell t slots parts) p.cells) w.1 in
    all_get (is_cell t slots parts) p.cells j x z.1 (subst (λ k. slice_get k.cells j ≡ Some x) (sym r) q)
cells_stand t slots inputs parts earlier (p ∷ outputs) (suc i) j o x h e q =
    cells_stand t slots inputs parts (push earlier p) outputs i j o x (both_true (is_output t slots inputs parts earlier p) (all_along (is_output t slots inputs parts) push (push earlier p) outputs) h).1 e q

all_over : (test : Cell → Bool) (f : ℕ → ℕ) (xs : List Cell) → ((k : ℕ) (x : Cell) → slice_get xs k ≡ Some x → test (cell_over f x) ≡ true) → list_all test (map (cell_over f) xs) ≡ true
all_over test f [] h = refl
all_over test f (x ∷ xs) h = and_true (test (cell_over f x)) (list_all test (map (cell_over f) xs)) (h 0 x refl) (all_over test f xs (λ k y e. h (suc k) y e))

length-over : (f : ℕ → ℕ) (xs : List Cell) → length (map (cell_over f) xs) ≡ length xs
length-over f [] = refl
length-over f (x ∷ xs) = ap suc (length-over f xs)

same_names : (text : List ℕ) (f : ℕ → ℕ) (os : List Output) → list_any (names_output text) (map (output_over f) os) ≡ list_any (names_output text) os
same_names text f [] = refl
same_names text f (o ∷ os) = ap (λ b. names_output text o || b) (same_names text f os)

pub outputs_stand : (t slots : ℕ) (inputs : List Shape) (parts parts' : List ℕ) (f : ℕ → ℕ) (earlier outputs : List Output) → all_along (is_output t slots inputs parts) push earlier outputs ≡ true
    → ((i j : ℕ) (o : Output) (x : Cell) → slice_get outputs i ≡ Some o → slice_get o.cells j ≡ Some x → is_cell t slots parts' (cell_over f x) ≡ true)
    → all_along (is_output t slots inputs parts') push (map (output_over f) earlier) (map (output_over f) outputs) ≡ true
outputs_stand t slots inputs parts parts' f earlier [] h g = refl
outputs_stand t slots inputs parts parts' f earlier (p ∷ outputs) h g =
    let u = both_true (is_output t slots inputs parts earlier p) (all_along (is_output t slots inputs parts) push (push earlier p) outputs) h in
    let w = both_true (is_name inputs earlier p.name) (is_between 1 4096 (length p.cells) && list_all (is_cell t slots parts) p.cells) u.0 in
    let z = both_true (is_between 1 4096 (length p.cells)) (list_all (is_cell t slots parts) p.cells) w.1 in
    let named : is_name inputs (map (output_over f) earlier) p.name ≡ true = ap (named_where p.name) (same_names p.name f earlier) ∙ w.0 in
    let one : is_output t slots inputs parts' (map (output_over f) earlier) (output_over f p) ≡ true =
    and_true _ _ named (and_true _ _ (ap (is_between 1 4096) (length-over f p.cells) ∙ z.0) (all_over (is_cell t slots parts') f p.cells (λ k x e. g 0 k p x refl e))) in
    let rest = outputs_stand t slots inputs parts parts' f (push earlier p) outputs u.1 (λ i j o x e q. g (suc i) j o x e q) in
    and_true (is_output t slots inputs parts' (map (output_over f) earlier) (output_over f p)) _ one
    (rw (← (map_push (output_over f) earlier p)) rest)
  where
    named_where : List ℕ → Bool → Bool
    named_where text b = is_between 1 (2 ^ 20) (length text) && (is_word text && not (list_any (names_input text) inputs) && not b)

pub outputs_mean : (old new : List (List ℕ)) (f : ℕ → ℕ) (outputs : List Output) → ((i j : ℕ) (o : Output) (x : Cell) → slice_get outputs i ≡ Some o → slice_get o.cells j ≡ Some x → cell_value new (cell_over f x) ≡ cell_value old x)
    → map (output_values new) (map (output_over f) outputs) ≡ map (output_values old) outputs
outputs_mean old new f [] h = refl
outputs_mean old new f (p ∷ outputs) h =
    let one = cells_mean p.cells (λ j x e. h 0 j p x refl e) in
    let rest = outputs_mean old new f outputs (λ i j o x e q. h (suc i) j o x e q) in
    rw (one, rest) refl
  where
    cells_mean : (xs : List Cell) → ((j : ℕ) (x : Cell) → slice_get xs j ≡ Some x → cell_value new (cell_over f x) ≡ cell_value old x) → map (cell_value new) (map (cell_over f) xs) ≡ map (cell_value old) xs
    cells_mean [] h = refl
    cells_mean (x ∷ xs) h = rw (h 0 x refl, cells_mean xs (λ j y e. h (suc j) y e)) refl

-- ---- a cell whose wire is stood for
pub cell_stands : (t slots : ℕ) (old new : Wires) (f : ℕ → ℕ) (x : Cell) → ((w q : ℕ) → x ≡ Slot w q → w < length old.parts → StandsFor old new w (f w)) → is_cell t slots old.parts x ≡ true → is_cell t slots new.parts (cell_over f x) ≡ true
cell_stands t slots old new f (Number n) h v = v
cell_stands t slots old new f (Slot w q) h v =
    let u = both_true (has_parts 2 old.parts w) (is_between 0 (slots - 1) q) v in
    let p = both_true (is_wire old.parts w) (eqb (slice_index old.parts w) 2) u.0 in
    let s = h w q refl (ltb-true w (length old.parts) p.0) in
    and_true (has_parts 2 new.parts (f w)) (is_between 0 (slots - 1) q)
    (and_true (is_wire new.parts (f w)) (eqb (slice_index new.parts (f w)) 2) (lt-ltb (f w) (length new.parts) s.within) (ap (λ k. eqb k 2) s.parts ∙ p.1)) u.1

pub cell_means : (t slots : ℕ) (old new : Wires) (f : ℕ → ℕ) (x : Cell) → ((w q : ℕ) → x ≡ Slot w q → w < length old.parts → StandsFor old new w (f w)) → is_cell t slots old.parts x ≡ true → cell_value new.slots (cell_over f x) ≡ cell_value old.slots x
cell_means t slots old new f (Number n) h v = refl
cell_means t slots old new f (Slot w q) h v =
    let u = both_true (has_parts 2 old.parts w) (is_between 0 (slots - 1) q) v in
    let p = both_true (is_wire old.parts w) (eqb (slice_index old.parts w) 2) u.0 in
    ap (λ xs. slice_index xs q) (h w q refl (ltb-true w (length old.parts) p.0)).slots

-- ---- names, one after the other
cells_twice : (f g : ℕ → ℕ) (xs : List Cell) → map (cell_over g) (map (cell_over f) xs) ≡ map (cell_over (λ a. g (f a))) xs
cells_twice f g [] = refl
cells_twice f g (Number n ∷ xs) = ap (λ r. Number n ∷ r) (cells_twice f g xs)
cells_twice f g (Slot w q ∷ xs) = ap (λ r. Slot (g (f w)) q ∷ r) (cells_twice f g xs)

pub outputs_twice : (f g : ℕ → ℕ) (os : List Output) → map (output_over g) (map (output_over f) os) ≡ map (output_over (λ a. g (f a))) os
outputs_twice f g [] = refl
outputs_twice f g (o ∷ os) = rw (cells_twice f g o.cells, outputs_twice f g os) refl

pub same_shapes : (f : ℕ → ℕ) (os : List Output) → map shape_of (map (output_over f) os) ≡ map shape_of os
same_shapes f [] = refl
same_shapes f (o ∷ os) = rw (length-map o.cells (cell_over f), same_shapes f os) refl

-- ---- cells place by place
zip_append : (R : Cell → Cell → Type 0) (xs ys us vs : List Cell) → AllZip R xs ys → AllZip R us vs → AllZip R (xs ++ us) (ys ++ vs)
zip_append R [] [] us vs h g = g
zip_append R [] (y ∷ ys) us vs h g = absurd h
zip_append R (x ∷ xs) [] us vs h g = absurd h
zip_append R (x ∷ xs) (y ∷ ys) us vs h g = (h.0, zip_append R xs ys us vs h.1 g)

zip_over : (R : Cell → Cell → Type 0) (f : ℕ → ℕ) (xs : List Cell) → ((j : ℕ) (x : Cell) → slice_get xs j ≡ Some x → R x (cell_over f x)) → AllZip R xs (map (cell_over f) xs)
zip_over R f [] h = tt
zip_over R f (x ∷ xs) h = (h 0 x refl, zip_over R f xs (λ j y e. h (suc j) y e))

pub zip_outputs : (R : Cell → Cell → Type 0) (f : ℕ → ℕ) (os : List Output) → ((i j : ℕ) (o : Output) (x : Cell) → slice_get os i ≡ Some o → slice_get o.cells j ≡ Some x → R x (cell_over f x))
    → AllZip R (flat_map (λ o. o.cells) os) (flat_map (λ o. o.cells) (map (output_over f) os))
zip_outputs R f [] h = tt
zip_outputs R f (o ∷ os) h = zip_append R o.cells (map (cell_over f) o.cells) _ _ (zip_over R f o.cells (λ j x e. h 0 j o x refl e)) (zip_outputs R f os (λ i j p x e q. h (suc i) j p x e q))

-- ---- their texts
cell_long : (f : ℕ → ℕ) (x : Cell) → length (cell_text (cell_over f x)) ≡ length (cell_text x)
cell_long f (Number n) = refl
cell_long f (Slot w s) = refl

cells_long : (f : ℕ → ℕ) (xs : List Cell) → length (flat_map cell_text (map (cell_over f) xs)) ≡ length (flat_map cell_text xs)
cells_long f [] = refl
cells_long f (x ∷ xs) =
    omega (arith, cell_long f x, cells_long f xs, length-append (cell_text (cell_over f x)) (flat_map cell_text (map (cell_over f) xs)), length-append (cell_text x) (flat_map cell_text xs))

output_long : (f : ℕ → ℕ) (o : Output) → length (output_text (output_over f o)) ≡ length (output_text o)
output_long f o =
    let m : length (map (cell_over f) o.cells) ≡ length o.cells = length-map o.cells (cell_over f) in
    let two : length (to_be_bytes w16 (length o.cells)) ≡ 2 = refl in
    let twice : length (to_be_bytes w16 (length (map (cell_over f) o.cells))) ≡ 2 = refl in
    omega (
      arith,
      two,
      twice,
      cells_long f o.cells,
      length-append (name_text o.name ++ to_be_bytes w16 (length o.cells)) (flat_map cell_text o.cells),
      length-append (name_text o.name) (to_be_bytes w16 (length o.cells)),
      length-append (name_text o.name ++ to_be_bytes w16 (length (map (cell_over f) o.cells))) (flat_map cell_text (map (cell_over f) o.cells)),
      length-append (name_text o.name) (to_be_bytes w16 (length (map (cell_over f) o.cells))),
    )

pub outputs_long : (f : ℕ → ℕ) (os : List Output) → length (flat_map output_text (map (output_over f) os)) ≡ length (flat_map output_text os)
outputs_long f [] = refl
outputs_long f (o ∷ os) =
    omega (arith, output_long f o, outputs_long f os, length-append (output_text (output_over f o)) (flat_map output_text (map (output_over f) os)), length-append (output_text o) (flat_map output_text os))
