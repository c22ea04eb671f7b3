-- Which wires of a gathered circuit its gates read: the same as of the circuit, under their new numbers.
use Rattle.std.proofs.Common.{◌≡◌, ◌∙◌, refl, sym, ap, ℕ, ◌+◌, List, [], ◌∷◌, length, map, arith, inl, inr, Bool, true, false, not, ◌||◌, cond, eqb, subst}
use Rattle.std.specs.Prelude.{Option, Some, None, slice_get}
use Rattle.std.specs.List.{list_any}
use Rattle.std.proofs.lemmas.Bool.{eqb-true, eq-eqb}
use Rattle.heco_circuit.specs.declared.gate.Gate.{Gate}
use Rattle.heco_circuit.specs.declared.gate.Gate.TheVariants.{Neg, Add, Sub, Mul, Relin, Scale, Shift, Turn, Weigh}
use Rattle.heco_circuit.specs.Plans.{Plan}
use Rattle.heco_rewrites.specs.Wires.{operands, over}
use Rattle.heco_rewrites.specs.Needed.{has, reads}
use Rattle.heco_rewrites.proofs.OtherNames.{first}
use Rattle.heco_rewrites.proofs.Dropping.{has_contained, contained_has}
use Rattle.heco_plainvec.specs.Gathering.{cell_only}
use Rattle.heco_plainvec.specs.Gathered.{source, first_multiple, stays, name, gate_where, gathered_gate, gathered_gates, gathered}
use Rattle.heco_plainvec.proofs.Numbered.{any_there, any_found, found, there}
use Rattle.heco_plainvec.proofs.Leaders.{IsSource, source_is, operand_stays, source_stays, first_source, first_stays}
use Rattle.heco_plainvec.proofs.Places.{place_apart, name_itself}
use Rattle.heco_plainvec.proofs.Images.{image_is, scale_at}

-- wires that stay as they were have names of their own
pub apart : (c : Plan) (a b : ℕ) → source c a ≡ None → source c b ≡ None → name c a ≡ name c b → a ≡ b
apart c a b s r e = place_apart c a b (source_stays c a s) (source_stays c b r) (sym (name_itself c a s) ∙ e ∙ name_itself c b r)

operands_over : (f : ℕ → ℕ) (g : Gate) → operands (over f g) ≡ map f (operands g)
operands_over f (Neg a) = refl
operands_over f (Add a b) = refl
operands_over f (Sub a b) = refl
operands_over f (Mul a b) = refl
operands_over f (Relin a) = refl
operands_over f (Scale c a) = refl
operands_over f (Shift c a) = refl
operands_over f (Turn r a) = refl
operands_over f (Weigh v a) = refl

has_map : (f : ℕ → ℕ) (xs : List ℕ) (a : ℕ) → has xs a ≡ true → has (map f xs) (f a) ≡ true
has_map f [] a h = absurd cc
has_map f (x ∷ xs) a h = by_test (eqb x a) refl h (has_map f xs a)
  where
    by_test : (b : Bool) → eqb x a ≡ b → (b || has xs a) ≡ true → (has xs a ≡ true → has (map f xs) (f a) ≡ true) → (eqb (f x) (f a) || has (map f xs) (f a)) ≡ true
    by_test true t h g = ap (λ b. b || has (map f xs) (f a)) (eq-eqb (f x) (f a) (ap f (eqb-true x a t)))
    by_test false t h g = or_right (eqb (f x) (f a)) (has (map f xs) (f a)) (g h)
      where
        or_right : (b c : Bool) → c ≡ true → (b || c) ≡ true
        or_right true c h = refl
        or_right false c h = h

-- an element whose image it is
from_map : (f : ℕ → ℕ) (xs : List ℕ) (y : ℕ) → has (map f xs) y ≡ true → (x : ℕ) × (has xs x ≡ true) × (f x ≡ y)
from_map f [] y h = absurd cc
from_map f (x ∷ xs) y h = by_test (eqb (f x) y) refl h (from_map f xs y)
  where
    by_test : (b : Bool) → eqb (f x) y ≡ b → (b || has (map f xs) y) ≡ true → (has (map f xs) y ≡ true → (z : ℕ) × (has xs z ≡ true) × (f z ≡ y)) → (z : ℕ) × ((eqb x z || has xs z) ≡ true) × (f z ≡ y)
    by_test true t h g = (x, ap (λ b. b || has xs x) (eq-eqb x x refl), eqb-true (f x) y t)
    by_test false t h g = let r = g h in (r.0, or_right (eqb x r.0) (has xs r.0) r.1, r.2)
      where
        or_right : (b c : Bool) → c ≡ true → (b || c) ≡ true
        or_right true c h = refl
        or_right false c h = h

pub reads_over : (f : ℕ → ℕ) (g : Gate) (a : ℕ) → reads g a ≡ true → reads (over f g) (f a) ≡ true
reads_over f g a h = ap (λ xs. has xs (f a)) (operands_over f g) ∙ has_map f (operands g) a h

pub from_over : (f : ℕ → ℕ) (g : Gate) (b : ℕ) → reads (over f g) b ≡ true → (a : ℕ) × (reads g a ≡ true) × (f a ≡ b)
from_over f g b h = from_map f (operands g) b (sym (ap (λ xs. has xs b) (operands_over f g)) ∙ h)

read_stays : (c : Plan) (k : ℕ) (g : Gate) (a : ℕ) → slice_get c.gates k ≡ Some g → reads g a ≡ true → source c a ≡ None
read_stays c k g a e h = operand_stays c k g a e (contained_has (operands g) a h)

reads_one : (a b : ℕ) → has (a ∷ []) b ≡ true → a ≡ b
reads_one a b h = by_test (eqb a b) refl h
  where
    by_test : (t : Bool) → eqb a b ≡ t → (t || false) ≡ true → a ≡ b
    by_test true t h = eqb-true a b t
    by_test false t h = absurd cc

abbrev reads_of : ℕ → Gate → Bool
reads_of a g = reads g a

-- what a new gate reads is the name of what a gate reads
new_read : (c : Plan) (a : ℕ) → source c a ≡ None → list_any (reads_of (name c a)) (gathered_gates c) ≡ true → list_any (reads_of a) c.gates ≡ true
new_read c a s h =
    let n : ℕ = length c.inputs in
    let r = any_found (reads_of (name c a)) (gathered_gates c) h in
    let f = found (gathered_gate c) n c.gates r.0 r.1 r.2 in
    let g : Gate = f.1 in
    elim (image_is c (n + f.0) f.0 g r.1 refl f.2 f.3) [
      | inl k ↦ (let h' : reads (over (name c) g) (name c a) ≡ true = sym (ap (reads_of (name c a)) k.is) ∙ r.3 in
          let o = from_over (name c) g (name c a) h' in
          let q : o.0 ≡ a = apart c o.0 a (read_stays c f.0 g o.0 f.2 o.1) s o.2 in
          any_there (reads_of a) c.gates f.0 g f.2 (subst (λ z. reads g z ≡ true) q o.1))
      | inr k ↦ (let h' : has (name c k.of ∷ []) (name c a) ≡ true = sym (ap (reads_of (name c a)) k.is) ∙ r.3 in
          let here : reads g k.of ≡ true = ap (reads_of k.of) k.gate ∙ has_contained (k.of ∷ []) k.of (first k.of []) in
          let q : k.of ≡ a = apart c k.of a (read_stays c f.0 g k.of f.2 here) s (reads_one (name c k.of) (name c a) h') in
          any_there (reads_of a) c.gates f.0 g f.2 (subst (λ z. reads g z ≡ true) q here))
    ]

-- what a gate reads, a new gate reads under its name
old_read : (c : Plan) (a : ℕ) → list_any (reads_of a) c.gates ≡ true → list_any (reads_of (name c a)) (gathered_gates c) ≡ true
old_read c a h =
    let r = any_found (reads_of a) c.gates h in
    by_source r.0 r.1 r.2 r.3 (source c (length c.inputs + r.0)) refl
  where
    n : ℕ
    n = length c.inputs

    given : (k : ℕ) (g : Gate) (o : Option ℕ) → slice_get c.gates k ≡ Some g → source c (n + k) ≡ o → stays c (n + k) ≡ true → reads (gate_where c g o) (name c a) ≡ true → list_any (reads_of (name c a)) (gathered_gates c) ≡ true
    given k g o e s t h =
        let q : gathered_gate c (n + k, g) ≡ Some (gate_where c g o) = ap (λ b. cond b (Some (gate_where c g (source c (n + k)))) None) t ∙ ap (λ z. Some (gate_where c g z)) s in
        let i = there (gathered_gate c) n c.gates k g (gate_where c g o) e q in
        any_there (reads_of (name c a)) (gathered_gates c) i.0 (gate_where c g o) i.1 h

    by_source : (k : ℕ) (g : Gate) → slice_get c.gates k ≡ Some g → reads g a ≡ true → (o : Option ℕ) → source c (n + k) ≡ o → list_any (reads_of (name c a)) (gathered_gates c) ≡ true
    by_source k g e h None s = given k g None e s (source_stays c (n + k) s) (reads_over (name c) g a h)
    by_source k g e h (Some of) s =
        let w = scale_at c (n + k) k of g refl e s in
        let q : of ≡ a = reads_one of a (sym (ap (reads_of a) w.1) ∙ h) in
        let is : IsSource c (n + k) of = source_is c (n + k) of s in
        let sm : source c (first_multiple c of) ≡ Some of = first_source c of is.is_chosen in
        let m : IsSource c (first_multiple c of) of = source_is c (first_multiple c of) of sm in
        let at : first_multiple c of ≡ n + m.place = m.number in
        given m.place (Scale m.by of) (Some of) m.gate (subst (λ z. source c z ≡ Some of) at sm) (subst (λ z. stays c z ≡ true) at (first_stays c of is.is_chosen))
        (has_contained (name c of ∷ []) (name c a) (0, omega arith, ap (name c) q))

-- so only output cells read a wire that stays, where only output cells read it under its name
pub same_cell_only : (c : Plan) (a : ℕ) → source c a ≡ None → cell_only (gathered c) (name c a) ≡ cell_only c a
unfolding gathered
same_cell_only c a s = ap not (by_both (list_any (reads_of (name c a)) (gathered_gates c)) (list_any (reads_of a) c.gates) (new_read c a s) (old_read c a))
  where
    by_both : (x y : Bool) → (x ≡ true → y ≡ true) → (y ≡ true → x ≡ true) → x ≡ y
    by_both true y f g = sym (f refl)
    by_both false true f g = g refl
    by_both false false f g = refl
