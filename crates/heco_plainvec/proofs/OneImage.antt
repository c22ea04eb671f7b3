-- What comes of one gate: a product, nothing, or the gate over the new numbers of its operands.
use Rattle.std.proofs.Common.{◌≡◌, ℕ, ◌+◌, ◌<◌, ◌≤◌, List, [], ◌∷◌, length, map, refl, ap, sym, ◌∙◌, arith, Bool, true, false, ◌&&◌, not, cond, get_or, subst, inl, inr}
use Rattle.std.specs.Prelude.{Option, Some, None, slice_index, Contains}
use Rattle.std.specs.List.{range_with_len}
use Rattle.std.specs.Option.{option_map}
use Rattle.std.proofs.lemmas.Bool.{eq-eqb, ne_eqb, cases_lt}
use Rattle.std.proofs.lemmas.List.FromFn.{get_or-map-range_with_len}
use Rattle.heco_circuit.specs.declared.gate.Gate.{Gate}
use Rattle.heco_circuit.specs.declared.gate.Gate.TheVariants.{Neg, Add, Sub, Mul, Relin, Scale, Shift, Turn, Weigh}
use Rattle.heco_circuit.specs.Plans.{Plan}
use Rattle.heco_rewrites.specs.Wires.{maker, operands, over}
use Rattle.heco_rewrites.specs.Needed.{has}
use Rattle.heco_rewrites.proofs.OtherNames.{first, second}
use Rattle.heco_plainvec.specs.declared.multiple.Scaled.{Scaled}
use Rattle.heco_plainvec.specs.declared.multiple.Product.{Product}
use Rattle.heco_plainvec.specs.declared.multiple.Replacing.{Replacing}
use Rattle.heco_plainvec.specs.Gathering.{is_read, cell_only, wires, chosen}
use Rattle.heco_plainvec.specs.Gathered.{source_where, source, first_multiple, leader, name, vector_number, gate_where, gathered_gate}
use Rattle.heco_plainvec.specs.inside.Finding.{scaled_where, product_at, replacing_by, replacing_where, replacing}
use Rattle.heco_plainvec.proofs.Numbered.{maker_is}
use Rattle.heco_plainvec.proofs.Rows.{each_at, only_at}
use Rattle.heco_plainvec.proofs.Leaders.{leader_itself, leader_of, first_below}
use Rattle.heco_plainvec.proofs.Swept.{Earlier, source_earlier}

-- ---- what the lists say
pub scaled_read : (c : Plan) (reads : List Bool) (wire : ℕ) (g : Gate) → reads ≡ map (is_read c) (wires c) → wire < length c.inputs + length c.gates
    → scaled_where (not (get_or reads wire false)) g ≡ scaled_where (cell_only c wire) g
scaled_read c reads wire g r l = ap (λ rs. scaled_where (not (get_or rs wire false)) g) r ∙ ap (λ b. scaled_where b g) (only_at c wire l)

pub product_read : (c : Plan) (products : List (Option Product)) (a : ℕ) → products ≡ map (product_at c) (wires c) → a < length c.inputs + length c.gates → get_or products a None ≡ product_at c a
product_read c products a r l = ap (λ ps. get_or ps a None) r ∙ each_at (product_at c) c a None l

scaled_is : (only : Bool) (g : Gate) (s : Scaled) → scaled_where only g ≡ Some s → Contains (operands g) s.of
scaled_is true (Scale k a) s e = let q : record { of = a; by = k } ≡ s = cc in subst (λ (z : Scaled). Contains (a ∷ []) z.of) q (first a [])
scaled_is false (Scale k a) s e = absurd cc
scaled_is only g s e = absurd cc

-- the wire that is multiplied is an earlier one
pub scaled_earlier : (c : Plan) (wire : ℕ) (g : Gate) (s : Scaled) → Earlier c → maker (length c.inputs) c.gates wire ≡ Some g → scaled_where (cell_only c wire) g ≡ Some s → s.of < wire
scaled_earlier c wire g s early m e =
    let k = maker_is (length c.inputs) c.gates wire g m in
    let l = early k.0 g k.2 s.of (scaled_is (cell_only c wire) g s e) in
    let n = k.1 in omega (arith, l, n)

-- ---- whether a product replaces it
pub record IsReplaced (c : Plan) (wire : ℕ) (r : Replacing) : Type 0 where
  pub source_is : source c wire ≡ Some r.of
  pub vector_is : r.product.vector ≡ vector_number c r.of
  pub first_is : r.product.first ≡ first_multiple c r.of

source_of_scale : (c : Plan) (wire k a : ℕ) → maker (length c.inputs) c.gates wire ≡ Some (Scale k a) → source c wire ≡ cond (cell_only c wire && has (chosen c) a) (Some a) None
source_of_scale c wire k a m = ap (source_where (chosen c) (cell_only c wire)) m

source_tested : (c : Plan) (wire k a : ℕ) (only b : Bool) (o : Option ℕ) → maker (length c.inputs) c.gates wire ≡ Some (Scale k a) → cell_only c wire ≡ only → has (chosen c) a ≡ b → cond (only && b) (Some a) None ≡ o → source c wire ≡ o
source_tested c wire k a only b o m l t e =
    source_of_scale c wire k a m ∙ ap (λ x. cond (x && has (chosen c) a) (Some a) None) l ∙ ap (λ x. cond (only && x) (Some a) None) t ∙ e

product_chosen : (c : Plan) (a : ℕ) (b : Bool) → has (chosen c) a ≡ b → product_at c a ≡ cond b (Some (record { vector = vector_number c a; first = first_multiple c a })) None
product_chosen c a b t = ap (λ x. cond x (Some (record { vector = vector_number c a; first = first_multiple c a })) None) t

scale_replaced : (c : Plan) (wire k a : ℕ) (r : Replacing) → maker (length c.inputs) c.gates wire ≡ Some (Scale k a) → replacing c wire (Scale k a) ≡ Some r → IsReplaced c wire r
scale_replaced c wire k a r m e = by_tests (cell_only c wire) (has (chosen c) a) refl refl e
  where
    by_tests : (only b : Bool) → cell_only c wire ≡ only → has (chosen c) a ≡ b → replacing_where c (cond only (Some (record { of = a; by = k })) None) ≡ Some r → IsReplaced c wire r
    by_tests true true l t e =
        let p : Product = record { vector = vector_number c a; first = first_multiple c a } in
        let q : Some (replacing_by a p) ≡ Some r = sym (ap (option_map (replacing_by a)) (product_chosen c a true t)) ∙ e in
        let z : replacing_by a p ≡ r = cc in
        subst (λ (y : Replacing). IsReplaced c wire y) z (record { source_is = source_tested c wire k a true true (Some a) m l t refl; vector_is = refl; first_is = refl })
    by_tests true false l t e = absurd (let q : None ≡ Some r = sym (ap (option_map (replacing_by a)) (product_chosen c a false t)) ∙ e in cc)
    by_tests false b l t e = absurd cc

pub replaced : (c : Plan) (wire : ℕ) (g : Gate) (r : Replacing) → maker (length c.inputs) c.gates wire ≡ Some g → replacing c wire g ≡ Some r → IsReplaced c wire r
replaced c wire (Scale k a) r m e = scale_replaced c wire k a r m e
replaced c wire g r m e = absurd cc

scale_unreplaced : (c : Plan) (wire k a : ℕ) → maker (length c.inputs) c.gates wire ≡ Some (Scale k a) → replacing c wire (Scale k a) ≡ None → source c wire ≡ None
scale_unreplaced c wire k a m e = by_tests (cell_only c wire) (has (chosen c) a) refl refl e
  where
    by_tests : (only b : Bool) → cell_only c wire ≡ only → has (chosen c) a ≡ b → replacing_where c (cond only (Some (record { of = a; by = k })) None) ≡ None → source c wire ≡ None
    by_tests true true l t e =
        let p : Product = record { vector = vector_number c a; first = first_multiple c a } in
        absurd (let q : Some (replacing_by a p) ≡ None = sym (ap (option_map (replacing_by a)) (product_chosen c a true t)) ∙ e in cc)
    by_tests true false l t e = source_tested c wire k a true false None m l t refl
    by_tests false b l t e = source_tested c wire k a false b None m l t refl

pub unreplaced : (c : Plan) (wire : ℕ) (g : Gate) → maker (length c.inputs) c.gates wire ≡ Some g → replacing c wire g ≡ None → source c wire ≡ None
unreplaced c wire (Scale k a) m e = scale_unreplaced c wire k a m e
unreplaced c wire g m e = ap (source_where (chosen c) (cell_only c wire)) m

-- ---- the gate that stands there
name_read : (c : Plan) (names : List ℕ) (wire a : ℕ) → names ≡ map (name c) (range_with_len 0 wire) → a < wire → slice_index names a ≡ name c a
name_read c names wire a e l = ap (λ ns. slice_index ns a) e ∙ get_or-map-range_with_len (name c) 0 wire a a 0 l (omega arith)

gate_at : (c : Plan) (wire : ℕ) (g : Gate) (o : Option ℕ) → source c wire ≡ o → leader c wire ≡ wire → gathered_gate c (wire, g) ≡ Some (gate_where c g o)
gate_at c wire g o s l = ap (λ b. cond b (Some (gate_where c g (source c wire))) None) (eq-eqb (leader c wire) wire l) ∙ ap (λ o. Some (gate_where c g o)) s

pub weigh_stands : (c : Plan) (names : List ℕ) (wire : ℕ) (g : Gate) (r : Replacing) → Earlier c → IsReplaced c wire r → names ≡ map (name c) (range_with_len 0 wire) → r.product.first ≡ wire
    → (gathered_gate c (wire, g) ≡ Some (Weigh r.product.vector (slice_index names r.of))) × (leader c wire ≡ wire)
weigh_stands c names wire g r early i n f =
    let l : leader c wire ≡ wire = leader_of c wire r.of i.source_is ∙ sym i.first_is ∙ f in
    let e = name_read c names wire r.of n (source_earlier c early wire r.of i.source_is) in
    (gate_at c wire g (Some r.of) i.source_is l ∙ ap (λ v. Some (Weigh v (name c r.of))) (sym i.vector_is) ∙ ap (λ a. Some (Weigh r.product.vector a)) (sym e), l)

pub none_stands : (c : Plan) (wire : ℕ) (g : Gate) (r : Replacing) → IsReplaced c wire r → (r.product.first ≡ wire → ⊥) → (gathered_gate c (wire, g) ≡ None) × (leader c wire ≡ r.product.first) × (r.product.first < wire)
none_stands c wire g r i n =
    let l : leader c wire ≡ r.product.first = leader_of c wire r.of i.source_is ∙ sym i.first_is in
    let b = first_below c wire r.of i.source_is in
    let f = i.first_is in
    (ap (λ b. cond b (Some (gate_where c g (source c wire))) None) (ne_eqb (leader c wire) wire (λ q. n (sym l ∙ q))), l, less r.product.first wire (omega (arith, b, f)) n)
  where
    less : (x y : ℕ) → x ≤ y → (x ≡ y → ⊥) → x < y
    less x y l n = elim (cases_lt x y) [ inl h ↦ h | inr g ↦ absurd (n (omega (arith, l, g))) ]

over_same : (f h : ℕ → ℕ) (g : Gate) → ((a : ℕ) → Contains (operands g) a → f a ≡ h a) → over f g ≡ over h g
over_same f h (Neg a) e = ap Neg (e a (first a []))
over_same f h (Add a b) e = ap (λ x. Add x (f b)) (e a (first a (b ∷ []))) ∙ ap (Add (h a)) (e b (second a b))
over_same f h (Sub a b) e = ap (λ x. Sub x (f b)) (e a (first a (b ∷ []))) ∙ ap (Sub (h a)) (e b (second a b))
over_same f h (Mul a b) e = ap (λ x. Mul x (f b)) (e a (first a (b ∷ []))) ∙ ap (Mul (h a)) (e b (second a b))
over_same f h (Relin a) e = ap Relin (e a (first a []))
over_same f h (Scale k a) e = ap (Scale k) (e a (first a []))
over_same f h (Shift k a) e = ap (Shift k) (e a (first a []))
over_same f h (Turn k a) e = ap (Turn k) (e a (first a []))
over_same f h (Weigh k a) e = ap (Weigh k) (e a (first a []))

pub same_stands : (c : Plan) (names : List ℕ) (wire : ℕ) (g : Gate) → Earlier c → maker (length c.inputs) c.gates wire ≡ Some g → source c wire ≡ None → names ≡ map (name c) (range_with_len 0 wire)
    → (gathered_gate c (wire, g) ≡ Some (over (slice_index names) g)) × (leader c wire ≡ wire)
same_stands c names wire g early m s n =
    let l = leader_itself c wire s in
    let k = maker_is (length c.inputs) c.gates wire g m in (
      gate_at c wire g None s l ∙ ap Some (sym (over_same (slice_index names) (name c) g (λ a i.
          let b = early k.0 g k.2 a i in
          let w = k.1 in
          name_read c names wire a n (omega (arith, b, w))))),
      l,
    )
