use Rattle.std.proofs.Common.{◌≡◌, ℕ, zero, suc, ◌+◌, ◌-◌, ◌*◌, ◌%◌, ◌<◌, List, [], ◌∷◌, ◌++◌, refl, arith, length, true, ap, ◌∙◌, sym, get_or, map, length-append}
use Rattle.std.specs.List.{range_with_len}
use Rattle.std.proofs.lemmas.List.{map-append}
use Rattle.std.proofs.lemmas.List.FromFn.{get_or-map-range_with_len}
use Rattle.std.proofs.Math.Nat.{mod-lt}
use Rattle.heco_written.specs.World.{World}
use Rattle.heco_written.specs.ScalarTerm.{ScalarTerm, Number, Sum, Product, Negation, scalar_value}
use Rattle.heco_written.specs.VectorTerm.{VectorTerm, Input, slot_value}
use Rattle.heco_ir.specs.declared.scalar.SNode.{SNode}
use Rattle.heco_ir.specs.declared.scalar.SNode.TheVariants.{Num, Elem, Sum as SumNode, Prod, Neg as NegNode}
use Rattle.heco_ir.specs.declared.vector.VNode.{VNode}
use Rattle.heco_ir.specs.declared.vector.VNode.TheVariants.{Input as InputNode, Neg, Add, Mul, Scale, Shift, Turn}
use Rattle.heco_ir.specs.Values.{all_below, all_earlier, value_over, values}
use Rattle.heco_ir.specs.Arena.{built_from}
use Rattle.heco_ir.specs.Scalars.{scalar_operands, scalar_node_value}
use Rattle.heco_ir.specs.Vectors.{vector_operands, vector_value, each_slot, vector_slots}
use Rattle.heco_ir.specs.Terms.{scalar_at, scalar_term_over, scalar_terms, vector_term_over, vector_terms}
use Rattle.heco_ir.proofs.Built.{left, right, built-at}
use Rattle.heco_ir.proofs.Renaming.{get_or-map-lt}
use Rattle.heco_ir.proofs.Unique.{below_one, below_two}

-- two ways to build from the same nodes
module _ {N C D : Type 0} (ops : N → List ℕ) (one : List C → N → C) (two : List D → N → D) (f : C → D)
    (step : (xs : List C) (n : N) → all_below (length xs) (ops n) ≡ true → two (map f xs) n ≡ f (one xs n)) where
  pub built_from-map : (done : List C) (ns : List N) → all_earlier ops (length done) ns ≡ true → built_from two (map f done) ns ≡ map f (built_from one done ns)
  built_from-map done [] h = refl
  built_from-map done (n ∷ ns) h =
      let e : map f done ++ two (map f done) n ∷ [] ≡ map f (done ++ one done n ∷ []) =
      ap (λ x. map f done ++ x ∷ []) (step done n (left _ _ h)) ∙ sym (map-append f done (one done n ∷ [])) in
      let l : length done + 1 ≡ length (done ++ one done n ∷ []) = sym (length-append done (one done n ∷ [])) in
      ap (λ x. built_from two x ns) e ∙ built_from-map (done ++ one done n ∷ []) ns (rw (← l) (right (all_below (length done) (ops n)) _ h))

range-same : (f g : ℕ → ℕ) (a n : ℕ) → ((k : ℕ) → k < a + n → f k ≡ g k) → map f (range_with_len a n) ≡ map g (range_with_len a n)
range-same f g a zero h = refl
range-same f g a (suc n) h = ap (λ x. x ∷ map f (range_with_len (a + 1) n)) (h a (omega arith)) ∙ ap (λ xs. g a ∷ xs) (range-same f g (a + 1) n (λ k l. h k (omega arith)))

pub each_slot-same : (w : World) (f g : ℕ → ℕ) → ((k : ℕ) → k < w.slots → f k ≡ g k) → each_slot w f ≡ each_slot w g
each_slot-same w f g h = range-same f g 0 w.slots (λ k l. h k (omega arith))

module _ (w : World) where
  slot_at : (xs : List VectorTerm) (i j : ℕ) → i < length xs → j < w.slots → get_or (get_or (map (vector_slots w) xs) i []) j 0 ≡ slot_value w (get_or xs i (Input 0)) j
  slot_at xs i j hi hj =
      ap (λ s. get_or s j 0) (get_or-map-lt (vector_slots w) xs i (Input 0) [] hi)
      ∙ get_or-map-range_with_len (slot_value w (get_or xs i (Input 0))) 0 w.slots j j 0 hj (omega arith)

  vector_step : (xs : List VectorTerm) (n : VNode) → all_below (length xs) (vector_operands n) ≡ true
      → value_over vector_operands vector_value w (map (vector_slots w) xs) n ≡ vector_slots w (vector_term_over xs n)
  vector_step xs (InputNode a) h = refl
  vector_step xs (Neg v) h = each_slot-same w _ _ (λ j l. ap (λ k. (w.modulus - k) % w.modulus) (slot_at xs v.0 j (below_one (length xs) v.0 [] h) l))
  vector_step xs (Add v u) h = each_slot-same w _ _ (λ j l.
      ap (λ k. (k + get_or (get_or (map (vector_slots w) xs) u.0 []) j 0) % w.modulus) (slot_at xs v.0 j (below_one (length xs) v.0 (u.0 ∷ []) h) l)
      ∙ ap (λ k. (slot_value w (get_or xs v.0 (Input 0)) j + k) % w.modulus) (slot_at xs u.0 j (below_two (length xs) v.0 u.0 h) l))
  vector_step xs (Mul v u) h = each_slot-same w _ _ (λ j l.
      ap (λ k. (k * get_or (get_or (map (vector_slots w) xs) u.0 []) j 0) % w.modulus) (slot_at xs v.0 j (below_one (length xs) v.0 (u.0 ∷ []) h) l)
      ∙ ap (λ k. (slot_value w (get_or xs v.0 (Input 0)) j * k) % w.modulus) (slot_at xs u.0 j (below_two (length xs) v.0 u.0 h) l))
  vector_step xs (Scale c v) h = each_slot-same w _ _ (λ j l. ap (λ k. (c * k) % w.modulus) (slot_at xs v.0 j (below_one (length xs) v.0 [] h) l))
  vector_step xs (Shift c v) h = each_slot-same w _ _ (λ j l. ap (λ k. (k + c) % w.modulus) (slot_at xs v.0 j (below_one (length xs) v.0 [] h) l))
  vector_step xs (Turn r v) h = each_slot-same w _ _ (λ j l. slot_at xs v.0 ((j + r) % w.slots) (below_one (length xs) v.0 [] h) (mod-lt _ (omega arith)))

  -- a vector node's value is its term's slots
  pub vector_values : (ns : List VNode) → all_earlier vector_operands 0 ns ≡ true → values vector_operands vector_value w ns ≡ map (vector_slots w) (vector_terms ns)
  vector_values ns h =
      built_from-map vector_operands vector_term_over (value_over vector_operands vector_value w) (vector_slots w) vector_step [] ns h

  scalar_step : (xs : List ScalarTerm) (n : SNode) → all_below (length xs) (scalar_operands n) ≡ true
      → value_over scalar_operands scalar_node_value w (map (λ x. scalar_value w x ∷ []) xs) n ≡ scalar_value w (scalar_term_over xs n) ∷ []
  scalar_step xs (Num c) h = refl
  scalar_step xs (Elem a i) h = refl
  scalar_step xs (SumNode x y) h =
      rw (get_or-map-lt (λ x. scalar_value w x ∷ []) xs x.0 (Number 0) [] (below_one (length xs) x.0 (y.0 ∷ []) h), get_or-map-lt (λ x. scalar_value w x ∷ []) xs y.0 (Number 0) [] (below_two (length xs) x.0 y.0 h)) refl
  scalar_step xs (Prod x y) h =
      rw (get_or-map-lt (λ x. scalar_value w x ∷ []) xs x.0 (Number 0) [] (below_one (length xs) x.0 (y.0 ∷ []) h), get_or-map-lt (λ x. scalar_value w x ∷ []) xs y.0 (Number 0) [] (below_two (length xs) x.0 y.0 h)) refl
  scalar_step xs (NegNode x) h = rw (get_or-map-lt (λ x. scalar_value w x ∷ []) xs x.0 (Number 0) [] (below_one (length xs) x.0 [] h)) refl

  -- a scalar node's value is its term's
  pub scalar_values : (ns : List SNode) → all_earlier scalar_operands 0 ns ≡ true → values scalar_operands scalar_node_value w ns ≡ map (λ x. scalar_value w x ∷ []) (scalar_terms ns)
  scalar_values ns h =
      built_from-map scalar_operands scalar_term_over (value_over scalar_operands scalar_node_value w) (λ x. scalar_value w x ∷ []) scalar_step [] ns h

pub scalar_local : (xs ys : List ScalarTerm) (n : SNode) → all_below (length xs) (scalar_operands n) ≡ true
    → ((k : ℕ) → k < length xs → get_or ys k (Number 0) ≡ get_or xs k (Number 0)) → scalar_term_over ys n ≡ scalar_term_over xs n
scalar_local xs ys (Num c) h s = refl
scalar_local xs ys (Elem a i) h s = refl
scalar_local xs ys (SumNode x y) h s =
    ap (λ k. Sum k (scalar_at ys y)) (s x.0 (below_one (length xs) x.0 (y.0 ∷ []) h)) ∙ ap (Sum (scalar_at xs x)) (s y.0 (below_two (length xs) x.0 y.0 h))
scalar_local xs ys (Prod x y) h s =
    ap (λ k. Product k (scalar_at ys y)) (s x.0 (below_one (length xs) x.0 (y.0 ∷ []) h)) ∙ ap (Product (scalar_at xs x)) (s y.0 (below_two (length xs) x.0 y.0 h))
scalar_local xs ys (NegNode x) h s = ap Negation (s x.0 (below_one (length xs) x.0 [] h))

pub scalar_terms-at : (ns : List SNode) (k : ℕ) (e : SNode) → all_earlier scalar_operands 0 ns ≡ true → k < length ns
    → get_or (scalar_terms ns) k (Number 0) ≡ scalar_term_over (scalar_terms ns) (get_or ns k e)
scalar_terms-at ns k e = built-at scalar_term_over scalar_operands (Number 0) scalar_local ns k e
