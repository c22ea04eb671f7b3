-- One more node, of scalar nodes without numbers.
use Rattle.std.proofs.Common.{◌≡◌, ℕ, ◌+◌, ◌<◌, ◌≤◌, List, [], ◌∷◌, ◌++◌, refl, arith, true, false, get_or, length-append, inl, inr}
use Rattle.std.proofs.lemmas.Bool.{lt-ltb}
use Rattle.std.proofs.lemmas.Option.{slice_get-get_or}
use Rattle.std.proofs.lemmas.List.Elements.{Contains-append_cases}
use Rattle.heco_written.specs.ScalarTerm.{ScalarTerm, Number, Sum as SumTerm, Product, Negation, IsMade, element, sum, product, negation, is_number, sum_of, product_of, negation_of}
use Rattle.heco_ir.specs.declared.scalar.SNode.{SNode}
use Rattle.heco_ir.specs.declared.scalar.SNode.TheVariants.{Num, Elem, Sum, Prod, Neg}
use Rattle.heco_ir.specs.Values.{all_below}
use Rattle.heco_ir.specs.Scalars.{scalar_operands}
use Rattle.heco_ir.specs.Terms.{scalar_terms, scalar_term_over, scalar_at}
use Rattle.heco_ir.proofs.Built.{both, built-push, length-built}
use Rattle.heco_ir.proofs.OneMore.{at_end, is_only}
use Rattle.heco_ir.specs.Unrolled.{AllMade, operation}
use Rattle.heco_batch.specs.Plain.{IsPlain, ArePlain}
use Rattle.heco_batch.proofs.TableRead.{operations-append}

pub plain_none : (modulus slots : ℕ) → ArePlain modulus slots 0 []
plain_none modulus slots = record {
  many = refl;
  most = omega arith;
  made = λ k x e. cc;
  elements = λ a i c. absurd (omega (arith, c.1));
  few = omega arith;
}

whole_sum : (modulus : ℕ) (x y : ScalarTerm) → is_number x ≡ false → is_number y ≡ false → SumTerm x y ≡ sum_of modulus x y
whole_sum modulus (Number c) y h k = cc
whole_sum modulus x (Number d) h k = cc
whole_sum modulus x y h k = refl

whole_product : (modulus : ℕ) (x y : ScalarTerm) → is_number x ≡ false → is_number y ≡ false → Product x y ≡ product_of modulus x y
whole_product modulus (Number c) y h k = cc
whole_product modulus x (Number d) h k = cc
whole_product modulus x y h k = refl

whole_negation : (modulus : ℕ) (x : ScalarTerm) → is_number x ≡ false → Negation x ≡ negation_of modulus x
whole_negation modulus (Number c) h = cc
whole_negation modulus x h = refl

pub plain_operands : (slots count : ℕ) (n : SNode) → IsPlain slots count n → all_below count (scalar_operands n) ≡ true
plain_operands slots count (Num c) h = refl
plain_operands slots count (Elem a i) h = refl
plain_operands slots count (Sum x y) h = both _ _ (lt-ltb _ _ h.0) (both _ _ (lt-ltb _ _ h.1) refl)
plain_operands slots count (Prod x y) h = both _ _ (lt-ltb _ _ h.0) (both _ _ (lt-ltb _ _ h.1) refl)
plain_operands slots count (Neg x) h = both _ _ (lt-ltb _ _ h) refl

operation-most : (n : SNode) → operation n ≤ 1
operation-most (Num c) = omega arith
operation-most (Elem a i) = omega arith
operation-most n = omega arith

module _ {modulus slots count : ℕ} {ns : List SNode} (h : ArePlain modulus slots count ns) where
  at_operand : (x : ℕ) → x < count → IsMade modulus slots (get_or (scalar_terms ns) x (Number 0)) × (is_number (get_or (scalar_terms ns) x (Number 0)) ≡ false)
  at_operand x l = h.made x (get_or (scalar_terms ns) x (Number 0)) (slice_get-get_or (scalar_terms ns) x (Number 0) (omega (arith, h.many, length-built scalar_term_over ns)))

  term_made : (n : SNode) → IsPlain slots count n → IsMade modulus slots (scalar_term_over (scalar_terms ns) n) × (is_number (scalar_term_over (scalar_terms ns) n) ≡ false)
  term_made (Num c) p = absurd p
  term_made (Elem a i) p = (element a i p.1, refl)
  term_made (Sum x y) p =
      let (f, g) = at_operand x.0 p.0 in
      let (f2, g2) = at_operand y.0 p.1 in
      (sum (scalar_at (scalar_terms ns) x) (scalar_at (scalar_terms ns) y) (SumTerm (scalar_at (scalar_terms ns) x) (scalar_at (scalar_terms ns) y)) f f2 (whole_sum modulus (scalar_at (scalar_terms ns) x) (scalar_at (scalar_terms ns) y) g g2), refl)
  term_made (Prod x y) p =
      let (f, g) = at_operand x.0 p.0 in
      let (f2, g2) = at_operand y.0 p.1 in
      (product (scalar_at (scalar_terms ns) x) (scalar_at (scalar_terms ns) y) (Product (scalar_at (scalar_terms ns) x) (scalar_at (scalar_terms ns) y)) f f2 (whole_product modulus (scalar_at (scalar_terms ns) x) (scalar_at (scalar_terms ns) y) g g2), refl)
  term_made (Neg x) p =
      let (f, g) = at_operand x.0 p in
      (negation (scalar_at (scalar_terms ns) x) (Negation (scalar_at (scalar_terms ns) x)) f (whole_negation modulus (scalar_at (scalar_terms ns) x) g), refl)

  element_below : (n : SNode) (a i : ℕ) → IsPlain slots count n → n ≡ Elem a i → a < 256
  element_below (Num c) a i p e = cc
  element_below (Elem b j) a i p e = let same : b ≡ a = cc in omega (arith, p.0)
  element_below (Sum x y) a i p e = cc
  element_below (Prod x y) a i p e = cc
  element_below (Neg x) a i p e = cc

  pub plain_push : (n : SNode) → IsPlain slots count n → count < 524288 → ArePlain modulus slots (count + 1) (ns ++ n ∷ [])
  plain_push n p room = record {
    many = omega (arith, h.many, length-append ns (n ∷ []));
    most = omega arith;
    made = λ k x e.
        elim (at_end (scalar_terms ns) (scalar_term_over (scalar_terms ns) n) k x (rw (built-push scalar_term_over ns n) at e)) [
          | inl a ↦ h.made k x a
          | inr b ↦ rw (b.1) (term_made n p)
        ];
    elements = λ a i c.
        elim (Contains-append_cases ns (n ∷ []) (Elem a i) c) [
          | inl b ↦ h.elements a i b
          | inr b ↦ element_below n a i p (is_only n (Elem a i) b)
        ];
    few = omega (arith, h.few, operations-append ns n, operation-most n);
  }

  pub plain_made : AllMade modulus slots (scalar_terms ns)
  plain_made k x e = (h.made k x e).0
