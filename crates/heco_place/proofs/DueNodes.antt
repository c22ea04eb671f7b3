-- Where a product is used, some relinearisation is due; and only where there is one.
use Rattle.std.proofs.Common.{◌≡◌, ℕ, zero, suc, ◌<◌, Bool, true, false, ◌||◌, eqb, List, [], ◌∷◌, ◌++◌, Some, length, refl, sym, ap, ◌∙◌, get_or, inl, inr, arith}
use Rattle.std.specs.Prelude.{slice_get}
use Rattle.std.specs.List.{list_any}
use Rattle.std.proofs.lemmas.Bool.{eq-eqb}
use Rattle.heco_written.specs.VectorTerm.{VectorTerm, Input, Negated, Added, Multiplied, Scaled, Shifted, Turned}
use Rattle.heco_written.specs.Cost.{subterms, is_long, is_due}
use Rattle.heco_written.specs.Needs.{is_product}
use Rattle.heco_written.proofs.Members.{Member, member-append_left, member-append_right, contains-member}
use Rattle.heco_written.proofs.Parts.{subterms-itself}
use Rattle.heco_ir.specs.declared.vector.VNode.{VNode}
use Rattle.heco_ir.specs.declared.vector.VNode.TheVariants.{Input as InputNode, Neg, Add, Mul, Scale, Shift, Turn}
use Rattle.heco_ir.specs.Values.{all_below, all_earlier}
use Rattle.heco_ir.specs.Vectors.{vector_operands}
use Rattle.heco_ir.specs.Used.{EachOnce, IsUsed, root, operand, AllUsed}
use Rattle.heco_ir.specs.Terms.{vector_terms, terms_at}
use Rattle.heco_ir.proofs.Unique.{covered}
use Rattle.heco_place.specs.inside.Dues.{takes, is_taken}
use Rattle.heco_place.specs.Kinds.{is_relinearised}
use Rattle.heco_place.proofs.Bools.{left, or_left, or_right, equal}
use Rattle.heco_place.proofs.NodeTerms.{length-vector_terms, is_node, term_is}
use Rattle.heco_place.proofs.NodeGates.{any_at}
use Rattle.heco_place.proofs.Marks.{taken_is}

any_in : {X : Type 0} (p : X → Bool) (xs : List X) (k : ℕ) (x : X) → slice_get xs k ≡ Some x → p x ≡ true → list_any p xs ≡ true
any_in p [] k x h e = absurd cc
any_in p (y ∷ xs) zero x h e = let same : y ≡ x = cc in rw (same, e) refl
any_in p (y ∷ xs) (suc k) x h e = by (p y) (any_in p xs k x h e)
  where
    by : (b : Bool) → list_any p xs ≡ true → (b || list_any p xs) ≡ true
    by true f = refl
    by false f = f

any_member : (k : ℕ) (xs : List ℕ) → Member k xs → list_any (eqb k) xs ≡ true
any_member k [] m = absurd m
any_member k (x ∷ xs) (inl e) = rw (eq-eqb k x e) refl
any_member k (x ∷ xs) (inr m) = by (eqb k x) (any_member k xs m)
  where
    by : (b : Bool) → list_any (eqb k) xs ≡ true → (b || list_any (eqb k) xs) ≡ true
    by true f = refl
    by false f = f

-- some member that passes
any_some : (p : VectorTerm → Bool) (xs : List VectorTerm) → list_any p xs ≡ true → (k : ℕ) × (k < length xs) × (p (get_or xs k (Input 0)) ≡ true)
any_some p [] h = absurd cc
any_some p (y ∷ xs) h = by (p y) refl h (any_some p xs)
  where
    by : (b : Bool) → p y ≡ b → (b || list_any p xs) ≡ true → (list_any p xs ≡ true → (k : ℕ) × (k < length xs) × (p (get_or xs k (Input 0)) ≡ true))
        → (k : ℕ) × (k < length (y ∷ xs)) × (p (get_or (y ∷ xs) k (Input 0)) ≡ true)
    by true e g rest = (0, omega arith, e)
    by false e g rest = let (k, l, f) = rest g in (suc k, omega arith, f)

-- a product within a long term
abbrev HasProduct : VectorTerm → Type 0
HasProduct v = (u : VectorTerm) × Member u (subterms v) × (is_product u ≡ true)

within : (v top : VectorTerm) (ws : List VectorTerm) → ((u : VectorTerm) → Member u (subterms v) → Member u ws) → HasProduct v → (u : VectorTerm) × Member u (ws ++ top ∷ []) × (is_product u ≡ true)
within v top ws into (u, m, e) = (u, member-append_left u ws (top ∷ []) (into u m), e)

long_product : (v : VectorTerm) → is_long v ≡ true → HasProduct v
long_product (Input a) h = absurd cc
long_product (Negated v) h = within v (Negated v) (subterms v) (λ u m. m) (long_product v h)
long_product (Added v u) h = by (is_long v) refl h (λ e. long_product v e) (λ e. long_product u e)
  where
    by : (b : Bool) → is_long v ≡ b → (b || is_long u) ≡ true → (is_long v ≡ true → HasProduct v) → (is_long u ≡ true → HasProduct u) → HasProduct (Added v u)
    by true e g left right = within v (Added v u) (subterms v ++ subterms u) (λ x m. member-append_left x (subterms v) (subterms u) m) (left e)
    by false e g left right = within u (Added v u) (subterms v ++ subterms u) (λ x m. member-append_right x (subterms v) (subterms u) m) (right g)
long_product (Multiplied v u) h = (Multiplied v u, subterms-itself (Multiplied v u), refl)
long_product (Scaled c v) h = within v (Scaled c v) (subterms v) (λ u m. m) (long_product v h)
long_product (Shifted c v) h = within v (Shifted c v) (subterms v) (λ u m. m) (long_product v h)
long_product (Turned r v) h = absurd cc

product_long : (v : VectorTerm) → is_product v ≡ true → is_long v ≡ true
product_long (Multiplied v u) h = refl
product_long (Input a) h = absurd cc
product_long (Negated v) h = absurd cc
product_long (Added v u) h = absurd cc
product_long (Scaled c v) h = absurd cc
product_long (Shifted c v) h = absurd cc
product_long (Turned r v) h = absurd cc

module _ (ns : List VNode) (roots : List ℕ) (earlier : all_earlier vector_operands 0 ns ≡ true) (once : EachOnce ns) (inside : all_below (length ns) roots ≡ true) where
  abbrev ts : List VectorTerm
  ts = vector_terms ns

  abbrev vs : List VectorTerm
  vs = terms_at ns roots

  abbrev term : ℕ → VectorTerm
  term k = get_or ts k (Input 0)

  abbrev SomeDue : Type 0
  SomeDue = (k : ℕ) × (k < length ns) × (is_due ts vs (term k) ≡ true)

  taken_due : (k : ℕ) → k < length ns → is_long (term k) ≡ true → is_taken ns roots k ≡ true → SomeDue
  taken_due k l h t = (k, l, rw (h, sym (taken_is ns roots earlier once inside k l) ∙ t) refl)

  -- from a long node up to where it is turned, multiplied or a root
  found : (i : ℕ) → IsUsed vector_operands ns roots i → i < length ns → is_long (term i) ≡ true → SomeDue
  found i (root i2 c) l h = taken_due i2 l h (or_right (list_any (takes i2) ns) _ (any_member i2 roots (contains-member i2 roots c)))
  found i (operand i2 j n u e c) l h = up n e (contains-member i2 (vector_operands n) c) (found j u (is_node ns earlier j n e))
    where
      taken_by : (m : VNode) → slice_get ns j ≡ Some m → takes i2 m ≡ true → SomeDue
      taken_by m f t = taken_due i2 l h (or_left _ _ (any_in (takes i2) ns j m f t))

      up : (m : VNode) → slice_get ns j ≡ Some m → Member i2 (vector_operands m) → (is_long (term j) ≡ true → SomeDue) → SomeDue
      up (InputNode a) f m rest = absurd m
      up (Neg v) f (inl g) rest = rest (ap is_long (term_is ns earlier j (Neg v) f) ∙ ap (λ k. is_long (term k)) (sym g) ∙ h)
      up (Neg v) f (inr m) rest = absurd m
      up (Add v w) f (inl g) rest = rest (ap is_long (term_is ns earlier j (Add v w) f) ∙ or_left _ _ (ap (λ k. is_long (term k)) (sym g) ∙ h))
      up (Add v w) f (inr (inl g)) rest = rest (ap is_long (term_is ns earlier j (Add v w) f) ∙ or_right (is_long (term v.0)) _ (ap (λ k. is_long (term k)) (sym g) ∙ h))
      up (Add v w) f (inr (inr m)) rest = absurd m
      up (Mul v w) f (inl g) rest = taken_by (Mul v w) f (or_left _ _ (eq-eqb i2 v.0 g))
      up (Mul v w) f (inr (inl g)) rest = taken_by (Mul v w) f (or_right (eqb i2 v.0) _ (eq-eqb i2 w.0 g))
      up (Mul v w) f (inr (inr m)) rest = absurd m
      up (Scale c v) f (inl g) rest = rest (ap is_long (term_is ns earlier j (Scale c v) f) ∙ ap (λ k. is_long (term k)) (sym g) ∙ h)
      up (Scale c v) f (inr m) rest = absurd m
      up (Shift c v) f (inl g) rest = rest (ap is_long (term_is ns earlier j (Shift c v) f) ∙ ap (λ k. is_long (term k)) (sym g) ∙ h)
      up (Shift c v) f (inr m) rest = absurd m
      up (Turn r v) f (inl g) rest = taken_by (Turn r v) f (eq-eqb i2 v.0 g)
      up (Turn r v) f (inr m) rest = absurd m

  due_product : list_any (is_due ts vs) ts ≡ true → list_any is_product ts ≡ true
  due_product e =
      let (k, l, d) = any_some (is_due ts vs) ts e in
      let (u, m, q) = long_product (term k) (left (is_long (term k)) _ d) in
      let (j, g, f) = covered ns earlier once (term k) u k (omega (arith, length-vector_terms ns)) refl m in
      any_at is_product ts j (Input 0) (omega (arith, length-vector_terms ns)) (ap is_product f ∙ q)

  product_due : AllUsed vector_operands ns roots → list_any is_product ts ≡ true → list_any (is_due ts vs) ts ≡ true
  product_due used e =
      let (k, l, q) = any_some is_product ts e in
      let h : k < length ns = omega (arith, length-vector_terms ns) in
      let (j, g, d) = found k (used k h) h (product_long (term k) q) in
      any_at (is_due ts vs) ts j (Input 0) (omega (arith, length-vector_terms ns)) d

  -- relinearisations stand exactly where there are products
  pub relin_product : (late : Bool) → AllUsed vector_operands ns roots → list_any (is_relinearised late ts vs) ts ≡ list_any is_product ts
  relin_product true used = equal _ _ due_product (product_due used)
  relin_product false used = refl
