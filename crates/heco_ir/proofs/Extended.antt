use Rattle.std.proofs.Common.{◌≡◌, ℕ, ◌+◌, ◌<◌, ◌≤◌, List, [], ◌++◌, arith, length, true, ap, ◌∙◌, sym, get_or, length-append, ◌⊎◌, inl, inr, ◌∷◌}
use Rattle.std.specs.Prelude.{slice_get, Some}
use Rattle.std.proofs.lemmas.List.{append_assoc, append-nil}
use Rattle.heco_written.specs.VectorTerm.{VectorTerm, Input}
use Rattle.heco_ir.specs.declared.vector.VNode.{VNode}
use Rattle.heco_ir.specs.Values.{all_below, all_earlier}
use Rattle.heco_ir.specs.Vectors.{vector_operands}
use Rattle.heco_ir.specs.declared.vector.VNode.TheVariants.{Input as InputNode, Mul}
use Rattle.heco_ir.specs.declared.scalar.SNode.{SNode}
use Rattle.heco_ir.specs.Ranges.{Fits, AllFit, node_gates, gates_of_nodes}
use Rattle.heco_ir.specs.Terms.{vector_term_over, vector_terms, HasTerm, Extends, weight, total_weight}
use Rattle.heco_ir.proofs.Built.{built-stands, length-built, slice_get_below}
use Rattle.heco_ir.proofs.Unique.{vector_local, vector_terms-at}

pub total_weight-append : (xs ys : List VNode) → total_weight (xs ++ ys) ≡ total_weight xs + total_weight ys
total_weight-append [] ys = omega arith
total_weight-append (x ∷ xs) ys = omega (arith, total_weight-append xs ys)

weight-some : (n : VNode) → 1 ≤ weight n
weight-some (Mul v u) = omega arith
weight-some n = omega arith

length-total_weight : (xs : List VNode) → length xs ≤ total_weight xs
length-total_weight [] = omega arith
length-total_weight (x ∷ xs) = omega (arith, length-total_weight xs, weight-some x)

pub gates_of_nodes-append : (xs ys : List VNode) → gates_of_nodes (xs ++ ys) ≡ gates_of_nodes xs + gates_of_nodes ys
gates_of_nodes-append [] ys = omega arith
gates_of_nodes-append (x ∷ xs) ys = omega (arith, gates_of_nodes-append xs ys)

node_gates-weight : (n : VNode) → node_gates n ≤ weight n
node_gates-weight (InputNode a) = omega arith
node_gates-weight (Mul v u) = omega arith
node_gates-weight n = omega arith

gates_of_nodes-weight : (xs : List VNode) → gates_of_nodes xs ≤ total_weight xs
gates_of_nodes-weight [] = omega arith
gates_of_nodes-weight (x ∷ xs) = omega (arith, gates_of_nodes-weight xs, node_gates-weight x)

pub extends_gates : {m : ℕ} {a b : List VNode} → Extends m a b → gates_of_nodes b ≤ gates_of_nodes a + m
extends_gates {m} {a} {b} h =
    omega (arith, ap gates_of_nodes h.is, gates_of_nodes-append a h.added, gates_of_nodes-weight h.added, h.few)

-- one node more that is no product, or none
pub extends_one : (a b : List VNode) (n : VNode) → (b ≡ a) ⊎ (b ≡ a ++ n ∷ []) → Extends (weight n) a b
extends_one a b n (inl e) = record { added = []; is = e ∙ sym (append-nil a); few = omega arith }
extends_one a b n (inr e) = record { added = n ∷ []; is = e; few = omega arith }

pub gates-input : (a b : List VNode) (x : ℕ) → (b ≡ a) ⊎ (b ≡ a ++ InputNode x ∷ []) → gates_of_nodes b ≡ gates_of_nodes a
gates-input a b x (inl e) = ap gates_of_nodes e
gates-input a b x (inr e) = omega (arith, ap gates_of_nodes e, gates_of_nodes-append a (InputNode x ∷ []))

pub all_fit-append : (slots modulus : ℕ) (es : List SNode) (ns : List VNode) (n : VNode) → AllFit slots modulus es ns → Fits slots modulus es n → AllFit slots modulus es (ns ++ n ∷ [])
all_fit-append slots modulus es [] n h f = (f, tt)
all_fit-append slots modulus es (x ∷ ns) n h f = (h.0, all_fit-append slots modulus es ns n h.1 f)

pub all_fit-one : (slots modulus : ℕ) (es : List SNode) (a b : List VNode) (n : VNode) → (b ≡ a) ⊎ (b ≡ a ++ n ∷ []) → Fits slots modulus es n
    → AllFit slots modulus es a → AllFit slots modulus es b
all_fit-one slots modulus es a b n (inl e) f h = rw e h
all_fit-one slots modulus es a b n (inr e) f h = rw e (all_fit-append slots modulus es a n h f)

pub extends_none : (ns : List VNode) → Extends 0 ns ns
extends_none ns = record { added = []; is = sym (append-nil ns); few = omega arith }

pub extends_more : {m k : ℕ} {a b c : List VNode} → Extends m a b → Extends k b c → Extends (m + k) a c
extends_more {m} {k} {a} {b} {c} g h = record {
  added = g.added ++ h.added;
  is = h.is ∙ ap (λ x. x ++ h.added) g.is ∙ append_assoc a g.added h.added;
  few = omega (arith, total_weight-append g.added h.added, g.few, h.few);
}

pub extends_weaken : {m : ℕ} {a b : List VNode} (k : ℕ) → m ≤ k → Extends m a b → Extends k a b
extends_weaken k l h = record { added = h.added; is = h.is; few = omega (arith, h.few) }

pub extends_length : {m : ℕ} {a b : List VNode} → Extends m a b → (length a ≤ length b) × (length b ≤ length a + m)
extends_length {m} {a} {b} h = let e : length b ≡ length a + length h.added = ap length h.is ∙ length-append a h.added in (omega arith, omega (arith, h.few, length-total_weight h.added))

pub term_stands : {m : ℕ} {a b : List VNode} (i : ℕ) → Extends m a b → i < length a → get_or (vector_terms b) i (Input 0) ≡ get_or (vector_terms a) i (Input 0)
term_stands {m} {a} {b} i h l = ap (λ x. get_or (vector_terms x) i (Input 0)) h.is ∙ built-stands vector_term_over a h.added i (Input 0) l

pub has_term_stands : {m : ℕ} {a b : List VNode} {i : ℕ} {x : VectorTerm} → Extends m a b → HasTerm a i x → HasTerm b i x
has_term_stands {m} {a} {b} {i} {x} h t = record { within = omega (arith, t.within, (extends_length h).0); is = term_stands i h t.within ∙ t.is }

-- a node that is put has its term over the old ones
pub put_term : {m : ℕ} (a b : List VNode) (i : ℕ) (n : VNode) → Extends m a b → all_earlier vector_operands 0 b ≡ true
    → all_below (length a) (vector_operands n) ≡ true → slice_get b i ≡ Some n → HasTerm b i (vector_term_over (vector_terms a) n)
put_term a b i n h earlier below e =
    let (l, f) = slice_get_below b i n n e in
    record {
      within = l;
      is = vector_terms-at b i n earlier l ∙ ap (vector_term_over (vector_terms b)) f
          ∙ vector_local (vector_terms a) (vector_terms b) n (ap (λ k. all_below k (vector_operands n)) (length-built vector_term_over a) ∙ below)
          (λ k lt. term_stands k h (omega (arith, length-built vector_term_over a)));
    }
