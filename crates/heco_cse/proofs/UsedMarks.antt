-- Marks that go down the nodes reach what roots use.
use Rattle.std.proofs.Common.{◌≡◌, ℕ, zero, suc, ◌+◌, ◌<◌, List, length, ap, sym, ◌∙◌, arith, Bool, true, false, ◌⊎◌, inl, inr, get_or, replicate}
use Rattle.std.specs.Prelude.{Some, slice_get, Contains, ◌↔◌}
use native.Mathlib.Decide.{dec_lt}
use Rattle.heco_ir.specs.declared.vector.VNode.{VNode}
use Rattle.heco_ir.specs.Values.{all_below, all_earlier}
use Rattle.heco_ir.specs.Vectors.{vector_operands}
use Rattle.heco_ir.specs.Used.{IsUsed, root, operand}
use Rattle.heco_ir.proofs.Built.{slice_get_below}
use Rattle.heco_ir.proofs.Means.{earlier_at}
use Rattle.heco_ir.proofs.Renaming.{below_at}
use Rattle.heco_cse.specs.Dead.{Marks}
use Rattle.heco_cse.proofs.Marking.{other_default}

no_true : (n j : ℕ) → slice_get (replicate n false) j ≡ Some true → ⊥
no_true zero j h = cc
no_true (suc n) zero h = cc
no_true (suc n) (suc j) h = no_true n j h

module _ (nodes : List VNode) (roots : List ℕ) where
  pub marks_start : (old marks : List Bool) (ids : List ℕ) → length marks ≡ length nodes → old ≡ replicate (length nodes) false → ids ≡ roots
      → ((j : ℕ) → (slice_get marks j ≡ Some true) ↔ ((slice_get old j ≡ Some true) ⊎ Contains ids j)) → Marks nodes roots (length nodes) marks
  marks_start old marks ids count e f h = record {
    count = count;
    sound = λ j m.
        elim ((h j).0 m) [
          | inl a ↦ absurd (no_true (length nodes) j (rw e at a))
          | inr c ↦ root j (rw f at c)
        ];
    at_roots = λ r c. (h r).1 (inr (rw (← f) at c));
    closed = λ j o n le g m c. let (l, t) = slice_get_below nodes j n n g in absurd (omega arith);
  }

  operand_below : (i o : ℕ) (n : VNode) → all_earlier vector_operands 0 nodes ≡ true → slice_get nodes i ≡ Some n → Contains (vector_operands n) o → o < i
  operand_below i o n earlier g (k, l, e) =
      let (li, t) = slice_get_below nodes i n n g in
      let z : 0 + i ≡ i = omega arith in
      let b : all_below i (vector_operands n) ≡ true = rw (z, t) at (earlier_at vector_operands 0 i nodes n earlier li) in
      let s : get_or (vector_operands n) k 0 < i = below_at i (vector_operands n) k b l in
      let f : get_or (vector_operands n) k 0 ≡ o = other_default (vector_operands n) k 0 o l ∙ e in
      omega arith

  -- the operands of a marked node are marked
  pub marks_next : {i : ℕ} {marks marks2 : List Bool} (n : VNode) → Marks nodes roots (i + 1) marks → all_earlier vector_operands 0 nodes ≡ true → slice_get nodes i ≡ Some n
      → slice_get marks i ≡ Some true → length marks2 ≡ length marks
      → ((j : ℕ) → (slice_get marks2 j ≡ Some true) ↔ ((slice_get marks j ≡ Some true) ⊎ Contains (vector_operands n) j)) → Marks nodes roots i marks2
  marks_next {i} {marks} {marks2} n m earlier g here count h = record {
    count = count ∙ m.count;
    sound = λ j s. elim ((h j).0 s) [ inl a ↦ m.sound j a | inr c ↦ operand j i n (m.sound i here) g c ];
    at_roots = λ r c. (h r).1 (inl (m.at_roots r c));
    closed = λ j o k le e s c.
        elim (dec_lt i j) [
          | Prim.yes l ↦ (h o).1 (inl (m.closed j o k (omega arith) e (above j l ((h j).0 s)) c))
          | Prim.no l ↦
              let same : j ≡ i = omega arith in
              let node : Some k ≡ Some n = sym e ∙ ap (slice_get nodes) same ∙ g in
              let one : k ≡ n = cc in
              (h o).1 (inr (rw one at c))
        ];
  }
    where
      above : (j : ℕ) → i < j → (slice_get marks j ≡ Some true) ⊎ Contains (vector_operands n) j → slice_get marks j ≡ Some true
      above j l (inl a) = a
      above j l (inr c) = let low : j < i = operand_below i j n earlier g c in absurd (omega arith)

  pub marks_skip : {i : ℕ} {marks : List Bool} → Marks nodes roots (i + 1) marks → (slice_get marks i ≡ Some true → ⊥) → Marks nodes roots i marks
  marks_skip {i} {marks} m unmarked = record {
    count = m.count;
    sound = m.sound;
    at_roots = m.at_roots;
    closed = λ j o k le e s c.
        elim (dec_lt i j) [
          | Prim.yes l ↦ m.closed j o k (omega arith) e s c
          | Prim.no l ↦ let same : j ≡ i = omega arith in absurd (unmarked (rw same at s))
        ];
  }

  -- what roots use is marked in the end
  pub marked_used : {marks : List Bool} → Marks nodes roots 0 marks → (i : ℕ) → IsUsed vector_operands nodes roots i → slice_get marks i ≡ Some true
  marked_used m i (root i2 c) = m.at_roots i2 c
  marked_used m i (operand i2 j n u e c) = m.closed j i2 n (omega arith) e (marked_used m j u) c
