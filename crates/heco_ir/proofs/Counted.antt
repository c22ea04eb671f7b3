use Rattle.std.proofs.Common.{◌≡◌, ℕ, ◌-◌, List, [], ◌∷◌, refl, arith, length, true, ap, ◌∙◌, sym, get_or, map, nat_lt, inl, inr}
use Rattle.std.specs.List.{list_any}
use Rattle.heco_nums.proofs.Amounts.{contains_passing, passing_rising}
use Rattle.heco_written.specs.VectorTerm.{VectorTerm, Input}
use Rattle.heco_written.specs.Cost.{subterms, all_subterms}
use Rattle.heco_written.specs.Needs.{turns_by, needs_turn}
use Rattle.heco_written.proofs.Members.{Member, Distinct, place_of_member, distinct_places, member-get_or, member-append, contains-member}
use Rattle.heco_written.proofs.Parts.{IsOperand, all_subterms-closed, all_subterms-itself}
use Rattle.heco_written.proofs.Agreement.{gates-cost, late_gates-late_cost, products-needed, turns-needed}
use Rattle.heco_ir.specs.declared.vector.VNode.{VNode}
use Rattle.heco_ir.specs.declared.vector.VNode.TheVariants.{Input as InputNode, Neg, Add, Mul, Scale, Shift, Turn}
use Rattle.heco_ir.specs.Values.{all_below, all_earlier}
use Rattle.heco_ir.specs.Used.{IsUsed, root, operand, EachOnce, AllUsed}
use Rattle.heco_ir.specs.Gates.{Agrees}
use Rattle.heco_ir.specs.Terms.{vector_term_over, vector_terms, terms_at}
use Rattle.heco_ir.specs.Vectors.{vector_operands}
use Rattle.heco_ir.proofs.Built.{length-built, right, slice_get_below}
use Rattle.heco_ir.proofs.Unique.{vector_terms-at, one_place, covered, below_one}

member-map : {X Y : Type 0} (f : X → Y) (x : X) (xs : List X) → Member x xs → Member (f x) (map f xs)
member-map f x [] m = m
member-map f x (y ∷ xs) (inl e) = inl (ap f e)
member-map f x (y ∷ xs) (inr m) = inr (member-map f x xs m)

-- an operand's term is an operand of the term
operand_term : (ts : List VectorTerm) (n : VNode) (i : ℕ) → Member i (vector_operands n) → IsOperand (get_or ts i (Input 0)) (vector_term_over ts n)
operand_term ts (InputNode a) i m = m
operand_term ts (Neg v) i (inl e) = rw e refl
operand_term ts (Neg v) i (inr m) = absurd m
operand_term ts (Add v u) i (inl e) = inl (rw e refl)
operand_term ts (Add v u) i (inr (inl e)) = inr (rw e refl)
operand_term ts (Add v u) i (inr (inr m)) = absurd m
operand_term ts (Mul v u) i (inl e) = inl (rw e refl)
operand_term ts (Mul v u) i (inr (inl e)) = inr (rw e refl)
operand_term ts (Mul v u) i (inr (inr m)) = absurd m
operand_term ts (Scale c v) i (inl e) = rw e refl
operand_term ts (Scale c v) i (inr m) = absurd m
operand_term ts (Shift c v) i (inl e) = rw e refl
operand_term ts (Shift c v) i (inr m) = absurd m
operand_term ts (Turn r v) i (inl e) = rw e refl
operand_term ts (Turn r v) i (inr m) = absurd m

module _ (ns : List VNode) (roots : List ℕ) (earlier : all_earlier vector_operands 0 ns ≡ true) where
  -- what roots use is within their terms
  pub used_within : (i : ℕ) → IsUsed vector_operands ns roots i → Member (get_or (vector_terms ns) i (Input 0)) (all_subterms (terms_at ns roots))
  used_within i (root i2 c) =
      all_subterms-itself _ _ (member-map (λ r. get_or (vector_terms ns) r (Input 0)) i2 roots (contains-member i2 roots c))
  used_within i (operand i2 j n u e c) =
      let (l, f) = slice_get_below ns j n n e in
      let here : get_or (vector_terms ns) j (Input 0) ≡ vector_term_over (vector_terms ns) n =
      vector_terms-at ns j n earlier l ∙ ap (vector_term_over (vector_terms ns)) f in
      all_subterms-closed _ (get_or (vector_terms ns) j (Input 0)) (terms_at ns roots)
      (rw here (operand_term (vector_terms ns) n i2 (contains-member i2 (vector_operands n) c)))
      (used_within j u)

  root_terms_here : all_below (length ns) roots ≡ true → EachOnce ns
      → (x : VectorTerm) → Member x (all_subterms (terms_at ns roots)) → Member x (vector_terms ns)
  root_terms_here b once x = by roots b
    where
      by : (rs : List ℕ) → all_below (length ns) rs ≡ true → Member x (all_subterms (terms_at ns rs)) → Member x (vector_terms ns)
      by [] b m = absurd m
      by (r ∷ rs) b m =
          elim (member-append x (subterms (get_or (vector_terms ns) r (Input 0))) (all_subterms (terms_at ns rs)) m) [
            | inl a ↦ let (i, l, e) = covered ns earlier once (get_or (vector_terms ns) r (Input 0)) x r (below_one (length ns) r rs b) refl a in
                rw (← e) (member-get_or (vector_terms ns) i (Input 0) (omega (arith, length-built vector_term_over ns)))
            | inr k ↦ by rs (right (nat_lt r (length ns)) _ b) k
          ]

  -- nodes that stand once, and are used, make the gates that the written forms of the roots cost, and need their keys
  pub nodes_agree : EachOnce ns → AllUsed vector_operands ns roots → all_below (length ns) roots ≡ true → Agrees (vector_terms ns) (terms_at ns roots)
  nodes_agree once used b =
      let distinct : Distinct (vector_terms ns) =
      distinct_places (vector_terms ns) (Input 0) (λ i j hi hj e.
      one_place ns earlier once (get_or (vector_terms ns) j (Input 0)) i j (omega (arith, length-built vector_term_over ns)) (omega (arith, length-built vector_term_over ns)) e refl) in
      let into : (x : VectorTerm) → Member x (vector_terms ns) → Member x (all_subterms (terms_at ns roots)) =
      λ x m. let (i, l, e) = place_of_member x (Input 0) (vector_terms ns) m in
      rw (← e) (used_within i (used i (omega (arith, length-built vector_term_over ns)))) in
      let from : (x : VectorTerm) → Member x (all_subterms (terms_at ns roots)) → Member x (vector_terms ns) = root_terms_here b once in
      record {
        gates_are = gates-cost (vector_terms ns) (terms_at ns roots) distinct into from;
        late_gates_are = late_gates-late_cost (vector_terms ns) (terms_at ns roots) distinct into from;
        products_are = products-needed (vector_terms ns) (terms_at ns roots) distinct into from;
        turns_are = turns-needed (vector_terms ns) (terms_at ns roots) distinct into from;
        amounts_rise = λ slots. passing_rising (needs_turn (terms_at ns roots)) 1 (slots - 1);
        amounts_are = λ slots r.
            let occurs : list_any (turns_by r) (vector_terms ns) ≡ needs_turn (terms_at ns roots) r = turns-needed (vector_terms ns) (terms_at ns roots) distinct into from r in
            let passing = contains_passing (needs_turn (terms_at ns roots)) 1 (slots - 1) r in (
              λ c. let w = passing.0 c in (omega (arith, w.0), omega (arith, w.0, w.1), occurs ∙ w.2),
              λ w. passing.1 (omega (arith, w.0), omega (arith, w.0, w.1), sym occurs ∙ w.2),
            );
      }

-- the same for a caller
pub agreement : (ns : List VNode) (roots : List ℕ) → all_earlier vector_operands 0 ns ≡ true → all_below (length ns) roots ≡ true → EachOnce ns
    → AllUsed vector_operands ns roots → Agrees (vector_terms ns) (terms_at ns roots)
agreement ns roots earlier b once used = nodes_agree ns roots earlier once used b
