-- The nodes of output elements have their terms.
use Rattle.std.proofs.Common.{◌≡◌, refl, sym, subst, ℕ, List, [], ◌∷◌, ◌++◌, length, append_assoc, append-nil, true}
use Rattle.std.specs.List.{flat_map}
use Rattle.std.proofs.lemmas.Bool.{lt-ltb}
use Rattle.heco_written.specs.ScalarTerm.{ScalarTerm}
use Rattle.heco_execution.proofs.Following.{AllLike}
use Rattle.heco_execution.proofs.Likenesses.{append_like}
use Rattle.heco_ir.specs.declared.dialect.NodeId.{NodeId}
use Rattle.heco_ir.specs.declared.scalar.SNode.{SNode}
use Rattle.heco_ir.specs.Values.{all_below, numbers}
use Rattle.heco_ir.proofs.Built.{both}
use Rattle.heco_unroll.specs.declared.operand.Operand.{Operand}
use Rattle.heco_unroll.specs.Operands.{node_of}
use Rattle.heco_unroll.specs.inside.Roots.{row_nodes, root_nodes}
use Rattle.heco_ir.specs.Unrolled.{root_terms}
use Rattle.heco_unroll.proofs.Standing.{Grows, HasTerm, grows_none, grows_further, has_term_stays, node_of_grows}
use Rattle.heco_unroll.proofs.Rows.{RowStands, RowsStand, row_stays, rows_stay}

-- each id is that of a node with the term beside it
abbrev pub HaveTerms : List SNode → List NodeId → List ScalarTerm → Type 0
HaveTerms nodes = AllLike (HasTerm nodes)

pub root_terms_are : (nodes : List SNode) (ids : List NodeId) (xs : List ScalarTerm) → HaveTerms nodes ids xs → root_terms nodes (numbers ids) ≡ xs
root_terms_are nodes [] [] h = refl
root_terms_are nodes (d ∷ ids) (x ∷ xs) h = rw (h.0.is, root_terms_are nodes ids xs h.1) refl
root_terms_are nodes [] (x ∷ xs) h = absurd h
root_terms_are nodes (d ∷ ids) [] h = absurd h

pub ids_below : (nodes : List SNode) (ids : List NodeId) (xs : List ScalarTerm) → HaveTerms nodes ids xs → all_below (length nodes) (numbers ids) ≡ true
ids_below nodes [] [] h = refl
ids_below nodes (d ∷ ids) (x ∷ xs) h = both _ _ (lt-ltb _ _ h.0.within) (ids_below nodes ids xs h.1)
ids_below nodes [] (x ∷ xs) h = absurd h
ids_below nodes (d ∷ ids) [] h = absurd h

module _ (t slots inputs : ℕ) where
  terms_stay : (a b : List SNode) (ids : List NodeId) (xs : List ScalarTerm) → Grows t slots inputs a b → HaveTerms a ids xs → HaveTerms b ids xs
  terms_stay a b [] [] g h = tt
  terms_stay a b (d ∷ ids) (x ∷ xs) g h = (has_term_stays t slots inputs a b d x g h.0, terms_stay a b ids xs g h.1)
  terms_stay a b [] (x ∷ xs) g h = h
  terms_stay a b (d ∷ ids) [] g h = h

  abbrev Rooted : List SNode → List NodeId × List SNode → List ScalarTerm → Type 0
  Rooted nodes r xs = Grows t slots inputs nodes r.1 × HaveTerms r.1 r.0 xs

  row_rooted : (row : List Operand) (xs : List ScalarTerm) (ids : List NodeId) (ys : List ScalarTerm) (nodes : List SNode) → HaveTerms nodes ids ys → RowStands t slots inputs nodes row xs
      → Rooted nodes (row_nodes row ids nodes) (ys ++ xs)
  row_rooted [] [] ids ys nodes k h = (grows_none t slots inputs nodes, subst (HaveTerms nodes ids) (sym (append-nil ys)) k)
  row_rooted (v ∷ row) (x ∷ xs) ids ys nodes k h =
      let (g, d) = node_of_grows t slots inputs nodes v x h.0 in
      let after : List SNode = (node_of v nodes).1 in
      let (g2, rest) = row_rooted row xs (ids ++ (node_of v nodes).0 ∷ []) (ys ++ x ∷ []) after
      (append_like (HasTerm after) ids ((node_of v nodes).0 ∷ []) ys (x ∷ []) (terms_stay nodes after ids ys g k) (d, tt)) (row_stays t slots inputs nodes after row xs g h.1) in
      (grows_further t slots inputs nodes after _ g g2, subst (HaveTerms _ _) (append_assoc ys (x ∷ []) xs) rest)
  row_rooted [] (x ∷ xs) ids ys nodes k h = absurd h
  row_rooted (v ∷ row) [] ids ys nodes k h = absurd h

  -- the roots of rows that stand for terms have these terms
  pub rows_rooted : (rows : List (List Operand)) (xs : List (List ScalarTerm)) (ids : List NodeId) (ys : List ScalarTerm) (nodes : List SNode) → HaveTerms nodes ids ys
      → RowsStand t slots inputs nodes rows xs → Rooted nodes (root_nodes rows ids nodes) (ys ++ flat_map (λ row. row) xs)
  rows_rooted [] [] ids ys nodes k h = (grows_none t slots inputs nodes, subst (HaveTerms nodes ids) (sym (append-nil ys)) k)
  rows_rooted (row ∷ rows) (x ∷ xs) ids ys nodes k h =
      let (g, d) = row_rooted row x ids ys nodes k h.0 in
      let after : List SNode = (row_nodes row ids nodes).1 in
      let (g2, rest) = rows_rooted rows xs (row_nodes row ids nodes).0 (ys ++ x) after d (rows_stay t slots inputs nodes after rows xs g h.1) in
      (grows_further t slots inputs nodes after _ g g2, subst (HaveTerms _ _) (append_assoc ys x (flat_map (λ row. row) xs)) rest)
  rows_rooted [] (x ∷ xs) ids ys nodes k h = absurd h
  rows_rooted (row ∷ rows) [] ids ys nodes k h = absurd h
