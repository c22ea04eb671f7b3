-- The nodes of a whole execution.
use Rattle.std.proofs.Common.{◌≡◌, ◌∙◌, refl, sym, ap, subst, ℕ, ◌<◌, ◌≤◌, List, [], map, length, arith, true, Ok, Err, append-nil}
use Rattle.std.specs.List.{All, flat_map}
use Rattle.heco_nums.specs.declared.shape.Shape.{Shape}
use Rattle.heco_syntax.specs.declared.tree.Source.{Source}
use Rattle.heco_written.specs.ScalarTerm.{ScalarTerm}
use Rattle.heco_execution.specs.declared.error.EvalErr.{EvalErr}
use Rattle.heco_execution.specs.declared.error.EvalErr.TheVariants.{At, Memory}
use Rattle.heco_execution.specs.declared.progress.Progress.{Progress}
use Rattle.heco_execution.specs.Laws.{input_lengths, elements, source_terms, mapped}
use Rattle.heco_execution.specs.Outcomes.{Outcome, Refuses, after, broken}
use Rattle.heco_execution.specs.Secrets.{storeless, terms}
use Rattle.heco_execution.specs.Whole.{execute}
use Rattle.heco_execution.proofs.Following.{Comes}
use Rattle.heco_execution.proofs.Wholes.{execute_follows}
use Rattle.heco_ir.specs.declared.dialect.NodeId.{NodeId}
use Rattle.heco_ir.specs.declared.scalar.SNode.{SNode}
use Rattle.heco_ir.specs.Unrolled.{operations, root_terms}
use Rattle.heco_ir.specs.Values.{all_below, numbers}
use Rattle.heco_unroll.specs.declared.operand.Operand.{Operand}
use Rattle.heco_unroll.specs.inside.Elements.{element_rows}
use Rattle.heco_unroll.specs.Operands.{node_secrets}
use Rattle.heco_unroll.specs.inside.Roots.{root_nodes}
use Rattle.heco_unroll.specs.Unrolling.{element_terms}
use Rattle.heco_unroll.proofs.Counting.{nodes_light, element_rows_none, root_nodes_none}
use Rattle.heco_unroll.proofs.Operations.{nodes_follow}
use Rattle.heco_unroll.proofs.RootTerms.{root_terms_are, ids_below, rows_rooted}
use Rattle.heco_unroll.proofs.Rows.{RowsStand, element_rows_stand}
use Rattle.heco_unroll.proofs.Spending.{Within, execute_spends}
use Rattle.heco_unroll.proofs.Standing.{AreGood, Grows, Stands}

abbrev lengths_of : List Shape → List ℕ
lengths_of shapes = map (λ s. s.len) shapes

abbrev input_rows : List Shape → List (List Operand)
input_rows shapes = (element_rows 0 shapes [] []).0

abbrev input_nodes : List Shape → List SNode
input_nodes shapes = (element_rows 0 shapes [] []).1

abbrev from : List SNode → Progress (List SNode)
from nodes = record { steps = 0; store = nodes }

abbrev from_none : Progress (Unit {0})
from_none = record { steps = 0; store = tt }

-- the shapes of a source's inputs, within these bounds
pub record AreInputs (slots : ℕ) (source : Source) (shapes : List Shape) : Type 0 where
  pub lengths : map (λ s. s.len) shapes ≡ input_lengths source.ports
  pub short : All (λ s. s.len ≤ slots) shapes

none_good : (t slots inputs : ℕ) → AreGood t slots inputs []
none_good t slots inputs = record { made = λ k x e. cc; elements = λ a i c. absurd (omega (arith, c.1)) }

-- what the nodes and the roots of an execution are
pub record IsUnrolled (t slots inputs : ℕ) (source : Source) (ids : List NodeId) (nodes : List SNode) : Type 0 where
  pub good : AreGood t slots inputs nodes
  pub below : all_below (length nodes) (numbers ids) ≡ true
  pub terms_are : element_terms t source ≡ Ok (root_terms nodes (numbers ids))
  pub few : operations nodes ≤ 524288

module _ (t slots : ℕ) (positive : 0 < t) (source : Source) (shapes : List Shape) (inputs_are : AreInputs slots source shapes) where
  abbrev inputs : ℕ
  inputs = length shapes

  abbrev on_nodes : Outcome (List (List Operand) × Progress (List SNode))
  on_nodes = execute (node_secrets t) source (input_rows shapes) (from (input_nodes shapes))

  abbrev on_terms : Outcome (List (List ScalarTerm) × Progress (Unit {0}))
  on_terms = execute (storeless {S = Unit {0}} (terms t)) source (elements 0 (input_lengths source.ports)) from_none

  abbrev Standing : List SNode → List (List Operand) → List (List ScalarTerm) → Type 0
  Standing nodes = RowsStand t slots inputs nodes

  started : Grows t slots inputs [] (input_nodes shapes) × Standing (input_nodes shapes) (input_rows shapes) (elements 0 (input_lengths source.ports))
  started = rw (← inputs_are.lengths) (element_rows_stand t slots inputs 0 shapes [] [] [] (omega arith) inputs_are.short tt)

  followed : Comes (Grows t slots inputs) Standing (input_nodes shapes) on_nodes on_terms
  followed =
      execute_follows (node_secrets t) (terms t) (Grows t slots inputs) (Stands t slots) (nodes_follow t slots inputs positive) source (input_nodes shapes) (input_rows shapes)
      (elements 0 (input_lengths source.ports)) started.1 (from (input_nodes shapes)) from_none (record { added = []; is = sym (append-nil (input_nodes shapes)); good = λ h. h }) refl

  spent : Within (λ nodes. operations nodes) 0 (from (input_nodes shapes)) on_nodes
  spent = execute_spends (node_secrets t) (λ nodes. operations nodes) (nodes_light t) source (input_rows shapes) (from (input_nodes shapes)) (omega arith)

  finished : (o : Outcome (List (List Operand) × Progress (List SNode))) (u : Outcome (List (List ScalarTerm) × Progress (Unit {0}))) (outs : List (List Operand)) (q : Progress (List SNode))
      → o ≡ Ok (outs, q) → Comes (Grows t slots inputs) Standing (input_nodes shapes) o u → Within (λ nodes. operations nodes) 0 (from (input_nodes shapes)) o
      → (AreGood t slots inputs (root_nodes outs [] q.store).1 × (all_below (length (root_nodes outs [] q.store).1) (numbers (root_nodes outs [] q.store).0) ≡ true)
      × (mapped (λ rows. flat_map (λ row. row) rows) (after u (λ r. Ok r.0)) ≡ Ok (root_terms (root_nodes outs [] q.store).1 (numbers (root_nodes outs [] q.store).0)))
      × (operations (root_nodes outs [] q.store).1 ≤ 524288))
  finished (Ok x) (Ok y) outs q e c s =
      let same : x ≡ (outs, q) = cc in
      subst (λ (z : List (List Operand) × Progress (List SNode)). AreGood t slots inputs (root_nodes z.0 [] z.1.store).1 × (all_below (length (root_nodes z.0 [] z.1.store).1) (numbers (root_nodes z.0 [] z.1.store).0) ≡ true)
      × (mapped (λ rows. flat_map (λ row. row) rows) (Ok y.0) ≡ Ok (root_terms (root_nodes z.0 [] z.1.store).1 (numbers (root_nodes z.0 [] z.1.store).0)))
      × (operations (root_nodes z.0 [] z.1.store).1 ≤ 524288)) same
      (let rooted = rows_rooted t slots inputs x.0 y.0 [] [] x.1.store tt c.2 in
      let nodes : List SNode = (root_nodes x.0 [] x.1.store).1 in
      let ids : List NodeId = (root_nodes x.0 [] x.1.store).0 in (
        rooted.0.good (c.1.good (started.0.good (none_good t slots inputs))),
        ids_below nodes ids (flat_map (λ row. row) y.0) rooted.1,
        ap (λ xs. Ok xs) (sym (root_terms_are nodes ids (flat_map (λ row. row) y.0) rooted.1)),
        let none : operations (input_nodes shapes) ≡ 0 = element_rows_none 0 shapes [] [] in omega (arith, s.1, s.0, root_nodes_none x.0 [] x.1.store),
      ))
  finished (Ok x) (Err f) outs q e c s = absurd c
  finished (Err f) u outs q e c s = absurd (let no : ⊥ = cc in no)

  -- the nodes of outputs that come out
  pub unrolled : (outs : List (List Operand)) (q : Progress (List SNode)) → execute (node_secrets t) source (input_rows shapes) (from (input_nodes shapes)) ≡ Ok (outs, q)
      → IsUnrolled t slots (length shapes) source (root_nodes outs [] q.store).0 (root_nodes outs [] q.store).1
  unrolled outs q e =
      let f = finished on_nodes on_terms outs q e followed spent in
      record { good = f.0; below = f.1; terms_are = f.2; few = f.3 }

  same_refusal : (e : EvalErr) (o : Outcome (List (List Operand) × Progress (List SNode))) (u : Outcome (List (List ScalarTerm) × Progress (Unit {0})))
      → Comes (Grows t slots inputs) Standing (input_nodes shapes) o u → Refuses e o → Refuses e (after u (λ r. Ok r.0))
  same_refusal Memory o u c r = tt
  same_refusal (At rule at) (Err f) (Err g) c r = let same : f ≡ broken rule at = cc in ap (λ b. Err b) (sym c ∙ same)
  same_refusal (At rule at) (Ok x) u c r = absurd (let no : ⊥ = cc in no)
  same_refusal (At rule at) (Err f) (Ok y) c r = absurd c

  -- the refusal is that of the terms
  pub refused : (e : EvalErr) → Refuses e (execute (node_secrets t) source (input_rows shapes) (from (input_nodes shapes))) → Refuses e (source_terms t source)
  refused e r = same_refusal e on_nodes on_terms followed r

-- the same of what was made step by step
pub all_unrolled : (t slots : ℕ) (source : Source) (shapes : List Shape) → map (λ s. s.len) shapes ≡ input_lengths source.ports → All (λ s. s.len ≤ slots) shapes
    → (m : ℕ) (first : List SNode) (rows listed : List (List Operand)) (nodes : List SNode) (outs given : List (List Operand)) (q : Progress (List SNode)) (ids : List NodeId) (last : List SNode)
    → m ≡ t → 0 < m → first ≡ [] → element_rows 0 shapes [] first ≡ (rows, nodes) → listed ≡ rows → execute (node_secrets m) source listed (from nodes) ≡ Ok (outs, q) → given ≡ outs
    → root_nodes given [] q.store ≡ (ids, last) → IsUnrolled t slots (length shapes) source ids last
all_unrolled t slots source shapes lengths short m first rows listed nodes outs given q ids last is_t positive z made r e o g =
    let inputs_are : AreInputs slots source shapes = record { lengths = lengths; short = short } in
    let h : element_rows 0 shapes [] [] ≡ (rows, nodes) = rw z at made in
    let is_rows : input_rows shapes ≡ rows = ap (λ r. r.0) h in
    let are_nodes : input_nodes shapes ≡ nodes = ap (λ r. r.1) h in
    let ran : execute (node_secrets t) source rows (from nodes) ≡ Ok (outs, q) = rw (is_t, r) at e in
    let rooted : root_nodes outs [] q.store ≡ (ids, last) = rw o at g in
    rw rooted at (unrolled t slots (rw is_t at positive) source shapes inputs_are outs q (rw (is_rows, are_nodes) ran))

pub is_refused : (t slots : ℕ) (source : Source) (shapes : List Shape) → map (λ s. s.len) shapes ≡ input_lengths source.ports → All (λ s. s.len ≤ slots) shapes
    → (m : ℕ) (first : List SNode) (rows listed : List (List Operand)) (nodes : List SNode) (e : EvalErr)
    → m ≡ t → 0 < m → first ≡ [] → element_rows 0 shapes [] first ≡ (rows, nodes) → listed ≡ rows → Refuses e (execute (node_secrets m) source listed (from nodes)) → Refuses e (source_terms t source)
is_refused t slots source shapes lengths short m first rows listed nodes e is_t positive z made r refuses =
    let inputs_are : AreInputs slots source shapes = record { lengths = lengths; short = short } in
    let h : element_rows 0 shapes [] [] ≡ (rows, nodes) = rw z at made in
    let is_rows : input_rows shapes ≡ rows = ap (λ r. r.0) h in
    let are_nodes : input_nodes shapes ≡ nodes = ap (λ r. r.1) h in
    refused t slots (rw is_t at positive) source shapes inputs_are e (rw (is_rows, are_nodes) (rw (is_t, r) at refuses))
