-- A source with a good circuit: the square of a number.
use Rattle.std.proofs.Common.{◌≡◌, ◌∙◌, ℕ, ◌*◌, ◌%◌, ◌<◌, ◌≤◌, true, false, List, [], ◌∷◌, None, refl, sym, ap, ap₂, arith, codes}
use Rattle.std.specs.Prelude.{Ok}
use Rattle.heco_lex.specs.declared.place.Place.{Place}
use Rattle.heco_syntax.specs.declared.tree.Expr.{Expr, roll-Expr}
use Rattle.heco_syntax.specs.declared.tree.Expr.TheFolds.{fold-roll-Expr}
use Rattle.heco_syntax.specs.declared.tree.Expr.TheOpen.{Expr-F}
use Rattle.heco_syntax.specs.declared.tree.Ident.{Ident}
use Rattle.heco_syntax.specs.declared.tree.Param.{Param}
use Rattle.heco_syntax.specs.declared.tree.SetOp.{SetOp}
use Rattle.heco_syntax.specs.declared.tree.SetOp.TheVariants.{Put, Mul}
use Rattle.heco_syntax.specs.declared.tree.Source.{Source}
use Rattle.heco_syntax.specs.declared.tree.Stmt.{Stmt, roll-Stmt}
use Rattle.heco_syntax.specs.declared.tree.Stmt.TheFolds.{fold-roll-Stmt}
use Rattle.heco_syntax.specs.declared.tree.Stmt.TheOpen.{Stmt-F}
use Rattle.heco_execution.specs.Evaluation.{Calls, Evaluation, Part, calls_of, layer, sum_layer, product_layer, evaluate}
use Rattle.heco_execution.specs.Execution.{Run, assigned, combined, in_order, run, statement, target_index}
use Rattle.heco_execution.specs.Laws.{source_terms, elements}
use Rattle.heco_execution.specs.Outcomes.{Outcome, after}
use Rattle.heco_execution.specs.Secrets.{Stored, storeless, terms}
use Rattle.heco_execution.specs.States.{declared, element, nothing, replaced}
use Rattle.heco_execution.specs.Steps.{give, then, test, count}
use Rattle.heco_execution.specs.Whole.{opened, outputs, with_output, execute}
use Rattle.heco_written.specs.ScalarTerm.{ScalarTerm, Element, Product}
use Rattle.heco_written.specs.Bound.{bound, greatest_bound, scheme_of}
use Rattle.heco_written.specs.Cost.{cost, late_cost}
use Rattle.heco_written.specs.VectorTerm.{VectorTerm, Input, Multiplied, slot_value}
use Rattle.heco_nums.specs.Words.{is_word}
use Rattle.heco_circuit.specs.Circuits.{IsCircuit, is_short}
use Rattle.heco_circuit.specs.Needs.{is_relin}
use Rattle.heco_circuit.specs.Plans.{Plan}
use Rattle.heco_circuit.specs.declared.gate.Cell.TheVariants.{Slot}
use Rattle.heco_circuit.specs.declared.gate.Gate.TheVariants as g
use Rattle.heco_meaning.specs.Meanings.{wire_at, wires_of}
use Rattle.heco_texts.specs.Answers.{HaveFit}
use Rattle.heco_thrift.specs.Homes.{world_of}
use Rattle.heco_thrift.specs.Thrift.{IsThrifty, gate_bounds, is_product}
use Rattle.heco_good.specs.Good.{Good, modulus, homes_of}
use Rattle.heco_thrift.specs.Placed.{IsPlaced}
use Rattle.heco_good.proofs.PlacedLaw.{placed_is_good}
use Rattle.std.specs.List.{count_by, list_all}
use Rattle.std.specs.Prelude.{All, nat_le, nat_lt}
use Rattle.std.proofs.Common.{get_or, mod-eq_of_lt}
use Rattle.std.proofs.lemmas.Bool.{and_parts, leb-true, ltb-true}
use Rattle.std.proofs.lemmas.List.Elements.{All-nil, All-cons}

abbrev at : Place
at = record { line = 1; col = 1 }

abbrev x : Ident
x = record { text = codes "x"; at = at }

abbrev y : Ident
y = record { text = codes "y"; at = at }

abbrev ports : List Param
ports = record { output = false; name = x; len = None } ∷ record { output = true; name = y; len = None } ∷ []

unfoldable value : Expr
value = roll-Expr (Expr-F.One x)

unfoldable put : Stmt
put = roll-Stmt (Stmt-F.Set y None Put at value)

unfoldable times : Stmt
times = roll-Stmt (Stmt-F.Set y None Mul at value)

-- params p8; fn f(in x, out y) { y = x; y *= x; }
abbrev source : Source
source = record { params = record { text = codes "p8"; at = at }; name = record { text = codes "f"; at = at }; defs = []; ports = ports; body = put ∷ times ∷ [] }

abbrev squares : List (List ScalarTerm)
squares = (Product (Element 0 0) (Element 0 0) ∷ []) ∷ []

abbrev ops : Stored (Unit {0}) ScalarTerm
ops = storeless {S = Unit {0}} (terms 257)

-- nothing is defined that may be called
abbrev calls : Calls (Unit {0}) ScalarTerm
calls = calls_of ops []

abbrev Runs : Type 0
Runs = Run (Unit {0}) ScalarTerm

-- an assignment by the evaluation of its value
abbrev assigning : SetOp → Evaluation (Unit {0}) ScalarTerm → Runs
assigning op eval state =
    then (count 1 at) (λ _.
    then (target_index ops calls None state) (λ i.
    then (test (element y state i)) (λ target.
    then (eval state) (λ v.
    then (combined ops op at target.value v) (λ u. give (replaced state target u))))))

value_is : evaluate ops calls value ≡ layer ops calls (Expr-F.One x)
unfolding value
value_is = fold-roll-Expr (Evaluation (Unit {0}) ScalarTerm) (Part (Unit {0}) ScalarTerm) (Part (Unit {0}) ScalarTerm) (layer ops calls) (product_layer ops) (sum_layer ops) (Expr-F.One x)

put_is : run ops calls put ≡ assigning Put (layer ops calls (Expr-F.One x))
unfolding put assigned
put_is = fold-roll-Stmt Runs (statement ops calls) (Stmt-F.Set y None Put at value) ∙ ap (assigning Put) value_is

times_is : run ops calls times ≡ assigning Mul (layer ops calls (Expr-F.One x))
unfolding times assigned
times_is = fold-roll-Stmt Runs (statement ops calls) (Stmt-F.Set y None Mul at value) ∙ ap (assigning Mul) value_is

abbrev executing : Runs → Runs → Outcome (List (List ScalarTerm))
executing r s =
    after (then (opened ops ports (elements 0 (1 ∷ [])) nothing) (λ start. then (in_order (r ∷ s ∷ []) start) (λ end. outputs ops ports end [])) (record { steps = 0; store = tt })) (λ u. Ok u.0)

computed : executing (assigning Put (layer ops calls (Expr-F.One x))) (assigning Mul (layer ops calls (Expr-F.One x))) ≡ Ok squares
unfolding declared with_output
computed = refl

executed : source_terms (modulus source) source ≡ Ok squares
unfolding execute
executed = ap₂ executing put_is times_is ∙ computed

-- ---- a product, which is relinearised

abbrev circuit : Plan
circuit = record {
  preset = 1;
  inputs = record { name = codes "x"; len = 1 } ∷ [];
  vectors = [];
  gates = g.Mul 0 0 ∷ g.Relin 1 ∷ [];
  outputs = record { name = codes "y"; cells = Slot 2 0 ∷ [] } ∷ [];
}

valid : IsCircuit circuit
unfolding is_word is_short
valid = (refl, refl, refl)

-- the product of an input with itself
abbrev square : VectorTerm
square = Multiplied (Input 0) (Input 0)

same_square : (v : ℕ) → v < 257 → v * v % 257 ≡ (v % 257) * (v % 257) % 257
same_square v h = ap (λ n. n * n % 257) (sym (mod-eq_of_lt h))

means : (rows : List (List ℕ)) → HaveFit 257 circuit.inputs rows → get_or (wire_at (wires_of circuit rows) 2) 0 0 ≡ slot_value (world_of 1 rows) square 0
means [] fit = absurd fit
means ([] ∷ rows) fit = absurd (omega (arith, fit.0))
means ((v ∷ w ∷ row) ∷ rows) fit = absurd (omega (arith, fit.0))
means ((v ∷ []) ∷ (row ∷ rows)) fit = absurd fit.2
means ((v ∷ []) ∷ []) fit = same_square v (ltb-true v 257 (and_parts (nat_lt v 257) true fit.1).0)

all_at_most : (most : ℕ) (xs : List ℕ) → list_all (λ e. nat_le e most) xs ≡ true → All (λ e. e ≤ most) xs
all_at_most most [] h = All-nil (λ e. e ≤ most)
all_at_most most (e ∷ xs) h = let both = and_parts (nat_le e most) (list_all (λ e. nat_le e most) xs) h in All-cons (λ e. e ≤ most) e xs (leb-true e most both.0) (all_at_most most xs both.1)

thrifty : IsThrifty circuit (homes_of source squares)
thrifty = record {
  gates = leb-true 2 (cost (square ∷ [])) refl;
  late_gates = leb-true 2 (late_cost (square ∷ [])) refl;
  bounds = record {
    gates = all_at_most (greatest_bound (scheme_of 1) (square ∷ [])) (gate_bounds circuit) refl;
    outputs = (leb-true (get_or (gate_bounds circuit) 1 0) (bound (scheme_of 1) square) refl, tt);
  };
  relinearisations = leb-true (count_by is_relin circuit.gates) (count_by is_product circuit.gates) refl;
  relinearisation_needed = refl;
  turns_needed = refl;
}

placed : IsPlaced 1 circuit.inputs (record { name = codes "y"; len = 1 } ∷ []) (homes_of source squares) circuit
placed = record {
  preset = refl;
  inputs_are = refl;
  outputs_are = refl;
  holds = (record { means = means }, tt);
  thrift = thrifty;
}

-- the circuit is good for the source
good : Good source circuit
good = placed_is_good source circuit squares (record { execution = executed; long = refl }) valid placed
