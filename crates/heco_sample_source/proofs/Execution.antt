-- The execution of the source on scalar terms gives the dot product.
use Rattle.std.proofs.Common.{◌≡◌, ◌∙◌, ◌≤◌, ◌<◌, ℕ, zero, suc, ◌+◌, ◌*◌, true, List, [], ◌∷◌, map, Some, None, Ok, refl, ap, ap₂, arith, codes}
use Rattle.std.specs.Prelude.{pos, ◌-ℤ◌, ◌+ℤ◌, slice_get, nat_le}
use Rattle.std.proofs.lemmas.Bool.{le-leb}
use Rattle.heco_syntax.specs.Parts.{product_part}
use Rattle.heco_syntax.specs.declared.tree.Expr.TheOpen.{Expr-F}
use Rattle.heco_syntax.specs.declared.tree.Expr.TheVariants as e
use Rattle.heco_syntax.specs.declared.tree.SetOp.TheVariants.{Add}
use Rattle.heco_execution.specs.Evaluation.{Calls, Evaluation, Part, calls_of, layer, sum_layer, product_layer, evaluate}
use Rattle.heco_execution.specs.Execution.{Run, assigned, at_least_zero, bound, combined, in_order, run, statement, target_index, turn, turns}
use Rattle.heco_execution.specs.Laws.{source_terms, elements_from}
use Rattle.heco_execution.specs.Outcomes.{Outcome, after}
use Rattle.heco_execution.specs.Secrets.{Stored, storeless, terms}
use Rattle.heco_execution.specs.States.{State, declared, element, nothing, replaced}
use Rattle.heco_execution.specs.Steps.{give, then, test, count}
use Rattle.heco_execution.specs.Whole.{opened, outputs, with_output, execute}
use Rattle.heco_execution.specs.declared.progress.Progress.{Progress}
use Rattle.heco_execution.specs.declared.value.Operator.TheVariants.{Times}
use Rattle.heco_execution.specs.declared.value.Value.{Value}
use Rattle.heco_execution.specs.declared.value.Value.TheVariants.{Secret}
use Rattle.heco_written.specs.ScalarTerm.{ScalarTerm, Number, Element, sum_of}
use Rattle.heco_sample_source.proofs.Folds.{of_number, of_name, of_item, of_product, of_factor, of_assignment, of_loop}
use Rattle.heco_sample_source.proofs.Tree.{at, named, number, ports, low, high, of_a, of_b, product, addition, loop, tree}
use Rattle.heco_sample_source.proofs.Written.{term, added_up, dot_product}

abbrev Nothing : Type 0
Nothing = Unit {0}

abbrev ops : Stored Nothing ScalarTerm
ops = storeless {S = Nothing} (terms 65537)

-- nothing is defined that may be called
abbrev calls : Calls Nothing ScalarTerm
calls = calls_of ops []

abbrev Evaluates : Type 0
Evaluates = Evaluation Nothing ScalarTerm

abbrev Runs : Type 0
Runs = Run Nothing ScalarTerm

-- ---- the parts of the source

abbrev item_value : List ℕ → ℕ → ℕ → Evaluates
item_value text col index_col = layer ops calls (Expr-F.Item (named text col) (layer ops calls (Expr-F.One (named (codes "i") index_col))))

abbrev number_value : ℕ → ℕ → Evaluates
number_value n col = layer ops calls (Expr-F.Lit (number n col))

abbrev product_value : Evaluates
product_value = layer ops calls (Expr-F.Prod (item_value (codes "a") 62 64) (record { operator = Times; at = at 66; of = item_value (codes "b") 67 69 } ∷ []))

low_is : evaluate ops calls low ≡ number_value 0 48
unfolding low
low_is = of_number (layer ops calls) (product_layer ops) (sum_layer ops) (number 0 48)

high_is : evaluate ops calls high ≡ number_value 512 51
unfolding high
high_is = of_number (layer ops calls) (product_layer ops) (sum_layer ops) (number 512 51)

item_is : (text : List ℕ) (col index_col : ℕ) → evaluate ops calls (e.Item (named text col) (e.One (named (codes "i") index_col))) ≡ item_value text col index_col
item_is text col index_col =
    of_item (layer ops calls) (product_layer ops) (sum_layer ops) (named text col) (e.One (named (codes "i") index_col))
    ∙ ap (λ (value : Evaluates). layer ops calls (Expr-F.Item (named text col) value)) (of_name (layer ops calls) (product_layer ops) (sum_layer ops) (named (codes "i") index_col))

product_is : evaluate ops calls product ≡ product_value
unfolding product of_a of_b
product_is =
    of_product (layer ops calls) (product_layer ops) (sum_layer ops) of_a (product_part (at 66) of_b ∷ [])
    ∙ ap₂ (λ (x : Evaluates) (y : Part Nothing ScalarTerm). layer ops calls (Expr-F.Prod x (y ∷ []))) (item_is (codes "a") 62 64)
    (of_factor (layer ops calls) (product_layer ops) (sum_layer ops) (at 66) of_b ∙ ap (λ (v : Evaluates). record { operator = Times; at = at 66; of = v }) (item_is (codes "b") 67 69))

-- the assignment, and the loop round it
abbrev adding : Evaluates → Runs
adding value state =
    then (count 1 (at 57)) (λ _.
    then (target_index ops calls None state) (λ i.
    then (test (element (named (codes "s") 57) state i)) (λ target.
    then (value state) (λ v.
    then (combined ops Add (at 59) target.value v) (λ u. give (replaced state target u))))))

abbrev looping : Evaluates → Evaluates → Runs → Runs
looping l h body state =
    then (count 1 (at 39)) (λ _.
    then (l state) (λ from.
    then (h state) (λ to.
    turns (at 39) (codes "i") (in_order (body ∷ [])) (at_least_zero (bound to -ℤ bound from)) (bound from) state)))

addition_is : run ops calls addition ≡ adding product_value
unfolding addition assigned
addition_is = of_assignment (statement ops calls) (named (codes "s") 57) None Add (at 59) product ∙ ap adding product_is

loop_is : run ops calls loop ≡ looping (number_value 0 48) (number_value 512 51) (adding product_value)
unfolding loop
loop_is =
    of_loop (statement ops calls) (at 39) (named (codes "i") 43) low high (addition ∷ [])
    ∙ ap (λ l. looping l (evaluate ops calls high) (run ops calls addition)) low_is
    ∙ ap (λ h. looping (number_value 0 48) h (run ops calls addition)) high_is
    ∙ ap (looping (number_value 0 48) (number_value 512 51)) addition_is

-- ---- one turn, and all turns

abbrev Values : Type 0
Values = List (Value ScalarTerm)

-- the lists of a and b, and the sum so far
abbrev holding : Values → Values → ScalarTerm → State ScalarTerm
holding xs ys sum = record { texts = codes "a" ∷ codes "b" ∷ codes "s" ∷ []; lists = xs ∷ ys ∷ (Secret sum ∷ []) ∷ [] }

abbrev counting : ℕ → Progress Nothing
counting m = record { steps = m; store = tt }

-- the element of a list is that of the input
abbrev IsElement : ℕ → Values → ℕ → Type 0
IsElement input vs k = slice_get vs k ≡ Some (Secret (Element input k))

few : (m : ℕ) → m ≤ 262144 → nat_le m 262144 ≡ true
few m le = le-leb m 262144 le

abbrev body : Runs
body = in_order (adding product_value ∷ [])

module _ (xs ys : Values) where
  one_turn : (sum : ScalarTerm) (k m : ℕ) → IsElement 0 xs k → IsElement 1 ys k → m + 3 ≤ 262144
      → turn (at 39) (codes "i") body (pos k) (holding xs ys sum) (counting m) ≡ Ok (holding xs ys (sum_of 65537 sum (term k)), counting (m + 1 + 1 + 1))
  unfolding declared
  one_turn sum k m in_a in_b le =
      let first : nat_le (m + 1) 262144 ≡ true = few (m + 1) (omega arith) in
      let second : nat_le (m + 1 + 1) 262144 ≡ true = few (m + 1 + 1) (omega arith) in
      let third : nat_le (m + 1 + 1 + 1) 262144 ≡ true = few (m + 1 + 1 + 1) (omega arith) in
      rw (first, second, in_a, in_b, third) refl

  -- each turn counts three steps
  abbrev steps_after : ℕ → ℕ → ℕ
  steps_after zero m = m
  steps_after (suc n) m = steps_after n (m + 1 + 1 + 1)

  abbrev HaveElements : Type 0
  HaveElements = (k : ℕ) → k < 512 → IsElement 0 xs k × IsElement 1 ys k

  all_turns : (n k m : ℕ) (sum : ScalarTerm) → HaveElements → k + n ≤ 512 → m + 3 * n ≤ 262144
      → turns (at 39) (codes "i") body n (pos k) (holding xs ys sum) (counting m) ≡ Ok (holding xs ys (added_up sum k n), counting (steps_after n m))
  all_turns zero k m sum has few le = refl
  all_turns (suc n) k m sum has few le =
      let here = has k (omega arith) in
      ap (λ (o : Outcome (State ScalarTerm × Progress Nothing)). after o (λ r. turns (at 39) (codes "i") body n (pos k +ℤ pos 1) r.0 r.1)) (one_turn sum k m here.0 here.1 (omega arith))
      ∙ all_turns n (k + 1) (m + 1 + 1 + 1) (sum_of 65537 sum (term k)) has (omega arith) (omega arith)

-- ---- the whole source

abbrev secrets : List ScalarTerm → Values
secrets row = map (λ v. Secret v) row

element_at : (input i n k : ℕ) → k < n → slice_get (secrets (elements_from input i n)) k ≡ Some (Secret (Element input (i + k)))
element_at input i zero k lt = absurd (omega arith)
element_at input i (suc n) zero lt = ap (λ j. Some (Secret (Element input j))) (let same : i ≡ i + 0 = omega arith in same)
element_at input i (suc n) (suc k) lt = element_at input (suc i) n k (omega arith) ∙ ap (λ j. Some (Secret (Element input j))) (let same : suc i + k ≡ i + suc k = omega arith in same)

inputs_element : (input k : ℕ) → k < 512 → IsElement input (secrets (elements_from input 0 512)) k
inputs_element input k lt = element_at input 0 512 k lt ∙ ap (λ j. Some (Secret (Element input j))) (let same : 0 + k ≡ k = omega arith in same)

abbrev executing : List (List ScalarTerm) → Runs → Outcome (List (List ScalarTerm))
executing rows r =
    after (then (opened ops ports rows nothing) (λ start. then (in_order (r ∷ []) start) (λ end. outputs ops ports end [])) (counting 0)) (λ u. Ok u.0)

abbrev finishing : Outcome (State ScalarTerm × Progress Nothing) → Outcome (List (List ScalarTerm))
finishing o = after (after (after o (λ r. in_order [] r.0 r.1)) (λ r. outputs ops ports r.0 [] r.1)) (λ u. Ok u.0)

module _ (first second : List ScalarTerm) where
  begun : executing (first ∷ second ∷ []) (looping (number_value 0 48) (number_value 512 51) (adding product_value))
      ≡ finishing (turns (at 39) (codes "i") body 512 (pos 0) (holding (secrets first) (secrets second) (Number 0)) (counting 1))
  unfolding declared
  begun = refl

  finished : (sum : ScalarTerm) (m : ℕ) → finishing (Ok (holding (secrets first) (secrets second) sum, counting m)) ≡ Ok ((sum ∷ []) ∷ [])
  unfolding with_output
  finished sum m = refl

abbrev row : ℕ → List ScalarTerm
row input = elements_from input 0 512

all_turned : turns (at 39) (codes "i") body 512 (pos 0) (holding (secrets (row 0)) (secrets (row 1)) (Number 0)) (counting 1)
    ≡ Ok (holding (secrets (row 0)) (secrets (row 1)) dot_product, counting (steps_after (secrets (row 0)) (secrets (row 1)) 512 1))
all_turned = all_turns (secrets (row 0)) (secrets (row 1)) 512 0 1 (Number 0) (λ k lt. (inputs_element 0 k lt, inputs_element 1 k lt)) (omega arith) (omega arith)

pub executed : source_terms 65537 tree ≡ Ok ((dot_product ∷ []) ∷ [])
unfolding execute
executed =
    ap (executing (row 0 ∷ row 1 ∷ [])) loop_is ∙ begun (row 0) (row 1) ∙ ap finishing all_turned
    ∙ finished (row 0) (row 1) dot_product (steps_after (secrets (row 0)) (secrets (row 1)) 512 1)
