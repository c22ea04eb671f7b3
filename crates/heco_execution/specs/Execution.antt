-- What statements do, whatever the secrets are.
use Rattle.std.specs.Prelude.{Bool, true, false, ℕ, zero, suc, ◌+◌, ℤ, pos, negsuc, ◌+ℤ◌, ◌-ℤ◌, List, [], ◌∷◌, map, length, replicate, Some, None}
use Rattle.std.specs.declared.option.Option.{Option}
use Rattle.heco_lex.specs.declared.place.Place.{Place}
use Rattle.heco_syntax.specs.declared.tree.Ident.{Ident}
use Rattle.heco_syntax.specs.declared.tree.Expr.{Expr}
use Rattle.heco_syntax.specs.declared.tree.SetOp.{SetOp}
use Rattle.heco_syntax.specs.declared.tree.SetOp.TheVariants.{Put, Add, Sub, Mul}
use Rattle.heco_syntax.specs.declared.tree.Stmt.{Stmt, fold-Stmt}
use Rattle.heco_syntax.specs.declared.tree.Stmt.TheOpen.{Stmt-F}
use Rattle.heco_execution.specs.declared.value.Value.{Value}
use Rattle.heco_execution.specs.declared.value.Value.TheVariants.{Public, Secret}
use Rattle.heco_execution.specs.declared.value.Operator.TheVariants.{Plus, Minus, Times}
use Rattle.heco_execution.specs.Secrets.{Stored}
use Rattle.heco_execution.specs.States.{State, element, declared, first_names, replaced}
use Rattle.heco_execution.specs.Steps.{Step, give, then, test, count, make}
use Rattle.heco_execution.specs.Evaluation.{Calls, as_secret, evaluate, in_turn, operate}

-- from a state to the state then
abbrev pub Run : Type 0 → Type 0 → Type 0
Run S V = State V → Step S (State V)

abbrev pub at_least_zero : ℤ → ℕ
at_least_zero (pos n) = n
at_least_zero (negsuc n) = 0

-- a loop bound; none is secret
abbrev pub bound : {V : Type 0} → Value V → ℤ
bound (Public n) = n
bound (Secret v) = pos 0

abbrev pub in_order : {S V : Type 0} → List (Run S V) → Run S V
in_order [] state = give state
in_order (r ∷ rs) state = then (r state) (in_order rs)

-- one turn of a loop, whose name stands for i: its step, and its body, whose names go out with it
abbrev pub turn : {S V : Type 0} → Place → List ℕ → Run S V → ℤ → Run S V
turn at text body i state =
    then (count 1 at) (λ _.
    then (body (declared state text (Public i ∷ []))) (λ end. give (first_names (length state.texts) end)))

-- so many turns, for which the name counts up from i
abbrev pub turns : {S V : Type 0} → Place → List ℕ → Run S V → ℕ → ℤ → Run S V
turns at text body zero i state = give state
turns at text body (suc n) i state = then (turn at text body i state) (turns at text body n (i +ℤ pos 1))

-- a condition; none is secret
abbrev pub holds : {V : Type 0} → Value V → Bool
holds (Public (pos zero)) = false
holds (Public (pos (suc n))) = true
holds (Public (negsuc n)) = true
holds (Secret v) = false

-- a block, whose names go out with it
abbrev pub within : {S V : Type 0} → Run S V → Run S V
within body state = then (body state) (λ end. give (first_names (length state.texts) end))

-- the first block, or else the second, where there is one
abbrev pub chosen : {S V : Type 0} → Bool → List (Run S V) → Option (List (Run S V)) → Run S V
chosen true body other state = within (in_order body) state
chosen false body None state = give state
chosen false body (Some other) state = within (in_order other) state

module _ {S V : Type 0} (ops : Stored S V) where
  abbrev pub zeros : ℕ → Step S (List (Value V))
  zeros n = then (make (ops.of_number (pos 0))) (λ z. give (replicate n (Secret z)))

  -- a value as it is put in the place of another: what is secret stays secret
  abbrev pub kept : Value V → Value V → Step S (Value V)
  kept (Public m) v = give v
  kept (Secret w) v = then (as_secret ops v) (λ u. give (Secret u))

  abbrev pub combined : SetOp → Place → Value V → Value V → Step S (Value V)
  combined Put at old v = kept old v
  combined Add at old v = operate ops Plus at old v
  combined Sub at old v = operate ops Minus at old v
  combined Mul at old v = operate ops Times at old v

  module _ (calls : Calls S V) where
    -- the index of an assignment's target; a scalar's is 0
    abbrev pub target_index : Option Expr → State V → Step S (Value V)
    target_index None state = give (Public (pos 0))
    target_index (Some e) state = evaluate ops calls e state

    -- what a secret scalar starts at
    abbrev pub initial : Option Expr → State V → Step S (Value V)
    initial None state = then (make (ops.of_number (pos 0))) (λ z. give (Secret z))
    initial (Some e) state = then (evaluate ops calls e state) (λ v. then (as_secret ops v) (λ u. give (Secret u)))

    -- the target's index, its element, the value, and both combined
    unfoldable pub assigned : Ident → Option Expr → SetOp → Place → Expr → Run S V
    assigned name index op op_at value state =
        then (count 1 name.at) (λ _.
        then (target_index index state) (λ i.
        then (test (element name state i)) (λ target.
        then (evaluate ops calls value state) (λ v.
        then (combined op op_at target.value v) (λ u. give (replaced state target u))))))

    -- both bounds once, and then the turns
    abbrev pub looped : Place → List ℕ → Expr → Expr → Run S V → Run S V
    looped at text low high body state =
        then (count 1 at) (λ _.
        then (evaluate ops calls low state) (λ l.
        then (evaluate ops calls high state) (λ h.
        turns at text body (at_least_zero (bound h -ℤ bound l)) (bound l) state)))

    -- the condition once, and then one block
    abbrev pub decided : Place → Expr → List (Run S V) → Option (List (Run S V)) → Run S V
    decided at test body other state =
        then (count 1 at) (λ _.
        then (evaluate ops calls test state) (λ c. chosen (holds c) body other state))

    -- one layer of a statement, whose blocks are runs
    abbrev pub statement : Stmt-F (Run S V) → Run S V
    statement (Stmt-F.IntOne at name value) state =
        then (count 1 at) (λ _.
        then (evaluate ops calls value state) (λ v. give (declared state name.text (v ∷ []))))
    statement (Stmt-F.IntMany at name len list) state =
        then (count (1 + len.value) at) (λ _.
        then (in_turn (map (evaluate ops calls) list) state []) (λ vs. give (declared state name.text vs)))
    statement (Stmt-F.SecretOne at name value) state =
        then (count 1 at) (λ _.
        then (initial value state) (λ v. give (declared state name.text (v ∷ []))))
    statement (Stmt-F.SecretMany at name len) state =
        then (count (1 + len.value) at) (λ _.
        then (zeros len.value) (λ vs. give (declared state name.text vs)))
    statement (Stmt-F.Set name index op op_at value) state = assigned name index op op_at value state
    statement (Stmt-F.Loop at name low high body) state = looped at name.text low high (in_order body) state
    statement (Stmt-F.Choice at test body other) state = decided at test body other state

    abbrev pub run : Stmt → Run S V
    run s = fold-Stmt (Run S V) statement s

    abbrev pub run_all : List Stmt → Run S V
    run_all body = in_order (map run body)
