-- The value of an expression, whatever the secrets are.
use Rattle.std.specs.Prelude.{ℕ, cond, Bool, true, false, ℤ, pos, ◌+ℤ◌, ◌-ℤ◌, ◌*ℤ◌, List, [], ◌∷◌, ◌++◌}
use Rattle.std.specs.List.{list_any}
use Rattle.std.specs.Str.{bytes_eq}
use Rattle.heco_lex.specs.declared.place.Place.{Place}
use Rattle.heco_syntax.specs.declared.tree.Def.{Def}
use Rattle.heco_syntax.specs.declared.tree.Ident.{Ident}
use Rattle.heco_syntax.specs.declared.tree.Expr.{Expr, fold-Expr}
use Rattle.heco_syntax.specs.declared.tree.Expr.TheOpen.{Expr-F, SumPart-F, ProdPart-F}
use Rattle.heco_syntax.specs.declared.tree.SumPart.{SumPart, fold-SumPart}
use Rattle.heco_syntax.specs.declared.tree.ProdPart.{ProdPart, fold-ProdPart}
use Rattle.heco_execution.specs.declared.value.Value.{Value}
use Rattle.heco_execution.specs.declared.value.Value.TheVariants.{Public, Secret}
use Rattle.heco_execution.specs.declared.value.Operator.{Operator}
use Rattle.heco_execution.specs.declared.value.Operator.TheVariants.{Plus, Minus, Times}
use Rattle.heco_execution.specs.Outcomes.{in_range}
use Rattle.heco_execution.specs.Secrets.{Stored}
use Rattle.heco_execution.specs.States.{State, nothing, declared, element}
use Rattle.heco_execution.specs.Steps.{Step, give, then, test, count, make}

abbrev pub on_whole : Operator → ℤ → ℤ → ℤ
on_whole Plus m n = m +ℤ n
on_whole Minus m n = m -ℤ n
on_whole Times m n = m *ℤ n

abbrev pub Evaluation : Type 0 → Type 0 → Type 0
Evaluation S V = State V → Step S (Value V)

-- a further part of a sum or a product
pub record Part (S V : Type 0) : Type 0 where
  pub operator : Operator
  pub at : Place
  pub of : Evaluation S V

-- what a call does with the values of its arguments
abbrev pub Meaning : Type 0 → Type 0 → Type 0
Meaning S V = List (Value V) → Step S (Value V)

-- what a call of each name does
abbrev pub Calls : Type 0 → Type 0 → Type 0
Calls S V = List ℕ → Meaning S V

-- no definition is visible; no source calls a name that is not
abbrev pub no_calls : {S V : Type 0} → Calls S V
no_calls text vs = give (Public (pos 0))

-- the values of expressions in turn, behind those that there are
abbrev pub in_turn : {S V : Type 0} → List (Evaluation S V) → State V → List (Value V) → Step S (List (Value V))
in_turn [] state done = give done
in_turn (e ∷ es) state done = then (e state) (λ v. in_turn es state (done ++ v ∷ []))

-- a public number, in range
abbrev pub public : {S V : Type 0} → Place → ℤ → Step S (Value V)
public at z = then (test (in_range at z)) (λ n. give (Public n))

abbrev pub is_secret : {V : Type 0} → Value V → Bool
is_secret (Public n) = false
is_secret (Secret v) = true

-- the element of a name at an index
abbrev pub item : {S V : Type 0} → Ident → State V → Value V → Step S (Value V)
item name state index = then (test (element name state index)) (λ e. give e.value)

-- the parameters of a definition, each with the value of its argument
abbrev pub with_arguments : {V : Type 0} → List Ident → List (Value V) → State V → State V
with_arguments [] vs state = state
with_arguments (x ∷ xs) [] state = state
with_arguments (x ∷ xs) (v ∷ vs) state = with_arguments xs vs (declared state x.text (v ∷ []))

-- a call as an expression: its arguments, its step, its definition's value
abbrev pub called : {S V : Type 0} → Calls S V → Ident → List (Evaluation S V) → Evaluation S V
called calls name args state =
    then (in_turn args state []) (λ vs.
    then (count 1 name.at) (λ _. calls name.text vs))

module _ {S V : Type 0} (ops : Stored S V) where
  -- an operator between secrets; a difference is the sum with the negative
  abbrev pub on_secrets : Operator → V → V → Step S V
  on_secrets Plus x y = make (ops.add x y)
  on_secrets Minus x y = then (make (ops.negate y)) (λ n. make (ops.add x n))
  on_secrets Times x y = make (ops.multiply x y)

  -- a value as a secret
  abbrev pub as_secret : Value V → Step S V
  as_secret (Public n) = make (ops.of_number n)
  as_secret (Secret v) = give v

  abbrev pub secret_result : Operator → V → V → Step S (Value V)
  secret_result o x y = then (on_secrets o x y) (λ u. give (Secret u))

  -- an operator between two values, whose value is public where both are
  abbrev pub operate : Operator → Place → Value V → Value V → Step S (Value V)
  operate o at (Public m) (Public n) = public at (on_whole o m n)
  operate o at (Public m) (Secret y) = then (make (ops.of_number m)) (λ x. secret_result o x y)
  operate o at (Secret x) w = then (as_secret w) (λ y. secret_result o x y)

  abbrev pub opposite : Place → Value V → Step S (Value V)
  opposite at (Public m) = public at (pos 0 -ℤ m)
  opposite at (Secret v) = then (make (ops.negate v)) (λ u. give (Secret u))

  -- the further parts, from the left: the part, its operator's step, its operator
  abbrev pub along : List (Part S V) → State V → Value V → Step S (Value V)
  along [] state v = give v
  along (q ∷ qs) state v =
      then (q.of state) (λ w.
      then (count 1 q.at) (λ _.
      then (operate q.operator q.at v w) (along qs state)))

  abbrev pub sum_layer : SumPart-F (Evaluation S V) (Part S V) (Part S V) → Part S V
  sum_layer p = record { operator = cond p.minus Minus Plus; at = p.at; of = p.of }

  abbrev pub product_layer : ProdPart-F (Evaluation S V) (Part S V) (Part S V) → Part S V
  product_layer p = record { operator = Times; at = p.at; of = p.of }

  module _ (calls : Calls S V) where
    -- one layer of an expression, whose parts are evaluations, where these definitions may be called
    abbrev pub layer : Expr-F (Evaluation S V) (Part S V) (Part S V) → Evaluation S V
    layer (Expr-F.Lit n) state = public n.at (pos n.value)
    layer (Expr-F.One name) state = item name state (Public (pos 0))
    layer (Expr-F.Item name index) state = then (index state) (item name state)
    layer (Expr-F.Neg at of) state = then (of state) (λ v. then (count 1 at) (λ _. opposite at v))
    layer (Expr-F.Sum first rest) state = then (first state) (along rest state)
    layer (Expr-F.Prod first rest) state = then (first state) (along rest state)
    layer (Expr-F.Call name args) state = called calls name args state

    abbrev pub evaluate : Expr → Evaluation S V
    evaluate e = fold-Expr (Evaluation S V) (Part S V) (Part S V) layer product_layer sum_layer e

    abbrev pub sum_part : SumPart → Part S V
    sum_part p = fold-SumPart (Evaluation S V) (Part S V) (Part S V) layer product_layer sum_layer p

    abbrev pub product_part : ProdPart → Part S V
    product_part p = fold-ProdPart (Evaluation S V) (Part S V) (Part S V) layer product_layer sum_layer p

  -- a call's value is secret where an argument is
  abbrev pub called_with : Bool → Value V → Step S (Value V)
  called_with true v = then (as_secret v) (λ u. give (Secret u))
  called_with false v = give v

  -- a call of a definition, over the definitions before it: the value of its expression in a state of the parameters alone
  unfoldable pub meaning : Calls S V → Def → Meaning S V
  meaning calls d vs = then (evaluate calls d.value (with_arguments d.params vs nothing)) (called_with (list_any is_secret vs))

  -- with one definition more
  abbrev pub with_definition : Calls S V → Def → Calls S V
  with_definition calls d text = cond (bytes_eq d.name.text text) (meaning calls d) (calls text)

  abbrev pub definitions_after : Calls S V → List Def → Calls S V
  definitions_after calls [] = calls
  definitions_after calls (d ∷ ds) = definitions_after (with_definition calls d) ds

  -- what may be called behind these definitions
  unfoldable pub calls_of : List Def → Calls S V
  calls_of ds = definitions_after no_calls ds
