-- An expression by its parts.
use Rattle.std.proofs.Common.{◌≡◌, ◌∙◌, ap, sym, List, map, Ok}
use Rattle.std.specs.List.{list_any}
use Rattle.heco_syntax.specs.declared.tree.Def.{Def}
use Rattle.heco_syntax.specs.declared.tree.Ident.{Ident}
use Rattle.heco_syntax.specs.declared.tree.Expr.{Expr}
use Rattle.heco_syntax.specs.declared.tree.Expr.TheVariants as e
use Rattle.heco_syntax.specs.declared.tree.Expr.TheFolds.{fold-roll-Expr}
use Rattle.heco_syntax.specs.declared.tree.Expr.TheOpen.{Expr-F}
use Rattle.heco_syntax.specs.declared.tree.SumPart.{SumPart}
use Rattle.heco_syntax.specs.declared.tree.ProdPart.{ProdPart}
use Rattle.heco_execution.specs.declared.error.EvalErr.{EvalErr}
use Rattle.heco_execution.specs.declared.error.EvalErr.TheVariants.{At, Memory}
use Rattle.heco_execution.specs.declared.progress.Progress.{Progress}
use Rattle.heco_execution.specs.declared.value.Value.{Value}
use Rattle.heco_execution.specs.Outcomes.{Refuses, Outcome, after}
use Rattle.heco_execution.specs.Secrets.{Stored}
use Rattle.heco_execution.specs.States.{State, nothing}
use Rattle.heco_execution.specs.Evaluation.{Calls, called, called_with, is_secret, with_arguments, meaning, Evaluation, Part, layer, product_layer, sum_layer, along, evaluate, sum_part, product_part}

-- what is refused behind a result is refused
refuses_behind : {A B : Type 0} (o : Outcome A) (next : A → Outcome B) (a : A) (r : EvalErr) → o ≡ Ok a → Refuses r (next a) → Refuses r (after o next)
refuses_behind o next a r is h = rw is h

module _ {S V : Type 0} (ops : Stored S V) (calls : Calls S V) where
  evaluate-sum : (first : Expr) (rest : List SumPart) → evaluate ops calls (e.Sum first rest) ≡ layer ops calls (Expr-F.Sum (evaluate ops calls first) (map (sum_part ops calls) rest))
  evaluate-sum first rest =
      ap (evaluate ops calls) (sym (e.rolls-Sum first rest))
      ∙ fold-roll-Expr (Evaluation S V) (Part S V) (Part S V) (layer ops calls) (product_layer ops) (sum_layer ops) (Expr-F.Sum first rest)

  evaluate-product : (first : Expr) (rest : List ProdPart) → evaluate ops calls (e.Prod first rest) ≡ layer ops calls (Expr-F.Prod (evaluate ops calls first) (map (product_part ops calls) rest))
  evaluate-product first rest =
      ap (evaluate ops calls) (sym (e.rolls-Prod first rest))
      ∙ fold-roll-Expr (Evaluation S V) (Part S V) (Part S V) (layer ops calls) (product_layer ops) (sum_layer ops) (Expr-F.Prod first rest)

  -- a call goes on by its parts
  pub call_goes_on : (x : Expr) (id : Ident) (args more : List Expr) (state : State V) (p : Progress S) → x ≡ e.Call id args → more ≡ args
      → evaluate ops calls x state p ≡ called calls id (map (evaluate ops calls) more) state p
  call_goes_on x id args more state p is same =
      ap (λ y. evaluate ops calls y state p) (is ∙ sym (e.rolls-Call id args))
      ∙ ap (λ f. f state p) (fold-roll-Expr (Evaluation S V) (Part S V) (Part S V) (layer ops calls) (product_layer ops) (sum_layer ops) (Expr-F.Call id args))
      ∙ ap (λ es. called calls id (map (evaluate ops calls) es) state p) (sym same)

  -- a call whose definition's value is refused is refused
  pub meaning_refuses : (d : Def) (vs : List (Value V)) (state : State V) (p : Progress S) (r : EvalErr)
      → state ≡ with_arguments d.params vs nothing → Refuses r (evaluate ops calls d.value state p) → Refuses r (meaning ops calls d vs p)
  unfolding meaning
  meaning_refuses d vs state p (At rule at) is h = ap (λ t. after (evaluate ops calls d.value t p) (λ r. called_with ops (list_any is_secret vs) r.0 r.1)) (sym is) ∙ ap (λ o. after o (λ r. called_with ops (list_any is_secret vs) r.0 r.1)) h
  meaning_refuses d vs state p Memory is h = tt

  -- a sum whose further parts are refused is refused
  pub sum_refuses : (x first one : Expr) (rest more : List SumPart) (state : State V) (p q : Progress S) (v : Value V) (r : EvalErr)
      → x ≡ e.Sum first rest → one ≡ first → more ≡ rest → evaluate ops calls one state p ≡ Ok (v, q) → Refuses r (along ops (map (sum_part ops calls) more) state v q)
      → Refuses r (evaluate ops calls x state p)
  sum_refuses x first one rest more state p q v r is same_first same_rest h refused =
      rw (is, evaluate-sum first rest, ← same_first, ← same_rest) (refuses_behind (evaluate ops calls one state p) (λ a. along ops (map (sum_part ops calls) more) state a.0 a.1) (v, q) r h refused)

  -- and so is a product
  pub product_refuses : (x first one : Expr) (rest more : List ProdPart) (state : State V) (p q : Progress S) (v : Value V) (r : EvalErr)
      → x ≡ e.Prod first rest → one ≡ first → more ≡ rest → evaluate ops calls one state p ≡ Ok (v, q) → Refuses r (along ops (map (product_part ops calls) more) state v q)
      → Refuses r (evaluate ops calls x state p)
  product_refuses x first one rest more state p q v r is same_first same_rest h refused =
      rw (is, evaluate-product first rest, ← same_first, ← same_rest) (refuses_behind (evaluate ops calls one state p) (λ a. along ops (map (product_part ops calls) more) state a.0 a.1) (v, q) r h refused)
