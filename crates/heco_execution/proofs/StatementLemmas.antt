-- A loop by its parts.
use Rattle.std.proofs.Common.{◌≡◌, ◌∙◌, ap, sym, ℕ, List}
use Rattle.heco_lex.specs.declared.place.Place.{Place}
use Rattle.heco_syntax.specs.declared.tree.Ident.{Ident}
use Rattle.heco_syntax.specs.declared.tree.Expr.{Expr}
use Rattle.heco_syntax.specs.declared.tree.Stmt.{Stmt}
use Rattle.heco_syntax.specs.declared.tree.Stmt.TheVariants as s
use Rattle.heco_syntax.specs.declared.tree.Stmt.TheFolds.{fold-roll-Stmt}
use Rattle.heco_syntax.specs.declared.tree.Stmt.TheOpen.{Stmt-F}
use Rattle.heco_execution.specs.declared.progress.Progress.{Progress}
use Rattle.heco_execution.specs.Secrets.{Stored}
use Rattle.heco_execution.specs.States.{State}
use Rattle.heco_execution.specs.Evaluation.{Calls}
use Rattle.heco_execution.specs.Execution.{Run, looped, statement, run, run_all}

-- a loop goes on by its bounds and its turns
pub loop_goes_on : {S V : Type 0} (ops : Stored S V) (calls : Calls S V) (x : Stmt) (at : Place) (name : Ident) (text : List ℕ) (low high : Expr) (body more : List Stmt) (state : State V) (p : Progress S)
    → x ≡ s.Loop at name low high body → text ≡ name.text → more ≡ body
    → run ops calls x state p ≡ looped ops calls at text low high (run_all ops calls more) state p
loop_goes_on {S} {V} ops calls x at name text low high body more state p is same_text same =
    ap (λ y. run ops calls y state p) (is ∙ sym (s.rolls-Loop at name low high body))
    ∙ ap (λ f. f state p) (fold-roll-Stmt (Run S V) (statement ops calls) (Stmt-F.Loop at name low high body))
    ∙ ap (λ t. looped ops calls at t low high (run_all ops calls body) state p) (sym same_text)
    ∙ ap (λ b. looped ops calls at text low high (run_all ops calls b) state p) (sym same)
