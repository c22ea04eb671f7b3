-- An execution gives one list for each output.
use Rattle.std.proofs.Common.{◌≡◌, refl, ap, subst, ℕ, ◌+◌, true, false, cond, not, map, List, [], ◌∷◌, ◌++◌, length, length-append, Ok, Err, arith}
use Rattle.std.specs.List.{filter}
use Rattle.std.specs.Prelude.{IfOk, Result}
use Rattle.heco_nums.specs.declared.shape.Values.{Values}
use Rattle.heco_syntax.specs.declared.tree.Param.{Param}
use Rattle.heco_syntax.specs.declared.tree.Source.{Source}
use Rattle.heco_types.specs.Shapes.{shape_of, shapes_of}
use Rattle.heco_types.specs.Table.{differ}
use Rattle.heco_execution.specs.declared.progress.Progress.{Progress}
use Rattle.heco_execution.specs.Outcomes.{Outcome, after}
use Rattle.heco_execution.specs.Plain.{outputs_over}
use Rattle.heco_execution.specs.Secrets.{Secrets, Stored, storeless}
use Rattle.heco_execution.specs.States.{State, nothing, list_of}
use Rattle.heco_execution.specs.Steps.{Step, give, then}
use Rattle.heco_execution.specs.Evaluation.{calls_of}
use Rattle.heco_execution.specs.Execution.{run_all}
use Rattle.heco_execution.specs.Whole.{opened, as_secrets, with_output, outputs, execute}

-- where the step gives something, the fact holds of it
abbrev Gives : {S A : Type 0} → (A → Type 0) → Step S A → Type 0
Gives {S} {A} P step = (p q : Progress S) (x : A) → step p ≡ Ok (x, q) → P x

abbrev fine : {A : Type 0} → A → Outcome A
fine a = Ok a

same_first : {A B : Type 0} (r s : A × B) → fine r ≡ fine s → r.0 ≡ s.0
same_first r s e = let same : r ≡ s = cc in ap (λ q. q.0) same

give_gives : {S A : Type 0} (P : A → Type 0) (a : A) → P a → Gives {S = S} P (give a)
give_gives {S} {A} P a h p q x e = subst P (same_first (a, p) (x, q) e) h

then_gives : {S A B : Type 0} (P : A → Type 0) (Q : B → Type 0) (step : Step S A) (next : A → Step S B) → Gives P step → ((a : A) → P a → Gives Q (next a)) → Gives Q (then step next)
then_gives {S} {A} {B} P Q step next h k p q x e = behind (step p) (h p) e
  where
    behind : (o : Outcome (A × Progress S)) → ((q : Progress S) (a : A) → o ≡ Ok (a, q) → P a) → after o (λ r. next r.0 r.1) ≡ Ok (x, q) → Q x
    behind (Ok r) f e = k r.0 (f r.1 r.0 refl) r.1 q x e
    behind (Err b) f e = absurd (let no : ⊥ = cc in no)

abbrev outs : List Param → List Param
outs ports = filter (λ q. not (differ q.output true)) ports

shapes_more : (p : Param) (ports : List Param) → length (shapes_of true (p ∷ ports)) ≡ cond p.output 1 0 + length (shapes_of true ports)
shapes_more p ports = elim p.output as (λ o. length (map shape_of (cond (not (differ o true)) (p ∷ outs ports) (outs ports))) ≡ cond o 1 0 + length (map shape_of (outs ports))) [ true ↦ omega arith | false ↦ omega arith ]

module _ {S V : Type 0} (ops : Stored S V) where
  with_output_count : (p : Param) (state : State V) (done : List (List V)) → Gives (λ rows. length rows ≡ length done + cond p.output 1 0) (with_output ops p state done)
  unfolding with_output
  with_output_count p state done = elim p.output as
      (λ o. Gives (λ rows. length rows ≡ length done + cond o 1 0) (cond o (then (as_secrets ops (list_of state p.name.text) []) (λ row. give (done ++ row ∷ []))) (give done))) [
        | true ↦ then_gives (λ row. Unit {0}) _ _ _ (λ p q x e. tt) (λ row h. give_gives _ _ (length-append done (row ∷ [])))
        | false ↦ give_gives _ _ (omega arith)
      ]

  outputs_count : (ports : List Param) (state : State V) (done : List (List V)) → Gives (λ rows. length rows ≡ length done + length (shapes_of true ports)) (outputs ops ports state done)
  outputs_count [] state done = give_gives _ _ (omega arith)
  outputs_count (p ∷ ports) state done =
      then_gives _ _ _ _ (with_output_count p state done) (λ rows h p' q x e. let rest = outputs_count ports state rows p' q x e in omega (arith, h, rest, shapes_more p ports))

  execute_count : (source : Source) (rows : List (List V)) → Gives (λ out. length out ≡ length (shapes_of true source.ports)) (execute ops source rows)
  unfolding execute
  execute_count source rows =
      then_gives {A = State V} (λ a. Unit {0}) (λ out. length out ≡ length (shapes_of true source.ports)) (opened ops source.ports rows nothing) (λ start. then (run_all ops (calls_of ops source.defs) source.body start) (λ end. outputs ops source.ports end []))
      (λ p q x e. tt) (λ start h. then_gives {A = State V} (λ a. Unit {0}) (λ out. length out ≡ length (shapes_of true source.ports)) (run_all ops (calls_of ops source.defs) source.body start) (λ end. outputs ops source.ports end [])
      (λ p q x e. tt) (λ end h p q x e. let c = outputs_count source.ports end [] p q x e in omega (arith, c)))

abbrev start : Progress (Unit {0})
start = record { steps = 0; store = tt }

-- one list for each output
output_count : {V : Type 0} (secrets : Secrets V) (source : Source) (rows out : List (List V)) → outputs_over secrets source rows ≡ Ok out → length out ≡ length (shapes_of true source.ports)
output_count {V} secrets source rows out e = read (execute (storeless {S = Unit {0}} secrets) source rows start) (execute_count (storeless {S = Unit {0}} secrets) source rows start) e
  where
    read : (o : Outcome (List (List V) × Progress (Unit {0}))) → ((q : Progress (Unit {0})) (x : List (List V)) → o ≡ Ok (x, q) → length x ≡ length (shapes_of true source.ports)) → after o (λ r. Ok r.0) ≡ Ok out → length out ≡ length (shapes_of true source.ports)
    read (Ok r) f e = let same : r.0 ≡ out = cc in subst (λ x. length x ≡ length (shapes_of true source.ports)) same (f r.1 r.0 refl)
    read (Err b) f e = absurd (let no : ⊥ = cc in no)

pub counted : {E : Type 0} (secrets : Secrets ℕ) (source : Source) (rows : List (List ℕ)) (r : Result Values E) → IfOk r (λ out. outputs_over secrets source rows ≡ Ok out.rows) → IfOk r (λ out. length out.rows ≡ length (shapes_of true source.ports))
counted secrets source rows (Ok out) h = output_count secrets source rows out.rows h
counted secrets source rows (Err e) h = tt
