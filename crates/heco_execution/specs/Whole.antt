-- The execution of a whole source, whatever the secrets are.
use Rattle.std.specs.Prelude.{cond, List, [], ◌∷◌, ◌++◌, map}
use Rattle.heco_syntax.specs.Ports.{length_of}
use Rattle.heco_syntax.specs.declared.tree.Param.{Param}
use Rattle.heco_syntax.specs.declared.tree.Source.{Source}
use Rattle.heco_execution.specs.declared.value.Value.{Value}
use Rattle.heco_execution.specs.declared.value.Value.TheVariants.{Secret}
use Rattle.heco_execution.specs.Secrets.{Stored}
use Rattle.heco_execution.specs.States.{State, nothing, list_of, declared}
use Rattle.heco_execution.specs.Steps.{Step, give, then}
use Rattle.heco_execution.specs.Evaluation.{as_secret, calls_of}
use Rattle.heco_execution.specs.Execution.{zeros, run_all}

abbrev pub first_row : {V : Type 0} → List (List V) → List V
first_row [] = []
first_row (row ∷ rows) = row

abbrev pub other_rows : {V : Type 0} → List (List V) → List (List V)
other_rows [] = []
other_rows (row ∷ rows) = rows

module _ {S V : Type 0} (ops : Stored S V) where
  -- the parameters made visible: the inputs with their rows in order, the outputs with zeros
  abbrev pub opened : List Param → List (List V) → State V → Step S (State V)
  opened [] rows state = give state
  opened (p ∷ ports) rows state =
      cond p.output
      (then (zeros ops (length_of p.len)) (λ list. opened ports rows (declared state p.name.text list)))
      (opened ports (other_rows rows) (declared state p.name.text (map (λ v. Secret v) (first_row rows))))

  -- values as secrets, behind those that there are
  abbrev pub as_secrets : List (Value V) → List V → Step S (List V)
  as_secrets [] done = give done
  as_secrets (v ∷ vs) done = then (as_secret ops v) (λ u. as_secrets vs (done ++ u ∷ []))

  -- the lists that there are, and behind them a parameter's list where it is an output
  unfoldable pub with_output : Param → State V → List (List V) → Step S (List (List V))
  with_output p state done =
      cond p.output (then (as_secrets (list_of state p.name.text) []) (λ row. give (done ++ row ∷ []))) (give done)

  -- the lists of the outputs, behind those that there are
  abbrev pub outputs : List Param → State V → List (List V) → Step S (List (List V))
  outputs [] state done = give done
  outputs (p ∷ ports) state done = then (with_output p state done) (outputs ports state)

  -- the lists of a source's outputs, from the rows of its inputs
  unfoldable pub execute : Source → List (List V) → Step S (List (List V))
  execute source rows =
      then (opened source.ports rows nothing) (λ start.
      then (run_all ops (calls_of ops source.defs) source.body start) (λ end.
      outputs source.ports end []))
