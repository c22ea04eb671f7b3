-- What a run of a circuit asks of the evaluation key, and how it leaves the picker.
use Rattle.std.specs.Prelude.{◌≡◌, ◌&&◌, not, List, Option, Some, None, if◌then◌else◌}
use Rattle.std.specs.Option.{option_map}
use Rattle.heco_circuit.specs.Needs.{needs_relin, needed_turns}
use Rattle.heco_circuit.specs.Plans.{Plan as Circuit}
use Rattle.heco_key_files.specs.KeyFiles.{EvalLists}
use Rattle.heco_run.specs.Refusals.{missing_turn}
use Rattle.heco_run.specs.Results.{IsRun}
use Rattle.heco_run.specs.declared.error.RunErr.{RunErr}
use Rattle.heco_run.specs.declared.error.RunErr.TheVariants as opening
use Rattle.heco_schedules.specs.declared.event.Event.{Event}
use Rattle.heco_jobs.specs.Agents.{Picking}
use Rattle.heco_jobs.specs.declared.outcome.Outcome.{Outcome}
use Rattle.heco_jobs.specs.declared.outcome.Outcome.TheVariants.{Refused, Memory}
use Rattle.heco_jobs.specs.declared.outcome.Refusal.{Refusal}
use Rattle.heco_jobs.specs.declared.outcome.Refusal.TheVariants.{Count, MissingRelin, MissingKey}

-- the first of: no key to relinearise, no key for a turn that the circuit needs, of which the least amount
unfoldable pub key_refusal : Circuit → EvalLists → Option Refusal
key_refusal c e =
    if needs_relin c && not e.relin then Some MissingRelin
    else option_map (λ r. MissingKey r) (missing_turn (needed_turns c) e.turns)

-- the evaluation key has each switch key that the circuit needs
abbrev pub HasKeys : Circuit → EvalLists → Type 0
HasKeys c e = key_refusal c e ≡ None

abbrev pub IsKeyRefusal : Circuit → EvalLists → Refusal → Type 0
IsKeyRefusal c e refusal = key_refusal c e ≡ Some refusal

-- the picker is as a run of the circuit leaves it: its events were picked one after the other, and its rule stayed
pub record Leads (c : Circuit) (picker left : Picking) : Type 0 where
  pub events : List Event
  pub is_run : IsRun picker.rule c picker.state events left.state
  pub rule : left.rule ≡ picker.rule

-- what an error of a run is answered with; the ciphertexts stand in this word
abbrev pub run_answer : RunErr → Outcome
run_answer opening.MissingRelin = Refused MissingRelin
run_answer (opening.MissingKey amount) = Refused (MissingKey amount)
run_answer (opening.Count want found) = Refused (Count 3 want found)
run_answer opening.Memory = Memory
