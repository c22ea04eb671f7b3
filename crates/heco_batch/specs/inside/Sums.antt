use Rattle.std.specs.Prelude.{◌≡◌, ℕ, ◌<◌, ◌≤◌, List, [], ◌∷◌, ◌++◌, length, Option, Some, None}
use Rattle.heco_written.specs.WrittenForm.{Place, Run, runs, folded, beside, sum_of_runs}
use Rattle.heco_ir.specs.declared.vector.VNode.{VNode}
use Rattle.heco_batch.specs.declared.place.NodeRun.{NodeRun}
use Rattle.heco_batch.specs.declared.sum.NodePlaces.{NodePlaces}
use Rattle.heco_batch.specs.inside.Places.{run_at, place_at_option, PlaceIs, OptionWithin}

-- the node's run is this run, within the slots
pub record RunIs (nodes : List VNode) (slots : ℕ) (d : NodeRun) (r : Run) : Type 0 where
  pub within : d.node.0 < length nodes
  pub slot_within : d.slot < slots
  pub some : 0 < d.size
  pub most : d.size ≤ slots
  pub is : run_at nodes d ≡ r

-- the runs of these places, the last one open
pub record ArePlaces (nodes : List VNode) (slots : ℕ) (d : NodePlaces) (ps : List Place) : Type 0 where
  pub closed : List Run
  pub last_run : Run
  pub runs_are : runs slots ps ≡ closed ++ last_run ∷ []
  pub closed_within : OptionWithin (length nodes) slots d.closed
  pub closed_is : place_at_option nodes d.closed ≡ sum_of_runs slots closed
  pub last_is : RunIs nodes slots d.last last_run
  pub sum_is : PlaceIs nodes d.sum (beside slots (sum_of_runs slots closed) (folded last_run))
  pub sum_within : d.sum.slot < slots

abbrev pub AreOptionPlaces : List VNode → ℕ → Option NodePlaces → List Place → Type 0
AreOptionPlaces nodes slots None ps = ps ≡ []
AreOptionPlaces nodes slots (Some d) ps = ArePlaces nodes slots d ps
