use Rattle.std.proofs.Common.{◌≡◌, ◌++◌, length}
use Rattle.std.specs.Prelude.{IsTrue}
use Rattle.std.specs.List.{list_all}
use Rattle.heco_circuit.specs.Plans.{is_vector}
use Rattle.heco_run.specs.Making.{weighers_of}
use Rattle.heco_run.proofs.weighers.all_weighers.Given as goal

abbrev pub invariant-loop-rest : goal.invariant-loop-rest
invariant-loop-rest l = record {
  value : l.weighers ++ weighers_of l.table.preset l.rest ≡ weighers_of l.table.preset l.vectors;
  vectors : IsTrue (list_all (is_vector l.table.preset.t l.table.preset.slots) l.rest);
}

abbrev pub decreases-loop-rest : goal.decreases-loop-rest
decreases-loop-rest l = length l.rest
