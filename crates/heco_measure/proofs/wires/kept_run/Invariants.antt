use Rattle.std.proofs.Common.{◌≡◌, ◌+◌, length}
use Rattle.heco_run.specs.Making.{keys_of}
use Rattle.heco_run_laws.specs.Runs.{run_of}
use Rattle.heco_measure.specs.inside.Stores.{HasFirst}
use Rattle.heco_measure.proofs.wires.kept_run.Given as goal

abbrev pub invariant-loop-gate : goal.invariant-loop-gate
invariant-loop-gate l = record {
  room : l.room.preset ≡ l.e.preset;
  store : HasFirst l.c l.e.preset.n (run_of l.e.preset (keys_of l.e) l.c l.ins) (length l.c.inputs + l.gate-index) l.store.items;
}
