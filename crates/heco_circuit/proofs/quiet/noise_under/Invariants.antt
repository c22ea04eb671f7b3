use Rattle.std.proofs.Common.{◌≡◌, ◌+◌, length, All}
use Rattle.std.specs.Prelude.{IsTrue}
use Rattle.std.specs.List.{list_all}
use Rattle.heco_nums.specs.Runs.{along}
use Rattle.heco_noise.specs.Rows.{IsQuiet}
use Rattle.heco_circuit.specs.Bounds.{fresh_bounds, with_bound, wire_bounds, first_passing, is_below}
use Rattle.heco_circuit.proofs.quiet.noise_under.Given as goal

abbrev pub invariant-loop-rest : goal.invariant-loop-rest
invariant-loop-rest l = record {
  found : first_passing l.p.id l.weights l.number l.bounds l.rest ≡ first_passing l.p.id l.weights 0 (fresh_bounds l.p.id l.inputs) l.gates;
  wires : along (with_bound l.p.id l.weights) l.bounds l.rest ≡ wire_bounds l.p.id l.weights l.inputs l.gates;
  constants : IsTrue (list_all (is_below l.p.t) l.rest);
  quiet : All IsQuiet l.bounds;
  count : l.number + length l.rest ≡ length l.gates;
}

abbrev pub decreases-loop-rest : goal.decreases-loop-rest
decreases-loop-rest l = length l.rest
