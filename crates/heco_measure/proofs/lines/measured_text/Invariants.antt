use Rattle.std.proofs.Common.{◌≡◌, take}
use Rattle.std.specs.List.{flat_map}
use Rattle.heco_measure.specs.Lines.{measured_line}
use Rattle.heco_measure.proofs.lines.measured_text.Given as goal

abbrev pub invariant-loop-measured : goal.invariant-loop-measured
invariant-loop-measured l = l.out ≡ flat_map measured_line (take l.measured-index l.list)
