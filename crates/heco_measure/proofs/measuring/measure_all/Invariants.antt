use Rattle.std.proofs.Common.{◌≡◌, map}
use Rattle.std.specs.List.{range_with_len}
use Rattle.heco_measure.specs.Measuring.{measured_of}
use Rattle.heco_measure.specs.inside.Stores.{ciphertext_in}
use Rattle.heco_measure.proofs.measuring.measure_all.Given as goal

abbrev pub invariant-loop-wire : goal.invariant-loop-wire
invariant-loop-wire l = l.list ≡ map (measured_of l.s.preset l.s.places (ciphertext_in l.store.items) l.messages l.bounds) (range_with_len 0 l.wire)
