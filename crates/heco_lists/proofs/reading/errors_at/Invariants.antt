use Rattle.std.proofs.Common.{◌≡◌, ◌-◌}
use Rattle.heco_fields.specs.Formats.{many}
use Rattle.heco_nums.specs.Runs.{stays}
use Rattle.heco_fields.specs.Readings.{reading, with_front}
use Rattle.heco_lists.specs.ListFormat.{error}
use Rattle.heco_lists.proofs.reading.errors_at.Given as goal

abbrev pub invariant-loop : goal.invariant-loop
invariant-loop l = record {
  read : with_front l.errors (reading (many (error l.b) stays (l.n - l.counter) 0) l.rest) ≡ reading (many (error l.b) stays l.n 0) l.bytes;
}
