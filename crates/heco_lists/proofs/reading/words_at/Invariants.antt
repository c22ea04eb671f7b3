use Rattle.std.proofs.Common.{◌≡◌, ◌-◌}
use Rattle.heco_fields.specs.Formats.{many}
use Rattle.heco_nums.specs.Runs.{stays}
use Rattle.heco_fields.specs.Readings.{reading, with_front}
use Rattle.heco_lists.specs.ListFormat.{word}
use Rattle.heco_lists.proofs.reading.words_at.Given as goal

abbrev pub invariant-loop : goal.invariant-loop
invariant-loop l = record {
  read : with_front l.words (reading (many word stays (l.n - l.counter) 0) l.rest) ≡ reading (many word stays l.n 0) l.bytes;
}
