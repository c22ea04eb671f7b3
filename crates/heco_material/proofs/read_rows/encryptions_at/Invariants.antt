use Rattle.std.proofs.Common.{◌≡◌, ◌-◌}
use Rattle.heco_fields.specs.Formats.{many}
use Rattle.heco_nums.specs.Runs.{stays}
use Rattle.heco_fields.specs.Readings.{reading, with_front}
use Rattle.heco_material.specs.EncFormat.{encryption}
use Rattle.heco_material.proofs.read_rows.encryptions_at.Given as goal

abbrev pub invariant-loop : goal.invariant-loop
invariant-loop l = record {
  read : with_front l.rows (reading (many (encryption l.p.n l.p.h l.p.b) stays (l.count - l.counter) 0) l.rest) ≡ reading (many (encryption l.p.n l.p.h l.p.b) stays l.count 0) l.bytes;
}
