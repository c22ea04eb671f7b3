use Rattle.std.proofs.Common.{◌≡◌, ◌-◌}
use Rattle.heco_fields.specs.Formats.{many}
use Rattle.heco_nums.specs.Runs.{stays}
use Rattle.heco_fields.specs.Readings.{reading, with_front}
use Rattle.heco_material.specs.KeyFormat.{row}
use Rattle.heco_material.proofs.read_rows.rows_at.Given as goal

abbrev pub invariant-loop : goal.invariant-loop
invariant-loop l = record {
  read : with_front l.rows (reading (many (row l.p.n l.p.b) stays (29 - l.counter) 0) l.rest) ≡ reading (many (row l.p.n l.p.b) stays 29 0) l.bytes;
}
