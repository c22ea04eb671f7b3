use Rattle.std.proofs.Common.{◌≡◌, ◌-◌, ◌<◌}
use Rattle.heco_fields.specs.Formats.{many}
use Rattle.heco_fields.specs.Readings.{reading, with_front}
use Rattle.heco_key_files.specs.KeyFiles.{turn as turn_format, latest}
use Rattle.heco_key_files.proofs.read_switch.turns_at.Given as goal

abbrev pub invariant-loop : goal.invariant-loop
invariant-loop l = record {
  read : with_front l.turns (reading (many (turn_format l.slots) latest (l.count - l.counter) l.last) l.rest) ≡ reading (many (turn_format l.slots) latest l.count 0) l.bytes;
  below : l.last < l.slots;
}
