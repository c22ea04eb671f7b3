use Rattle.std.proofs.Common.{◌≡◌, ◌-◌, ◌≤◌}
use Rattle.heco_fields.specs.Formats.{many}
use Rattle.heco_fields.specs.Readings.{reading, with_front}
use Rattle.heco_lists.specs.ListFormat.{secret_place as place_format, counted}
use Rattle.heco_lists.proofs.reading.sparse_at.Given as goal

abbrev pub invariant-loop : goal.invariant-loop
invariant-loop l = record {
  read : with_front l.places (reading (many (place_format l.h) counted (l.n - l.counter) l.used) l.rest) ≡ reading (many (place_format l.h) counted l.n 0) l.bytes;
  used : l.used ≤ l.counter;
}
