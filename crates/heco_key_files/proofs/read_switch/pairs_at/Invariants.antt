use Rattle.std.proofs.Common.{◌≡◌, ◌-◌, length}
use Rattle.heco_fields.specs.Formats.{many}
use Rattle.heco_nums.specs.Runs.{stays}
use Rattle.heco_fields.specs.Readings.{reading, with_front}
use Rattle.heco_key_files.specs.KeyFiles.{pair as pair_format}
use Rattle.heco_key_files.proofs.read_switch.pairs_at.Given as goal

abbrev pub invariant-loop : goal.invariant-loop
invariant-loop l = record {
  read : with_front l.pairs (reading (many (pair_format l.p.n) stays (29 - l.counter) 0) l.rest) ≡ reading (many (pair_format l.p.n) stays 29 0) l.bytes;
  count : length l.pairs ≡ l.counter;
}
