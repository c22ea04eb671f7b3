use Rattle.std.proofs.Common.{◌≡◌, ◌-◌, length, map}
use Rattle.heco_fields.specs.Formats.{many}
use Rattle.heco_nums.specs.Runs.{stays}
use Rattle.heco_fields.specs.Readings.{reading, with_front}
use Rattle.heco_key_files.specs.KeyFiles.{switch_key}
use Rattle.heco_key_files.proofs.read_switch.switches_at.Given as goal

abbrev pub invariant-loop : goal.invariant-loop
invariant-loop l = record {
  read : with_front (map (λ k. k.rows) l.keys) (reading (many (switch_key l.p.n) stays (l.count - l.counter) 0) l.rest) ≡ reading (many (switch_key l.p.n) stays l.count 0) l.bytes;
  count : length l.keys ≡ l.counter;
}
