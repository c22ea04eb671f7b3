use Rattle.std.proofs.Common.{◌≡◌, ◌-◌}
use Rattle.heco_fields.specs.Formats.{many}
use Rattle.heco_nums.specs.Runs.{stays}
use Rattle.heco_fields.specs.Readings.{reading, with_front}
use Rattle.heco_ciphertext_files.specs.CiphertextFiles.{ciphertext}
use Rattle.heco_ciphertext_files.proofs.reading.ciphertexts_at.Given as goal

abbrev pub invariant-loop : goal.invariant-loop
invariant-loop l = with_front l.list (reading (many (ciphertext l.p.n) stays (l.count - l.counter) 0) l.rest) ≡ reading (many (ciphertext l.p.n) stays l.count 0) l.bytes
