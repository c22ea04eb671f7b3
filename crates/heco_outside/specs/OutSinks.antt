-- A writer of the system as contracts see it.
use Rattle.std.specs.Prelude.{ℕ}
use Rattle.heco_outside.specs.declared.out_sink.OutSink.{OutSink}

-- the writer
abbrev pub writer_of : {W : Type 0} → OutSink W → W
writer_of s = s.writer

-- how often it has failed
abbrev pub faults_of : {W : Type 0} → OutSink W → ℕ
faults_of s = s.faults
