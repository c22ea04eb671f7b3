-- A sink in memory as contracts see it.
use Rattle.std.specs.Prelude.{◌≡◌, ℕ, [], List, Bool, Result, Ok, Err}
use Rattle.heco_outside.specs.Planned.{is_due, next_number}
use Rattle.heco_outside.specs.declared.sink.SinkErr.{SinkErr}
use Rattle.heco_outside.specs.declared.sink.SinkErr.TheVariants.{Failed, Memory}
use Rattle.heco_outside.specs.declared.mem_sink.MemSink.{MemSink}

-- the bytes that it has taken
abbrev pub sink_bytes : MemSink → List ℕ
sink_bytes m = m.bytes

-- the numbers of the calls that are to fail
abbrev pub sink_fails : MemSink → List ℕ
sink_fails m = m.fails

-- how many calls were answered by Ok or Failed
abbrev pub sink_calls : MemSink → ℕ
sink_calls m = m.calls

-- no call is to fail
abbrev pub IsSteady : MemSink → Type 0
IsSteady m = m.fails ≡ []

-- the next call fails
abbrev pub write_fails : MemSink → Bool
write_fails m = is_due m.fails m.calls

-- a call that was answered is counted; want of memory is no call
abbrev pub Counts : {T : Type 0} → ℕ → ℕ → Result T SinkErr → Type 0
Counts old new (Ok v) = new ≡ next_number old
Counts old new (Err Failed) = new ≡ next_number old
Counts old new (Err Memory) = new ≡ old
