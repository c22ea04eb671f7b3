use Rattle.std.proofs.Common.{◌≡◌, ◌+◌, length, drop}
use Rattle.std.specs.Prelude.{All}
use Rattle.heco_nums.specs.Runs.{along}
use Rattle.heco_run_laws.specs.Measured.{measured_messages}
use Rattle.heco_run_laws.specs.Messages.{with_message}
use Rattle.heco_measure.specs.inside.Plaintexts.{IsPlaintext}
use Rattle.heco_measure.proofs.wire_messages.wire_messages.Given as goal

-- the messages so far, with those of the gates that are left, are all
abbrev pub invariant-loop-gate : goal.invariant-loop-gate
invariant-loop-gate l = record {
  count : length l.messages.items ≡ length l.c.inputs + l.gate-index;
  whole : along (with_message l.s.preset l.c.vectors) l.messages.items (drop l.gate-index l.gates) ≡ measured_messages l.s.preset l.s.places l.c l.ins;
  plaintexts : All (IsPlaintext l.s.preset) l.messages.items;
}
