use Rattle.std.proofs.Common.{◌≡◌, map, take}
use Rattle.heco_scheme.specs.Encryption.{decrypted}
use Rattle.heco_measure.proofs.wire_messages.input_messages.Given as goal

abbrev pub invariant-loop-c : goal.invariant-loop-c
invariant-loop-c l = record {
  messages : l.messages.items ≡ map (decrypted l.s.preset l.s.places) (take l.c-index l.ins);
  scratch : l.scratch.preset ≡ l.s.preset;
}
