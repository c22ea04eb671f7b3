use Rattle.std.proofs.Common.{◌≡◌, ◌∙◌, length, get_or, sym, ap, ap₂, arith}
use Rattle.std.proofs.lemmas.List.{drop_all, length-map, length_push}
use Rattle.std.proofs.lemmas.List.Elements.{All-map, All-push}
use Rattle.heco_nums.specs.Runs.{along}
use Rattle.heco_circuit.specs.declared.gate.Gate.TheVariants.{Neg}
use Rattle.heco_run_laws.proofs.CircuitVectors.{circuit_formed}
use Rattle.heco_run_laws.specs.Measured.{measured_messages}
use Rattle.heco_run_laws.specs.Messages.{message_by, messages_along, with_message}
use Rattle.heco_scheme.specs.Encryption.{decrypted}
use Rattle.heco_measure.specs.inside.Plaintexts.{IsPlaintext}
use Rattle.heco_measure.proofs.Messages.{along_more}
use Rattle.heco_measure.proofs.Plaintexts.{decrypted_plain, message_plain, next_behind}
use Rattle.heco_measure.proofs.wire_messages.wire_messages.Goals as goal

pub loop-gate-init : goal.loop-gate-init
unfolding measured_messages messages_along
loop-gate-init c =
    let p = c.args.s.now.preset in
    let s = c.args.s.now.places in
    let ins = c.args.ins.now in
    let vectors = c.args.c.now.vectors in
    record {
      count = ap length c.in_ok-messages.ensures ∙ length-map ins (decrypted p s) ∙ c.requires.count ∙ omega arith;
      whole = ap₂ (λ ms gs. along (with_message p vectors) ms gs) c.in_ok-messages.ensures (c.as_slice-gates.ensures ∙ c.gates.ensures);
      plaintexts = rw (c.in_ok-messages.ensures) (All-map (IsPlaintext p) (decrypted p s) ins (λ k d l. decrypted_plain p s (get_or ins k d)));
    }

pub gate_message-requires-clause-gate : goal.gate_message-requires-clause-gate
gate_message-requires-clause-gate c =
    let wires = ap length c.as_slice.ensures.value ∙ c.loop-gate.invariant.count in
    rw (c.in_ok-table.ensures, c.preset.ensures, c.as_slice-vectors.ensures, c.vectors.ensures, wires)
    (next_behind c.args.s.now.preset c.args.c.now c.loop-gate.gate-index c.requires.preset c.preset-valid.ensures.valid c.as_slice-gates.result.now (c.as_slice-gates.ensures ∙ c.gates.ensures) c.loop-gate-test.true)

pub gate_message-requires-clause-vectors : goal.gate_message-requires-clause-vectors
gate_message-requires-clause-vectors c =
    rw (c.in_ok-table.ensures, c.preset.ensures, c.as_slice-vectors.ensures, c.vectors.ensures) (circuit_formed c.args.s.now.preset c.args.c.now c.requires.preset c.preset-valid.ensures.valid)

pub loop-gate-preserved : goal.loop-gate-preserved
loop-gate-preserved c =
    let p = c.args.s.now.preset in
    let k = c.loop-gate.gate-index in
    let gates = c.as_slice-gates.result.now in
    let messages = c.loop-gate.messages.items in
    let vectors = c.args.c.now.vectors in
    let g = get_or gates k (Neg 0) in
    let made : c.in_ok-message.message ≡ message_by p vectors messages g = rw (c.in_ok-table.ensures, c.preset.ensures, c.as_slice-vectors.ensures, c.vectors.ensures, c.as_slice.ensures.value) at c.in_ok-message.ensures in
    let behind = next_behind p c.args.c.now k c.requires.preset c.preset-valid.ensures.valid gates (c.as_slice-gates.ensures ∙ c.gates.ensures) c.loop-gate-test.true in
    let plain : IsPlaintext p c.in_ok-message.message = rw made (message_plain p vectors messages g c.loop-gate.invariant.plaintexts (rw (c.loop-gate.invariant.count) behind)) in
    record {
      count = ap length c.in_ok-push.ensures.items ∙ length_push messages c.in_ok-message.message ∙ omega (arith, c.loop-gate.invariant.count);
      whole = rw (c.in_ok-push.ensures.items) (along_more p vectors messages gates k (Neg 0) c.in_ok-message.message c.loop-gate-test.true made ∙ c.loop-gate.invariant.whole);
      plaintexts = rw (c.in_ok-push.ensures.items) (All-push (IsPlaintext p) messages c.in_ok-message.message c.loop-gate.invariant.plaintexts plain);
    }

pub returns-clause-messages : goal.returns-clause-messages
returns-clause-messages c =
    let p = c.args.s.now.preset in
    let gates = c.as_slice-gates.result.now in
    let end = drop_all c.loop-gate.gate-index gates (omega (arith, c.loop-gate-test.false)) in
    sym (ap (along (with_message p c.args.c.now.vectors) c.loop-gate.messages.items) end) ∙ c.loop-gate.invariant.whole
