-- Gates read one after the other, beside the parts of all wires.
use Rattle.std.proofs.Common.{ap, ◌∙◌, sym, ◌≡◌, ◌++◌, ◌∷◌, []}
use Rattle.std.proofs.lemmas.Result.{err_from_is_err_and}
use Rattle.heco_fields.specs.Formats.{many}
use Rattle.heco_fields.specs.Readings.{reading}
use Rattle.heco_nums.specs.Runs.{along}
use Rattle.heco_fields.proofs.Loops.{goes_on, fails, is_done, along_push}
use Rattle.heco_circuit.specs.Validity.{with_gate, parts_of}
use Rattle.heco_circuit.specs.GateFormat.{gate}
use Rattle.heco_circuit.proofs.read_gates.gates_at.Goals as goal

pub returns-in_err-gate-clause-gates : goal.returns-in_err-gate-clause-gates
returns-in_err-gate-clause-gates c =
    let p = err_from_is_err_and c.from_residual.result c.from_residual.ensures.1 in
    rw (p.1, p.2) (fails c.in_err-gate.field-0.0 (gate c.args.version c.args.t c.args.slots c.args.vectors) with_gate c.loop.gates c.args.count c.loop.counter c.loop.parts c.loop.rest.now (reading (many (gate c.args.version c.args.t c.args.slots c.args.vectors) with_gate c.args.count c.args.inputs) c.args.bytes.now)
    c.loop-test.true (rw c.as_slice.ensures at c.in_err-gate.ensures.read) c.loop.invariant.read)

pub loop-preserved : goal.loop-preserved
loop-preserved c =
    let g = c.in_ok-gate.gate in
    let count : c.parts_of.result ≡ parts_of c.loop.parts g = rw c.as_slice-in-loop.ensures at c.parts_of.ensures in
    let pushed : c.push.new.self ≡ with_gate c.loop.parts g = c.in_ok-push.ensures.ok ∙ ap (λ n. c.loop.parts ++ n ∷ []) count in
    let gates : c.push-in-loop.new.self ≡ c.loop.gates ++ g ∷ [] = c.in_ok-push-2.ensures.ok in
    record {
      read = rw (pushed, gates) (goes_on (gate c.args.version c.args.t c.args.slots c.args.vectors) with_gate c.loop.gates c.args.count c.loop.counter c.loop.parts c.loop.rest.now g c.in_ok-gate.after.now
          (reading (many (gate c.args.version c.args.t c.args.slots c.args.vectors) with_gate c.args.count c.args.inputs) c.args.bytes.now) c.loop-test.true (rw c.as_slice.ensures at c.in_ok-gate.ensures.read) c.loop.invariant.read);
      parts = pushed ∙ ap (λ ps. with_gate ps g) c.loop.invariant.parts ∙ sym (along_push with_gate c.args.inputs c.loop.gates g) ∙ ap (along with_gate c.args.inputs) (sym gates);
    }

pub returns-clause-gates : goal.returns-clause-gates
returns-clause-gates c = is_done (gate c.args.version c.args.t c.args.slots c.args.vectors) with_gate c.loop.gates c.args.count c.loop.counter c.loop.parts c.loop.rest.now (reading (many (gate c.args.version c.args.t c.args.slots c.args.vectors) with_gate c.args.count c.args.inputs) c.args.bytes.now) c.loop-test.false c.loop.invariant.read
