use Rattle.std.proofs.Common.{rules, ◌≡◌, ℕ, List, ◌+◌, length, replicate, sym, ◌∙◌, ap, refl, arith, None}
use Rattle.heco_schedules.specs.declared.event.Stage.TheVariants.{Open}
use Rattle.heco_sched.specs.Wirings.{operands_of, output_wires, wiring_of, wiring}
use Rattle.heco_schedules.proofs.Lists.{length-map}
use Rattle.heco_circuit.specs.declared.gate.Gate.{Gate}
use Rattle.heco_circuit.specs.Plans.{Plan}
use Rattle.heco_schedules.specs.Standings.{Standing}
use Rattle.heco_schedules.specs.Schedules.{Schedule}
use Rattle.heco_schedules.specs.Runs.{fresh}
use Rattle.heco_sched.proofs.Wired.{Wired, circuit_wired}
use Rattle.heco_sched.proofs.Kept.{reads_wires}
use Rattle.heco_sched.proofs.Fresh.{fresh_board, fresh_is, reaches_of}
use Rattle.heco_sched.proofs.board.Board.open.Goals as goal

view_is : (p : Plan) (workers inputs : ℕ) (gates : List Gate) (outputs : List ℕ) (s : Standing) → inputs ≡ length p.inputs → gates ≡ p.gates → outputs ≡ output_wires p.outputs → s ≡ fresh (wiring_of inputs gates outputs) workers
    → ◌≡◌ {A = Schedule} (record { circuit = wiring_of inputs gates outputs; standing = s }) (record { circuit = wiring p; standing = fresh (wiring p) workers })
view_is p workers inputs gates outputs s i g o same = rw (same, i, g, o) refl

pub ready_ones-requires-clause-wired : goal.ready_ones-requires-clause-wired
ready_ones-requires-clause-wired c =
    let inputs = c.len-inputs.ensures ∙ ap length c.inputs.ensures in
    let gates = c.in_ok-gates.ensures.items ∙ c.as_slice.ensures ∙ c.gates.ensures in
    let outputs = c.in_ok-outputs.ensures ∙ ap output_wires (c.as_slice-2.ensures ∙ c.outputs.ensures) in
    let facts : Wired c.len-inputs.result c.in_ok-gates.gates.items c.in_ok-outputs.outputs.items = rw (inputs, gates, outputs) (circuit_wired c.args.c.now c.preset-valid.ensures.valid.0) in
    rw c.deref.ensures.value (reads_wires _ facts.wired)

pub count_uses-requires-clause-few : goal.count_uses-requires-clause-few
count_uses-requires-clause-few c =
    let inputs = c.len-inputs.ensures ∙ ap length c.inputs.ensures in
    let gates = c.in_ok-gates.ensures.items ∙ c.as_slice.ensures ∙ c.gates.ensures in
    let outputs = c.in_ok-outputs.ensures ∙ ap output_wires (c.as_slice-2.ensures ∙ c.outputs.ensures) in
    let facts : Wired c.len-inputs.result c.in_ok-gates.gates.items c.in_ok-outputs.outputs.items = rw (inputs, gates, outputs) (circuit_wired c.args.c.now c.preset-valid.ensures.valid.0) in
    let few = facts.few_outputs in
    rw c.deref-4.ensures.value (omega arith)

pub count_uses-requires-clause-reach : goal.count_uses-requires-clause-reach
count_uses-requires-clause-reach c gate wire named =
    let inputs = c.len-inputs.ensures ∙ ap length c.inputs.ensures in
    let gates = c.in_ok-gates.ensures.items ∙ c.as_slice.ensures ∙ c.gates.ensures in
    let outputs = c.in_ok-outputs.ensures ∙ ap output_wires (c.as_slice-2.ensures ∙ c.outputs.ensures) in
    let facts : Wired c.len-inputs.result c.in_ok-gates.gates.items c.in_ok-outputs.outputs.items = rw (inputs, gates, outputs) (circuit_wired c.args.c.now c.preset-valid.ensures.valid.0) in
    let low = reaches_of _ facts.wired gate wire (rw c.deref-3.ensures.value at named) in
    omega (arith, length-map operands_of c.in_ok-gates.gates.items, low)

pub count_uses-requires-clause-named : goal.count_uses-requires-clause-named
count_uses-requires-clause-named c wire named =
    let inputs = c.len-inputs.ensures ∙ ap length c.inputs.ensures in
    let gates = c.in_ok-gates.ensures.items ∙ c.as_slice.ensures ∙ c.gates.ensures in
    let outputs = c.in_ok-outputs.ensures ∙ ap output_wires (c.as_slice-2.ensures ∙ c.outputs.ensures) in
    let facts : Wired c.len-inputs.result c.in_ok-gates.gates.items c.in_ok-outputs.outputs.items = rw (inputs, gates, outputs) (circuit_wired c.args.c.now c.preset-valid.ensures.valid.0) in
    let low = facts.wired.outputs wire (rw c.deref-4.ensures.value at named) in
    omega (arith, length-map operands_of c.in_ok-gates.gates.items, low)

pub of-requires-clause-reach : goal.of-requires-clause-reach
of-requires-clause-reach c gate wire named =
    let inputs = c.len-inputs.ensures ∙ ap length c.inputs.ensures in
    let gates = c.in_ok-gates.ensures.items ∙ c.as_slice.ensures ∙ c.gates.ensures in
    let outputs = c.in_ok-outputs.ensures ∙ ap output_wires (c.as_slice-2.ensures ∙ c.outputs.ensures) in
    let facts : Wired c.len-inputs.result c.in_ok-gates.gates.items c.in_ok-outputs.outputs.items = rw (inputs, gates, outputs) (circuit_wired c.args.c.now c.preset-valid.ensures.valid.0) in
    let low = reaches_of _ facts.wired gate wire (rw c.deref-5.ensures.value at named) in
    omega (arith, length-map operands_of c.in_ok-gates.gates.items, low)

pub invariant_of-result : goal.invariant_of-result
invariant_of-result c =
    let inputs = c.len-inputs.ensures ∙ ap length c.inputs.ensures in
    let gates = c.in_ok-gates.ensures.items ∙ c.as_slice.ensures ∙ c.gates.ensures in
    let outputs = c.in_ok-outputs.ensures ∙ ap output_wires (c.as_slice-2.ensures ∙ c.outputs.ensures) in
    let facts : Wired c.len-inputs.result c.in_ok-gates.gates.items c.in_ok-outputs.outputs.items = rw (inputs, gates, outputs) (circuit_wired c.args.c.now c.preset-valid.ensures.valid.0) in
    let count : c.len.result ≡ length c.in_ok-gates.gates.items = omega arith in
    let stages : c.in_ok-stages.stages.items ≡ replicate (length c.in_ok-gates.gates.items) Open = c.in_ok-stages.ensures.items_if_clones_equal (λ y e. e) ∙ ap (λ n. replicate n Open) count in
    let holds : c.in_ok-workers.workers.items ≡ replicate c.args.workers None = c.in_ok-workers.ensures.items_if_clones_equal (λ y e. search rules) ∙ ap (λ n. replicate n None) c.from.ensures in
    let count2 : c.len-2.result ≡ length c.in_ok-gates.gates.items = omega arith in
    let count3 : c.len-3.result ≡ length c.in_ok-gates.gates.items = omega arith in
    fresh_board c.len-inputs.result c.in_ok-gates.gates.items c.in_ok-outputs.outputs.items c.args.workers c.in_ok-stages.stages.items c.in_ok-workers.workers.items _ _ _ _ _ _
    facts c.requires.some c.requires.few stages holds (rw (c.deref.ensures.value, c.deref-2.ensures.value) at c.in_ok-ready.ensures.ready) (rw c.deref.ensures.value at c.in_ok-ready.ensures.places)
    (c.in_ok-uses.ensures.count ∙ ap (λ n. c.len-inputs.result + n) count2) (rw (c.deref-3.ensures.value, c.deref-4.ensures.value) at c.in_ok-uses.ensures.each)
    (rw (c.deref-5.ensures.value, count3) at c.in_ok-readers.ensures)

pub returns : goal.returns
returns c =
    let inputs = c.len-inputs.ensures ∙ ap length c.inputs.ensures in
    let gates = c.in_ok-gates.ensures.items ∙ c.as_slice.ensures ∙ c.gates.ensures in
    let outputs = c.in_ok-outputs.ensures ∙ ap output_wires (c.as_slice-2.ensures ∙ c.outputs.ensures) in
    let facts : Wired c.len-inputs.result c.in_ok-gates.gates.items c.in_ok-outputs.outputs.items = rw (inputs, gates, outputs) (circuit_wired c.args.c.now c.preset-valid.ensures.valid.0) in
    let count : c.len.result ≡ length c.in_ok-gates.gates.items = omega arith in
    let stages : c.in_ok-stages.stages.items ≡ replicate (length c.in_ok-gates.gates.items) Open = c.in_ok-stages.ensures.items_if_clones_equal (λ y e. e) ∙ ap (λ n. replicate n Open) count in
    let holds : c.in_ok-workers.workers.items ≡ replicate c.args.workers None = c.in_ok-workers.ensures.items_if_clones_equal (λ y e. search rules) ∙ ap (λ n. replicate n None) c.from.ensures in
    let all = length-map operands_of c.in_ok-gates.gates.items in
    let c' = wiring_of c.len-inputs.result c.in_ok-gates.gates.items c.in_ok-outputs.outputs.items in
    let same = fresh_is c' c.args.workers c.in_ok-stages.stages.items c.in_ok-workers.workers.items (stages ∙ ap (λ n. replicate n Open) (sym all)) holds in
    view_is c.args.c.now c.args.workers _ _ _ _ inputs gates outputs same
