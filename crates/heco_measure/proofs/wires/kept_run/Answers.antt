use Rattle.std.proofs.Common.{◌≡◌, ◌∙◌, ◌+◌, ℕ, length, get_or, ap, subst, arith}
use Rattle.heco_circuit.specs.declared.gate.Gate.TheVariants.{Neg}
use Rattle.heco_nums.specs.declared.preset.Preset.{Preset}
use Rattle.heco_run.specs.Making.{keys_of, weighers_of}
use Rattle.heco_run.specs.Shapes.{IsShaped}
use Rattle.heco_run.proofs.Gathering.{some_is}
use Rattle.heco_run.proofs.Starting.{opens, serves_all}
use Rattle.heco_run.proofs.VectorWeighers.{weighers_long}
use Rattle.heco_run_laws.specs.Runs.{run_of}
use Rattle.heco_measure.specs.inside.Stores.{HasFirst}
use Rattle.heco_measure.proofs.Plaintexts.{gate_there}
use Rattle.heco_measure.proofs.Storing.{first_wires, operands_found, vector, takes, parts, next_wires}
use Rattle.heco_measure.proofs.wires.kept_run.Goals as goal

pub input_store-requires : goal.input_store-requires
input_store-requires c = rw (c.preset-p.ensures) c.requires.inputs

pub loop-gate-init : goal.loop-gate-init
loop-gate-init c =
    let p = c.args.c.now in
    let e = c.args.e.now in
    let ins = c.args.ins.now in
    let valid = c.preset-valid.ensures.valid in
    let serves = serves_all p e (length ins) valid.0 c.requires.preset c.requires.keys in
    let many = (opens p e.needs (length ins) c.requires.keys).count in
    record { room = c.in_ok-room.ensures ∙ c.preset-p.ensures; store = first_wires p e ins valid serves many c.in_ok-store.store.items c.requires.inputs c.in_ok-store.ensures }

pub buffer-requires-clause-found : goal.buffer-requires-clause-found
buffer-requires-clause-found c =
    let p = c.args.c.now in
    let e = c.args.e.now in
    let ins = c.args.ins.now in
    let valid = c.preset-valid.ensures.valid in
    let serves = serves_all p e (length ins) valid.0 c.requires.preset c.requires.keys in
    let many = (opens p e.needs (length ins) c.requires.keys).count in
    let k = c.loop-gate.gate-index in
    let gates = c.as_slice-gates.result.now in
    let at = gate_there p gates k (c.as_slice-gates.ensures ∙ c.gates.ensures) c.loop-gate-test.true in
    let g = get_or gates k (Neg 0) in
    let store = c.loop-gate.store.items in
    let has = c.loop-gate.invariant.store in
    operands_found p e ins valid serves many k g at store has

pub buffer-requires-clause-store : goal.buffer-requires-clause-store
buffer-requires-clause-store c = λ wire x found. rw (c.preset-p.ensures) (c.loop-gate.invariant.store.shaped wire x found).ciphertext

pub make_gate-requires-clause-weighers : goal.make_gate-requires-clause-weighers
make_gate-requires-clause-weighers c =
    let vectors = c.args.c.now.vectors in
    weighers_long c.args.e.now.preset c.as_slice.result.now vectors (c.as_slice.ensures ∙ c.in_ok-weighers.ensures ∙ ap (λ (q : Preset). weighers_of q vectors) c.preset-p.ensures)

pub make_gate-requires-clause-vector : goal.make_gate-requires-clause-vector
make_gate-requires-clause-vector c =
    let p = c.args.c.now in
    let e = c.args.e.now in
    let ins = c.args.ins.now in
    let valid = c.preset-valid.ensures.valid in
    let serves = serves_all p e (length ins) valid.0 c.requires.preset c.requires.keys in
    let many = (opens p e.needs (length ins) c.requires.keys).count in
    let k = c.loop-gate.gate-index in
    let gates = c.as_slice-gates.result.now in
    let at = gate_there p gates k (c.as_slice-gates.ensures ∙ c.gates.ensures) c.loop-gate-test.true in
    let g = get_or gates k (Neg 0) in
    vector p e ins valid serves many k g at c.loop-gate.store.items c.loop-gate.invariant.store c.as_slice.result.now
    (c.as_slice.ensures ∙ c.in_ok-weighers.ensures ∙ ap (λ (q : Preset). weighers_of q p.vectors) c.preset-p.ensures)

pub make_gate-requires-clause-found : goal.make_gate-requires-clause-found
make_gate-requires-clause-found c =
    let p = c.args.c.now in
    let e = c.args.e.now in
    let ins = c.args.ins.now in
    let valid = c.preset-valid.ensures.valid in
    let serves = serves_all p e (length ins) valid.0 c.requires.preset c.requires.keys in
    let many = (opens p e.needs (length ins) c.requires.keys).count in
    let k = c.loop-gate.gate-index in
    let gates = c.as_slice-gates.result.now in
    let at = gate_there p gates k (c.as_slice-gates.ensures ∙ c.gates.ensures) c.loop-gate-test.true in
    let g = get_or gates k (Neg 0) in
    let store = c.loop-gate.store.items in
    let has = c.loop-gate.invariant.store in
    operands_found p e ins valid serves many k g at store has

pub make_gate-requires-clause-store : goal.make_gate-requires-clause-store
make_gate-requires-clause-store c = λ wire x found. (c.loop-gate.invariant.store.shaped wire x found).ciphertext

pub make_gate-requires-clause-takes : goal.make_gate-requires-clause-takes
make_gate-requires-clause-takes c =
    let p = c.args.c.now in
    let e = c.args.e.now in
    let ins = c.args.ins.now in
    let valid = c.preset-valid.ensures.valid in
    let serves = serves_all p e (length ins) valid.0 c.requires.preset c.requires.keys in
    let many = (opens p e.needs (length ins) c.requires.keys).count in
    let k = c.loop-gate.gate-index in
    let gates = c.as_slice-gates.result.now in
    let at = gate_there p gates k (c.as_slice-gates.ensures ∙ c.gates.ensures) c.loop-gate-test.true in
    let g = get_or gates k (Neg 0) in
    let store = c.loop-gate.store.items in
    let has = c.loop-gate.invariant.store in
    takes p e ins valid serves many k g at store has

pub make_gate-requires-clause-out : goal.make_gate-requires-clause-out
make_gate-requires-clause-out c =
    let p = c.args.c.now in
    let e = c.args.e.now in
    let ins = c.args.ins.now in
    let valid = c.preset-valid.ensures.valid in
    let serves = serves_all p e (length ins) valid.0 c.requires.preset c.requires.keys in
    let many = (opens p e.needs (length ins) c.requires.keys).count in
    let k = c.loop-gate.gate-index in
    let gates = c.as_slice-gates.result.now in
    let at = gate_there p gates k (c.as_slice-gates.ensures ∙ c.gates.ensures) c.loop-gate-test.true in
    let g = get_or gates k (Neg 0) in
    let store = c.loop-gate.store.items in
    let has = c.loop-gate.invariant.store in
    let xs = some_is _ (operands_found p e ins valid serves many k g at store has) in
    rw (c.preset-p.ensures) at (c.in_ok-out.ensures xs.0 xs.1).ciphertext

pub make_gate-requires-clause-parts : goal.make_gate-requires-clause-parts
make_gate-requires-clause-parts c = λ xs all. (c.in_ok-out.ensures xs all).count

pub loop-gate-preserved : goal.loop-gate-preserved
loop-gate-preserved c =
    let p = c.args.c.now in
    let e = c.args.e.now in
    let ins = c.args.ins.now in
    let valid = c.preset-valid.ensures.valid in
    let serves = serves_all p e (length ins) valid.0 c.requires.preset c.requires.keys in
    let many = (opens p e.needs (length ins) c.requires.keys).count in
    let k = c.loop-gate.gate-index in
    let gates = c.as_slice-gates.result.now in
    let at = gate_there p gates k (c.as_slice-gates.ensures ∙ c.gates.ensures) c.loop-gate-test.true in
    let g = get_or gates k (Neg 0) in
    let store = c.loop-gate.store.items in
    let has = c.loop-gate.invariant.store in
    let xs = some_is _ (operands_found p e ins valid serves many k g at store has) in
    let weighed = c.as_slice.ensures ∙ c.in_ok-weighers.ensures ∙ ap (λ (q : Preset). weighers_of q p.vectors) c.preset-p.ensures in
    let long = (c.in_ok-out.ensures xs.0 xs.1).count ∙ parts p e ins valid serves many k g at store has xs.0 xs.1 in
    let shape = subst (λ (j : ℕ). IsShaped e.preset.n j c.make_gate.new.out) long c.make_gate.ensures.shape in
    record {
      room = c.make_gate.ensures.preset ∙ c.loop-gate.invariant.room;
      store = rw (c.in_ok-push.ensures.items) (next_wires p e ins valid serves many k g at store has c.make_gate.new.out (c.make_gate.ensures.made p.vectors weighed) shape);
    }

pub returns : goal.returns
returns c =
    let p = c.args.c.now in
    let e = c.args.e.now in
    let end : c.loop-gate.gate-index ≡ length p.gates = omega (arith, c.loop-gate-test.false, c.loop-gate.auto.gate-index-end, ap length (c.as_slice-gates.ensures ∙ c.gates.ensures)) in
    subst (λ (j : ℕ). HasFirst p e.preset.n (run_of e.preset (keys_of e) p c.args.ins.now) (length p.inputs + j) c.loop-gate.store.items) end c.loop-gate.invariant.store
