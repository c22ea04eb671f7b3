use Rattle.std.proofs.Common.{◌≡◌, ◌∙◌, length, map, IfOk, sym, ap, subst}
use Rattle.std.specs.List.{range_with_len}
use Rattle.heco_nums.specs.declared.preset.Preset.{Preset}
use Rattle.heco_run.specs.Making.{keys_of}
use Rattle.heco_run.proofs.Starting.{opens, serves_all}
use Rattle.heco_run_laws.specs.Measured.{measured_messages}
use Rattle.heco_run_laws.specs.Runs.{run_of}
use Rattle.heco_measure.specs.Measuring.{measured_of}
use Rattle.heco_measure.specs.inside.Stores.{AreEntries, ciphertext_in}
use Rattle.heco_measure.proofs.Storing.{length-run, are_entries, ciphertext_is, all_measured}
use Rattle.heco_measure.proofs.measuring.measure.Goals as goal

pub wire_messages-requires-clause-count : goal.wire_messages-requires-clause-count
wire_messages-requires-clause-count c = (opens c.args.c.now c.args.e.now.needs (length c.args.ins.now) c.requires.keys).count

pub measure_all-requires-clause-entries : goal.measure_all-requires-clause-entries
measure_all-requires-clause-entries c =
    let p = c.args.c.now in
    let e = c.args.e.now in
    let ins = c.args.ins.now in
    let valid = c.preset-valid.ensures.valid in
    let serves = serves_all p e (length ins) valid.0 c.requires.preset c.requires.keys in
    let many = (opens p e.needs (length ins) c.requires.keys).count in
    let run = run_of e.preset (keys_of e) p ins in
    let long = length-run p e ins valid serves many in
    let store = c.in_ok-store.store.items in
    subst (λ (q : Preset). AreEntries q.n store) (sym c.requires.one_preset) (are_entries p e.preset.n run store long c.in_ok-store.ensures)

pub returns : goal.returns
returns c =
    let p = c.args.c.now in
    let e = c.args.e.now in
    let ins = c.args.ins.now in
    let valid = c.preset-valid.ensures.valid in
    let serves = serves_all p e (length ins) valid.0 c.requires.preset c.requires.keys in
    let many = (opens p e.needs (length ins) c.requires.keys).count in
    let run = run_of e.preset (keys_of e) p ins in
    let long = length-run p e ins valid serves many in
    let store = c.in_ok-store.store.items in
    let s = c.args.s.now.places in
    let messages = c.as_slice.result.now in
    let bounds = c.as_slice-2.result.now in
    let same = c.as_slice.ensures.value ∙ c.in_ok-messages.ensures.messages ∙ ap (λ (q : Preset). measured_messages q s p ins) c.requires.one_preset in
    let count = ap length c.as_slice.ensures.value ∙ c.in_ok-messages.ensures.count in
    let all = ap (λ (q : Preset). map (measured_of q s (ciphertext_in store) messages bounds) (range_with_len 0 (length messages))) c.requires.one_preset
    ∙ all_measured e.preset s (keys_of e) p ins store messages bounds (ciphertext_is p e.preset.n run store long c.in_ok-store.ensures) same (c.as_slice-2.ensures ∙ c.in_ok-bounds.ensures) count in
    subst (λ lines. IfOk c.measure_all.result (λ list. list ≡ lines)) all c.measure_all.ensures
