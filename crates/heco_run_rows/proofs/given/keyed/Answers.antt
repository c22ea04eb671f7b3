use Rattle.std.proofs.Common.{◌≡◌, ◌∙◌, ap, sym}
use Rattle.heco_circuit.specs.Needs.{needed_turns}
use Rattle.heco_circuit.specs.Plans.{Plan}
use Rattle.heco_circuit.proofs.Rising.{needed_amounts}
use Rattle.heco_keys.specs.Amounts.{AreAmounts}
use Rattle.heco_nums.specs.Presets.{slots_of}
use Rattle.heco_nums.specs.declared.preset.Preset.{Preset}
use Rattle.heco_nums.proofs.PresetFacts.{some_slots}
use Rattle.heco_run_rows.proofs.given.keyed.Goals as goal

circuit_amounts : (c : Plan) (p : Preset) → p.id ≡ c.preset → AreAmounts p.slots (needed_turns c)
circuit_amounts c p id = needed_amounts c p.slots (ap slots_of (sym id) ∙ sym p.row.3) (some_slots p)

pub made-requires-clause-amounts : goal.made-requires-clause-amounts
made-requires-clause-amounts c =
    let k = c.in_ok-k.ensures.kept in
    rw (k.2, c.in_ok-needed.ensures.turns) (circuit_amounts c.args.other.now c.in_ok-k.k.preset (ap (λ (p : Preset). p.id) k.0 ∙ c.preset.ensures.preset))
