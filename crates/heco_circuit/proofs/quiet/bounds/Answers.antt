use Rattle.std.proofs.Common.{◌≡◌, ap, ◌∙◌}
use Rattle.heco_nums.specs.Presets.{modulus_of, slots_of}
use Rattle.heco_circuit.proofs.Sizes.{formed_gates}
use Rattle.heco_circuit.proofs.quiet.bounds.Goals as goal

pub noise_of-requires-clause-constants : goal.noise_of-requires-clause-constants
noise_of-requires-clause-constants c =
    let f = formed_gates c.args.c.now c.preset.ensures.valid.0 in
    let t : c.preset.result.now.t ≡ modulus_of c.args.c.now.preset = c.preset.result.now.row.4 ∙ ap modulus_of c.preset.ensures.preset in
    rw (t, c.as_slice-3.ensures, c.gates.ensures) f.constants

pub noise_of-requires-clause-vectors : goal.noise_of-requires-clause-vectors
noise_of-requires-clause-vectors c =
    let f = formed_gates c.args.c.now c.preset.ensures.valid.0 in
    let t : c.preset.result.now.t ≡ modulus_of c.args.c.now.preset = c.preset.result.now.row.4 ∙ ap modulus_of c.preset.ensures.preset in
    let s : c.preset.result.now.slots ≡ slots_of c.args.c.now.preset = c.preset.result.now.row.3 ∙ ap slots_of c.preset.ensures.preset in
    rw (t, s, c.as_slice-2.ensures, c.vectors.ensures) f.vectors
