-- The errors of a preset fit a byte.
use Rattle.std.proofs.Common.{◌<◌, arith}
use Rattle.heco_nums.specs.declared.preset.Preset.{Preset}
use Rattle.heco_nums.proofs.PresetFacts.{facts}

pub small_error : (p : Preset) → p.b < 128
small_error p = omega (arith, (facts p).b_small)
