-- What contracts see of room that is made for a preset.
use Rattle.heco_nums.specs.declared.preset.Preset.{Preset}

pub record OfPreset : Type 0 where
  pub preset : Preset
