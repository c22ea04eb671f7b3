-- A preset's modulus is that of its name.
use Rattle.std.proofs.Common.{◌≡◌, ◌∙◌, ap, sym, ℕ, List}
use Rattle.heco_nums.specs.Presets.{preset_name, modulus_of}
use Rattle.heco_nums.specs.declared.preset.Preset.{Preset}
use Rattle.heco_types.proofs.PresetWords.{id_named-is}
use Rattle.heco_eval.specs.Typed.{modulus_named}

pub modulus_is : (p : Preset) (name : List ℕ) → preset_name p.id ≡ name → p.t ≡ modulus_named name
modulus_is p name is = let row = p.row in row.4 ∙ ap modulus_of (sym (id_named-is p.id name row.0 row.1 is))
