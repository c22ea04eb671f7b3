-- The preset that a word names.
use Rattle.std.specs.Prelude.{ℕ, Bool, List, ◌==◌, not, if◌then◌else◌}
use Rattle.std.specs.Str.{bytes_eq}
use Rattle.heco_nums.specs.Presets.{preset_name, slots_of}

-- the number of the preset of this name, or 0
abbrev pub id_named : List ℕ → ℕ
id_named name =
    if bytes_eq name (preset_name 1) then 1 else if bytes_eq name (preset_name 2) then 2
    else if bytes_eq name (preset_name 3) then 3 else if bytes_eq name (preset_name 4) then 4
    else if bytes_eq name (preset_name 5) then 5 else 0

abbrev pub names_preset : List ℕ → Bool
names_preset name = not (id_named name == 0)

-- the slots of one row of the preset of this name
abbrev pub slots_named : List ℕ → ℕ
slots_named name = slots_of (id_named name)
