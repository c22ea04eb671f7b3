-- The files of material that a seed draws for a circuit.
use Rattle.std.specs.Prelude.{ℕ, List, length}
use Rattle.heco_nums.specs.Presets.{degree_of, hamming_weight_of, error_of}
use Rattle.heco_circuit.specs.Plans.{Plan as Circuit}
use Rattle.heco_circuit.specs.Needs.{needed_keys}
use Rattle.heco_draw.specs.Words.{start}
use Rattle.heco_material.specs.Drawn.{drawn_keys, drawn_encryptions}
use Rattle.heco_material.specs.EncFormat.{encryptions_text}
use Rattle.heco_material.specs.KeyFormat.{keys_text}
use Rattle.heco_material.specs.KeyLists.{KeyLists}

abbrev pub drawn_material : Circuit → ℕ → KeyLists
drawn_material c seed = drawn_keys (start seed 1) (degree_of c.preset) (hamming_weight_of c.preset) (error_of c.preset) (needed_keys c)

unfoldable pub key_material_file : Circuit → ℕ → List ℕ
key_material_file c seed = keys_text (drawn_material c seed)

-- for each input in order
unfoldable pub encryption_material_file : Circuit → ℕ → List ℕ
encryption_material_file c seed =
    encryptions_text (drawn_encryptions (start seed 2) (degree_of c.preset) (hamming_weight_of c.preset) (error_of c.preset) (length c.inputs))
