-- What a seed draws: the values of both inputs, and the encryption material of a circuit; and what comes of it all.
use Rattle.std.specs.Prelude.{ℕ, List, [], ◌∷◌, take, drop, length}
use Rattle.heco_circuit.specs.Plans.{Plan as Circuit}
use Rattle.heco_draw.specs.Words.{start, values}
use Rattle.heco_headline.specs.Exec.{text_of}
use Rattle.heco_material.specs.Drawn.{drawn_encryptions}
use Rattle.heco_material.specs.declared.words.EncRow.{EncRow}
use Rattle.heco_nums.specs.Presets.{degree_of, hamming_weight_of, error_of}
use Rattle.heco_tasks.specs.DrawnFiles.{drawn_material}

-- 1,024 words of stream 3, each modulo t: the 512 values of the first input, and then those of the second
abbrev pub drawn_values : ℕ → List ℕ
drawn_values seed = values (start seed 3) 65537 1024

abbrev pub drawn_rows : ℕ → List (List ℕ)
drawn_rows seed = take 512 (drawn_values seed) ∷ drop 512 (drawn_values seed) ∷ []

-- for each input of the circuit in order
abbrev pub drawn_words : Circuit → ℕ → List EncRow
drawn_words c seed = drawn_encryptions (start seed 2) (degree_of c.preset) (hamming_weight_of c.preset) (error_of c.preset) (length c.inputs)

-- the keys are made and the inputs encrypted of the drawn material, the circuit is run, and its result is decrypted: the text of the outputs
abbrev pub decrypted_text : Circuit → ℕ → List ℕ
decrypted_text c seed = text_of c (drawn_material c seed) (drawn_words c seed) (drawn_rows seed)
