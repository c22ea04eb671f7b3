-- What comes of one circuit, of material and of values: the files and the text.
use Rattle.std.specs.Prelude.{◌≡◌, ℕ, ◌+◌, List, [], ◌∷◌, Some, ℤ}
use Rattle.heco_ciphertext_files.specs.CiphertextFiles.{file_text, magic_of}
use Rattle.heco_ciphertext_files.specs.declared.kind.FileKind.TheVariants.{Cts}
use Rattle.heco_circuit.specs.CircuitFormat.{circuit_text}
use Rattle.heco_circuit.specs.Needs.{needs_relin, needed_turns, needed_keys}
use Rattle.heco_circuit.specs.Plans.{Plan as Circuit}
use Rattle.heco_headline.specs.Exec.{files_of, text_of}
use Rattle.heco_key_files.specs.KeyFiles.{EvalLists, eval_text, secret_text}
use Rattle.heco_material.specs.KeyLists.{KeyLists, lists_of, IsKeyMaterial}
use Rattle.heco_material.specs.declared.words.EncRow.{EncRow}
use Rattle.heco_material.specs.declared.words.KeyWords.{KeyWords}
use Rattle.heco_nums.specs.declared.preset.Preset.{Preset}
use Rattle.heco_nums.specs.PresetRows.{preset_of}
use Rattle.heco_products.specs.Results.{results_file}
use Rattle.heco_run_laws.specs.Runs.{Ciphertext}
use Rattle.heco_jobs.specs.Products.{planned}
use Rattle.heco_jobs.specs.declared.product.Planned.{Planned}
use Rattle.heco_jobs.specs.declared.product.Product.{Product}

-- these files into the words from this number on
abbrev pub numbered : ℕ → List (List ℕ) → List Planned
numbered which [] = []
numbered which (file ∷ files) = planned which file ∷ numbered (which + 1) files

-- the files of a circuit, of both keys, of encrypted inputs, whatever their messages are, and of the result of the circuit's run on these
abbrev pub run_files : Preset → Circuit → List ℤ → EvalLists → List Ciphertext → List (List ℕ)
run_files p c s e inputs = circuit_text c ∷ secret_text p.id s ∷ eval_text p.id e ∷ file_text (magic_of Cts) p.id inputs ∷ results_file p c e inputs ∷ []

-- the circuit, both keys, the encrypted inputs and the result are written into words 5 to 9, and what decrypting the result prints is printed
pub record Yields (c : Circuit) (k : KeyLists) (material : List EncRow) (rows : List (List ℕ)) (p : Product) : Type 0 where
  pub writes : p.writes ≡ numbered 5 (files_of c k material rows)
  pub text : p.text ≡ Some (text_of c k material rows)

-- key words of the circuit's preset, within bounds, for exactly its needs
pub record AreKeysFor (c : Circuit) (k : KeyWords) : Type 0 where
  pub preset : k.preset ≡ preset_of c.preset
  pub relin : k.needs.relin ≡ needs_relin c
  pub turns : k.needs.turns ≡ needed_turns c
  pub within : let p = preset_of c.preset in IsKeyMaterial p.n p.h p.b (needed_keys c) (lists_of k)
