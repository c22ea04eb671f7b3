-- The file of the result of a circuit's run.
use Rattle.std.specs.Prelude.{ℕ, List}
use Rattle.heco_nums.specs.declared.preset.Preset.{Preset}
use Rattle.heco_circuit.specs.Plans.{Plan as Circuit}
use Rattle.heco_ciphertext_files.specs.CiphertextFiles.{file_text, magic_of}
use Rattle.heco_ciphertext_files.specs.declared.kind.FileKind.TheVariants.{Res}
use Rattle.heco_key_files.specs.KeyFiles.{EvalLists}
use Rattle.heco_run_laws.specs.Results.{results_of}
use Rattle.heco_run_laws.specs.Runs.{Ciphertext, SwitchKeys, keys_among}

-- the switch keys of an evaluation key
abbrev pub keys_of : EvalLists → SwitchKeys
keys_of e = keys_among e.relin e.turns e.switch

unfoldable pub results_file : Preset → Circuit → EvalLists → List Ciphertext → List ℕ
results_file p c e inputs = file_text (magic_of Res) p.id (results_of p (keys_of e) c inputs)
