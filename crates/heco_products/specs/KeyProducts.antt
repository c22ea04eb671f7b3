-- The files of the keys that are made for a circuit.
use Rattle.std.specs.Prelude.{ℕ, List}
use Rattle.heco_circuit.specs.Needs.{needs_relin, needed_turns}
use Rattle.heco_circuit.specs.Plans.{Plan as Circuit}
use Rattle.heco_key_files.specs.KeyFiles.{EvalLists, made_key, eval_text, secret_text}
use Rattle.heco_material.specs.KeyLists.{KeyLists}
use Rattle.heco_nums.specs.declared.preset.Preset.{Preset}

abbrev pub secret_file : Preset → KeyLists → List ℕ
secret_file p k = secret_text p.id k.s

-- the public key, and the switch keys for exactly the circuit's needs
abbrev pub circuit_key : Preset → Circuit → KeyLists → EvalLists
circuit_key p c k = made_key p.n (needs_relin c) (needed_turns c) k

unfoldable pub evaluation_file : Preset → Circuit → KeyLists → List ℕ
evaluation_file p c k = eval_text p.id (circuit_key p c k)
