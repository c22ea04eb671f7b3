use Rattle.std.proofs.Common.{◌∙◌}
use Rattle.heco_key_files.specs.KeyFiles.{lists_of}
use Rattle.heco_tasks.proofs.KeyLaws.{made_is}
use Rattle.heco_exec.proofs.KeyLaws.{material_of, amounts_of, circuit_key_is}
use Rattle.heco_exec.proofs.keys.made_keys.Goals as goal

pub make-requires-clause-material : goal.make-requires-clause-material
make-requires-clause-material c = material_of c.args.circuit.now c.args.k.now c.requires

pub make-requires-clause-amounts : goal.make-requires-clause-amounts
make-requires-clause-amounts c = amounts_of c.args.circuit.now c.args.k.now c.preset-valid.ensures.valid c.requires

pub returns-clause-secret : goal.returns-clause-secret
returns-clause-secret c = (c.in_ok-keys.ensures.secret.0 ∙ c.requires.preset, c.in_ok-keys.ensures.secret.1)

pub returns-clause-preset : goal.returns-clause-preset
returns-clause-preset c = c.in_ok-keys.ensures.preset ∙ c.requires.preset

pub returns-clause-evaluation : goal.returns-clause-evaluation
returns-clause-evaluation c =
    let made = c.in_ok-keys.ensures in
    circuit_key_is c.args.circuit.now c.args.k.now (lists_of c.in_ok-keys.keys.1) c.requires (made_is c.args.k.now c.in_ok-keys.keys.1 made.needs.0 made.needs.1 made.first made.second made.switch)
