-- The execution of a typed source.
use Rattle.std.specs.Prelude.{ℕ, List}
use Rattle.heco_nums.specs.Presets.{modulus_of}
use Rattle.heco_syntax.specs.declared.tree.Source.{Source}
use Rattle.heco_types.specs.Presets.{id_named}
use Rattle.heco_execution.specs.Outcomes.{Outcome}
use Rattle.heco_execution.specs.Plain.{plain_outputs}

-- the plaintext modulus of the preset of this name
abbrev pub modulus_named : List ℕ → ℕ
modulus_named name = modulus_of (id_named name)

-- the lists of the outputs on numbers modulo that of the preset which the source names
abbrev pub outputs_of : Source → List (List ℕ) → Outcome (List (List ℕ))
outputs_of source rows = plain_outputs (modulus_named source.params.text) source rows
