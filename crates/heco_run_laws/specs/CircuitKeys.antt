-- The switch keys that are made from key material for exactly a circuit's needs.
use Rattle.std.specs.Prelude.{ℕ, List}
use Rattle.heco_circuit.specs.Circuits.{IsCircuit}
use Rattle.heco_circuit.specs.Needs.{needs_relin, needed_turns, needed_keys}
use Rattle.heco_circuit.specs.Plans.{Plan}
use Rattle.heco_keys.specs.Made.{all_rows}
use Rattle.heco_material.specs.KeyLists.{KeyLists, IsKeyMaterial}
use Rattle.heco_nums.specs.declared.preset.Preset.{Preset}
use Rattle.heco_run_laws.specs.Carried.{HaveKeys}
use Rattle.heco_run_laws.specs.Runs.{Rows, SwitchKeys, keys_among}

abbrev pub circuit_rows : ℕ → Plan → KeyLists → List Rows
circuit_rows n c k = all_rows n k.s (needs_relin c) (needed_turns c) k.switch

-- the keys that gates take
abbrev pub switch_keys : ℕ → Plan → KeyLists → SwitchKeys
switch_keys n c k = keys_among (needs_relin c) (needed_turns c) (circuit_rows n c k)

-- made from material within bounds, each key that a gate of a valid circuit takes is one of the material's secret
abbrev pub MadeKeysAreForTheGates : Type 0
MadeKeysAreForTheGates = (p : Preset) (c : Plan) (k : KeyLists) → IsCircuit c → IsKeyMaterial p.n p.h p.b (needed_keys c) k
    → HaveKeys p k.s (switch_keys p.n c k) c.gates
