-- The switch keys that a circuit needs.
use Rattle.std.specs.Prelude.{ℕ, ◌+◌, ◌-◌, Bool, true, false, ◌==◌, List, length, filter, if◌then◌else◌}
use Rattle.std.specs.List.{list_any, range_with_len}
use Rattle.heco_nums.specs.Presets.{slots_of}
use Rattle.heco_circuit.specs.declared.gate.Gate.{Gate}
use Rattle.heco_circuit.specs.declared.gate.Gate.TheVariants.{Relin, Turn}
use Rattle.heco_circuit.specs.Plans.{Plan}

abbrev pub is_relin : Gate → Bool
is_relin (Relin a) = true
is_relin g = false

abbrev pub turns_by : ℕ → Gate → Bool
turns_by amount (Turn r a) = r == amount
turns_by amount g = false

abbrev pub needs_relin : Plan → Bool
needs_relin p = list_any is_relin p.gates

-- the amounts from 1 to N - 1 by which a gate turns
abbrev pub needed_turns : Plan → List ℕ
needed_turns p = filter (λ r. list_any (turns_by r) p.gates) (range_with_len 1 (slots_of p.preset - 1))

-- how many switch keys the circuit needs: one to relinearise, and one for each amount of a turn
abbrev pub needed_keys : Plan → ℕ
needed_keys p = (if needs_relin p then 1 else 0) + length (needed_turns p)
