-- When a circuit is valid.
use Rattle.std.specs.Prelude.{ℕ, ◌-◌, ◌^◌, Bool, Option, length, nat_le, IsTrue}
use Rattle.std.specs.Option.{is_none}
use Rattle.heco_circuit.specs.Bounds.{fresh_bounds, weights_of, first_passing}
use Rattle.heco_circuit.specs.Plans.{Plan, is_formed}
use Rattle.heco_circuit.specs.CircuitFormat.{circuit_text}

-- the first gate whose bound passes, and its bound
abbrev pub passing : Plan → Option (ℕ × ℕ)
passing p = first_passing p.preset (weights_of p.preset p.vectors) 0 (fresh_bounds p.preset p.inputs) p.gates

abbrev pub is_quiet : Plan → Bool
is_quiet p = is_none (passing p)

-- a file has fewer than 2^29 bytes
abbrev pub most : ℕ
most = 2 ^ 29 - 1

unfoldable pub is_short : Plan → Bool
is_short p = nat_le (length (circuit_text p)) most

-- Its names, numbers, counts, operands and parts are as its file allows them, no bound passes, and its file is short.
abbrev pub IsCircuit : Plan → Type 0
IsCircuit p = IsTrue (is_formed p) × IsTrue (is_quiet p) × IsTrue (is_short p)
