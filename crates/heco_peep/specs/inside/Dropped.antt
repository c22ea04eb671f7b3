-- The gates of marked wires.
use Rattle.std.specs.Prelude.{ℕ, Bool, false, List, [], slice_index_or}
use Rattle.std.specs.List.{range_with_len}
use Rattle.heco_nums.specs.Runs.{along}
use Rattle.heco_circuit.specs.declared.gate.Gate.{Gate}
use Rattle.heco_rewrites.specs.Needed.{Kept, kept}
use Rattle.heco_peep.specs.declared.dropping.Staying.{Staying}

abbrev pub kept_so_far : Staying → Kept
kept_so_far s = record { gates = s.gates; names = s.names }

abbrev pub is_marked : List Bool → ℕ → Bool
is_marked marks a = slice_index_or marks a false

-- the gates whose wires are marked, behind so many inputs
abbrev pub sieve : List Bool → ℕ → List Gate → Kept
sieve marks count gates = along (kept (is_marked marks) count) (record { gates = []; names = range_with_len 0 count }) gates
