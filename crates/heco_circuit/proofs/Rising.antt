-- The needed turns rise, and are of the preset.
use Rattle.std.proofs.Common.{◌≡◌, ℕ, ◌-◌, ◌<◌, ◌≤◌, arith}
use Rattle.std.specs.List.{All, list_any}
use Rattle.heco_nums.specs.Presets.{slots_of}
use Rattle.heco_nums.specs.Needs.{IsRising}
use Rattle.heco_nums.proofs.Amounts.{passing_rising, passing_between}
use Rattle.heco_circuit.specs.Needs.{turns_by, needed_turns}
use Rattle.heco_circuit.specs.Plans.{Plan}

pub needed_rising : (c : Plan) → IsRising (needed_turns c)
needed_rising c = passing_rising (λ r. list_any (turns_by r) c.gates) 1 (slots_of c.preset - 1)

pub needed_amounts : (c : Plan) (slots : ℕ) → slots_of c.preset ≡ slots → 0 < slots → All (λ r. (1 ≤ r) × (r < slots)) (needed_turns c)
needed_amounts c slots e some = passing_between (λ r. list_any (turns_by r) c.gates) 1 (slots_of c.preset - 1) slots (omega arith)
