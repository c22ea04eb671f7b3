use Rattle.std.proofs.Common.{List, ℕ, ◌-◌, refl, sym, subst}
use Rattle.std.specs.List.{list_any}
use Rattle.heco_nums.specs.Needs.{IsRising}
use Rattle.heco_nums.proofs.Amounts.{passing_rising}
use Rattle.heco_circuit.specs.Needs.{turns_by}
use Rattle.heco_circuit.proofs.key_needs.needs.Goals as goal

pub invariant_of-result : goal.invariant_of-result
invariant_of-result c =
    let P : List ℕ → Type 0 = λ ts. IsRising ts in
    record { rising = subst P (sym c.in_ok-turns.ensures) (passing_rising (λ r. list_any (turns_by r) c.as_slice-2.result.now) 1 (c.preset.result.now.slots - 1)) }

pub returns-clause-turns : goal.returns-clause-turns
returns-clause-turns c = rw (c.in_ok-turns.ensures, c.as_slice-2.ensures, c.gates-2.ensures, c.preset.result.now.row.3, c.preset.ensures.preset) refl
