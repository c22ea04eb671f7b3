-- What nodes cost and need, beside what written forms do.
use Rattle.std.specs.Prelude.{◌≡◌, ◌↔◌, ℕ, ◌<◌, true, List, Contains}
use Rattle.std.specs.List.{list_any, sum_by}
use Rattle.heco_nums.specs.Needs.{IsRising}
use Rattle.heco_written.specs.VectorTerm.{VectorTerm}
use Rattle.heco_written.specs.Cost.{gates, late_gates, cost, late_cost}
use Rattle.heco_written.specs.Needs.{is_product, turns_by, needs_relinearisation, needs_turn, turn_amounts}

-- the nodes with the terms ts make exactly the gates, and need exactly the keys, of the written forms vs
pub record Agrees (ts vs : List VectorTerm) : Type 0 where
  pub gates_are : sum_by gates ts ≡ cost vs
  pub late_gates_are : sum_by (late_gates ts vs) ts ≡ late_cost vs
  pub products_are : list_any is_product ts ≡ needs_relinearisation vs
  pub turns_are : (r : ℕ) → list_any (turns_by r) ts ≡ needs_turn vs r
  -- the list of the amounts
  pub amounts_rise : (slots : ℕ) → IsRising (turn_amounts slots vs)
  pub amounts_are : (slots r : ℕ) → Contains (turn_amounts slots vs) r ↔ ((0 < r) × (r < slots) × (list_any (turns_by r) ts ≡ true))
