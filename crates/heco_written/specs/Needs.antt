-- The keys that written forms need.
use Rattle.std.specs.Prelude.{ℕ, ◌-◌, List, Bool, true, false, filter, nat_eq}
use Rattle.std.specs.List.{list_any, range_with_len}
use Rattle.heco_written.specs.VectorTerm.{VectorTerm, Multiplied, Turned}
use Rattle.heco_written.specs.Cost.{parts}

abbrev pub is_product : VectorTerm → Bool
is_product (Multiplied v u) = true
is_product v = false

abbrev pub turns_by : ℕ → VectorTerm → Bool
turns_by r (Turned s v) = nat_eq r s
turns_by r v = false

-- relinearisation is needed exactly where a product occurs
abbrev pub needs_relinearisation : List VectorTerm → Bool
needs_relinearisation vs = list_any is_product (parts vs)

-- a turn is needed exactly where its amount occurs
abbrev pub needs_turn : List VectorTerm → ℕ → Bool
needs_turn vs r = list_any (turns_by r) (parts vs)

-- the amounts that are needed, rising, with this number of slots
abbrev pub turn_amounts : ℕ → List VectorTerm → List ℕ
turn_amounts slots vs = filter (needs_turn vs) (range_with_len 1 (slots - 1))
