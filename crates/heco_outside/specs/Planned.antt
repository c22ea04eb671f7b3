-- Which calls of an outside in memory are to fail.
use Rattle.std.specs.Prelude.{◌≡◌, ℕ, ◌+◌, ◌-◌, ◌^◌, ◌==◌, min, Bool, true, false, List, Result, Ok, Err}
use Rattle.std.specs.List.{list_any}
use Rattle.heco_outside.specs.declared.store.StoreErr.{StoreErr}
use Rattle.heco_outside.specs.declared.store.StoreErr.TheVariants as store
use Rattle.heco_outside.specs.declared.sink.SinkErr.{SinkErr}
use Rattle.heco_outside.specs.declared.sink.SinkErr.TheVariants as sink

-- the number of the next call, from 1, after so many; it stands still at the last value of a counter
abbrev pub next_number : ℕ → ℕ
next_number calls = min (calls + 1) (2 ^ 64 - 1)

-- the next call is one of those that are to fail
abbrev pub is_due : List ℕ → ℕ → Bool
is_due fails calls = list_any (λ n. n == next_number calls) fails

-- a store's call failed exactly where this holds; want of memory is free
abbrev pub FailedWhere : {T : Type 0} → Bool → Result T StoreErr → Type 0
FailedWhere due (Ok v) = due ≡ false
FailedWhere due (Err store.Failed) = due ≡ true
FailedWhere due (Err store.Memory) = Unit {0}

-- a sink's call failed exactly where this holds; want of memory is free
abbrev pub SinkFailedWhere : {T : Type 0} → Bool → Result T SinkErr → Type 0
SinkFailedWhere due (Ok v) = due ≡ false
SinkFailedWhere due (Err sink.Failed) = due ≡ true
SinkFailedWhere due (Err sink.Memory) = Unit {0}
