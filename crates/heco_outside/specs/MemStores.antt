-- A store in memory as contracts see it.
use Rattle.std.specs.Prelude.{◌≡◌, ℕ, [], List, Bool, Option, count_by, length, ◌||◌, is_none}
use Rattle.heco_outside.specs.Lookup.{lookup}
use Rattle.heco_outside.specs.Planned.{is_due}
use Rattle.heco_outside.specs.declared.store.Call.{Call}
use Rattle.heco_outside.specs.declared.mem_store.MemStore.{MemStore}

-- its files
abbrev pub mem_file : MemStore → List ℕ → Option (List ℕ)
mem_file m name = lookup m.files.items name

-- its calls
abbrev pub mem_calls : MemStore → List Call
mem_calls m = m.calls

-- the numbers of the calls that are to fail
abbrev pub mem_fails : MemStore → List ℕ
mem_fails m = m.fails

-- how many of its calls have failed
abbrev pub mem_faults : MemStore → ℕ
mem_faults m = count_by (λ c. c.failed) m.calls

-- no call is to fail
abbrev pub IsSteady : MemStore → Type 0
IsSteady m = m.fails ≡ []

-- the next read of this name fails
abbrev pub read_fails : MemStore → List ℕ → Bool
read_fails m name = is_due m.fails (length m.calls) || is_none (lookup m.files.items name)

-- the next write fails
abbrev pub write_fails : MemStore → Bool
write_fails m = is_due m.fails (length m.calls)
