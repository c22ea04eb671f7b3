-- The outside of a command: a store and a standard output, as they tell themselves.
use Rattle.std.specs.Prelude.{◌≡◌, ◌≢◌, ℕ, List, Option}
use Rattle.heco_outside.specs.declared.sink.Sink as sink
use Rattle.heco_outside.specs.declared.store.Call.{Call}
use Rattle.heco_outside.specs.declared.store.Store as store

-- the bytes of each file that is there
abbrev pub Files : Type 0
Files = List ℕ → Option (List ℕ)

abbrev pub SameFiles : Files → Files → Type 0
SameFiles old new = (name : List ℕ) → new name ≡ old name

-- all files but the named one stand
abbrev pub OthersStand : List ℕ → Files → Files → Type 0
OthersStand name old new = (other : List ℕ) → other ≢ name → new other ≡ old other

-- the files, the calls of the store, the bytes that standard output has taken, and how often it found no memory
pub record Outside : Type 0 where
  pub file : Files
  pub calls : List Call
  pub taken : List ℕ
  pub shortages : ℕ

abbrev pub outside : {S O : Type 0} → store.Ghosts S → sink.Ghosts O → S → O → Outside
outside s o store out = record { file = s.file store; calls = s.calls store; taken = o.taken out; shortages = o.shortages out }

-- every file, the calls and standard output are as they were
pub record SameOutside (old new : Outside) : Type 0 where
  pub files : SameFiles old.file new.file
  pub calls : new.calls ≡ old.calls
  pub taken : new.taken ≡ old.taken
