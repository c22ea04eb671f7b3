-- The calls of the store that a command makes.
use Rattle.std.specs.Prelude.{ℕ, true, false, List}
use Rattle.heco_outside.specs.Calls.{call}
use Rattle.heco_outside.specs.declared.store.Call.{Call}
use Rattle.heco_outside.specs.declared.store.CallKind.{CallKind}
use Rattle.heco_outside.specs.declared.store.CallKind.TheVariants.{Read, Write}
use Rattle.heco_jobs.specs.Words.{name_of}

-- a planned call: a read or a write of the file word of this number
pub record Step : Type 0 where
  pub kind : CallKind
  pub which : ℕ

abbrev pub reading : ℕ → Step
reading k = record { kind = Read; which = k }

abbrev pub writing : ℕ → Step
writing k = record { kind = Write; which = k }

module _ (words : List (List ℕ)) where
  -- the call, answered by Ok
  abbrev pub done : Step → Call
  done s = call s.kind (name_of words s.which) false

  -- the call, answered by Failed
  abbrev pub failed : Step → Call
  failed s = call s.kind (name_of words s.which) true
