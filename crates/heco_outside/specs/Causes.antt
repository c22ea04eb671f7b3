-- When a call may answer a fault, and what an undisturbed outside promises.
use Rattle.std.specs.Prelude.{◌≡◌, ℕ, ◌+◌, ◌-◌, ◌^◌, ◌≤◌, min, Result, IsErrOf}
use Rattle.heco_outside.specs.declared.store.StoreErr.{StoreErr}
use Rattle.heco_outside.specs.declared.store.StoreErr.TheVariants.{Failed}
use Rattle.heco_outside.specs.declared.sink.SinkErr.{SinkErr}
use Rattle.heco_outside.specs.declared.sink.SinkErr.TheVariants.{Failed as SinkFailed, Memory as SinkMemory}

-- the count is greater than before, or stands at the last value of a counter
abbrev pub Rose : ℕ → ℕ → Type 0
Rose before now = min (before + 1) (2 ^ 64 - 1) ≤ now

-- the count doesn't fall, and Failed is answered only where it rose
pub record StoreCause {T : Type 0} (before now : ℕ) (result : Result T StoreErr) : Type 0 where
  pub later : before ≤ now
  pub failed : IsErrOf result Failed → Rose before now

-- the counts don't fall; Failed is answered only where the first rose, and Memory only where the second did
pub record SinkCause {T : Type 0} (before now : ℕ) (short shorter : ℕ) (result : Result T SinkErr) : Type 0 where
  pub later : before ≤ now
  pub no_fewer : short ≤ shorter
  pub failed : IsErrOf result SinkFailed → Rose before now
  pub memory : IsErrOf result SinkMemory → Rose short shorter

-- the outside is still undisturbed; a call fails only for this reason; without a failure the count stays
pub record Undisturbed (still failed reason : Type 0) (before now : ℕ) : Type 0 where
  pub stays : still
  pub only : failed → reason
  pub quiet : (failed → ⊥) → now ≡ before
