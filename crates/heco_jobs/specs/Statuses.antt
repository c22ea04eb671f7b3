use Rattle.std.specs.Prelude.{ℕ}
use Rattle.heco_jobs.specs.declared.outcome.Outcome.{Outcome}
use Rattle.heco_jobs.specs.declared.outcome.Outcome.TheVariants.{Ok, Refused, ReadFault, WriteFault, Memory}
use Rattle.heco_jobs.specs.declared.outcome.Refusal.TheVariants.{Usage, SourceLong, At, TooDeep, InputLong, InputAt, InputMissing}
use Rattle.heco_jobs.specs.declared.outcome.Refusal.TheVariants.{SecondLong, SecondAt, SecondMissing, Length, Bounds, Malformed}
use Rattle.heco_jobs.specs.declared.outcome.Refusal.TheVariants.{Noisy, WrongPreset, Count, MissingRelin, MissingKey}

-- the exit status of an outcome
abbrev pub status_of : Outcome → ℕ
status_of Ok = 0
status_of (Refused SourceLong) = 1
status_of (Refused (At rule at)) = 1
status_of (Refused (TooDeep out index bound)) = 1
status_of (Refused Usage) = 2
status_of (Refused InputLong) = 3
status_of (Refused (InputAt rule line)) = 3
status_of (Refused (InputMissing which)) = 3
status_of (Refused SecondLong) = 3
status_of (Refused (SecondAt rule line)) = 3
status_of (Refused (SecondMissing which)) = 3
status_of (Refused (Length which at)) = 3
status_of (Refused (Bounds which at)) = 3
status_of (Refused (Malformed which at)) = 3
status_of (Refused (Noisy which gate bound)) = 3
status_of (Refused (WrongPreset which kept found)) = 3
status_of (Refused (Count which want found)) = 3
status_of (Refused MissingRelin) = 3
status_of (Refused (MissingKey amount)) = 3
status_of (ReadFault which) = 4
status_of (WriteFault which) = 4
status_of Memory = 5
