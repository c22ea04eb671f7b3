use Rattle.std.proofs.Common.{◌≡◌, length}
use Rattle.std.specs.List.{list_any}
use Rattle.std.specs.Str.{bytes_eq}
use Rattle.heco_jobs.specs.Words.{texts}
use Rattle.heco_top.proofs.command.is_among.Given as goal

abbrev pub invariant-loop-rest : goal.invariant-loop-rest
invariant-loop-rest l = list_any (bytes_eq l.name) (texts l.rest) ≡ list_any (bytes_eq l.name) (texts l.words)

abbrev pub decreases-loop-rest : goal.decreases-loop-rest
decreases-loop-rest l = length l.rest
