use Rattle.std.proofs.Common.{length}
use Rattle.heco_outside.proofs.file_store.write_file.Given as goal

abbrev pub decreases-loop-rest : goal.decreases-loop-rest
decreases-loop-rest g l = length l.rest
