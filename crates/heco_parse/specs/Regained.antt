-- Reading a printed source again.
use Rattle.std.specs.Prelude.{◌≡◌, Result, Ok, Err}
use Rattle.heco_parse.specs.declared.read.ParseErr.{ParseErr}
use Rattle.heco_parse.specs.declared.read.ParseErr.TheVariants as e
use Rattle.heco_syntax.specs.Erasure.{bare_source}
use Rattle.heco_syntax.specs.declared.tree.Source.{Source}

-- the tree again, up to places; or there was no memory
abbrev pub Regains : Source → Result Source ParseErr → Type 0
Regains x (Ok y) = bare_source y ≡ bare_source x
Regains x (Err refusal) = refusal ≡ e.Memory
