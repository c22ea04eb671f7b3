-- Files in memory, by name.
use Rattle.std.specs.Prelude.{ℕ, List, [], ◌∷◌, Some, None, if◌then◌else◌}
use Rattle.std.specs.declared.option.Option.{Option}
use Rattle.std.specs.Str.{bytes_eq}
use Rattle.heco_outside.specs.declared.mem_store.File.{File}

-- the bytes of the first file of that name
abbrev pub lookup : List File → List ℕ → Option (List ℕ)
lookup [] name = None
lookup (f ∷ files) name = if bytes_eq f.name name then Some f.bytes else lookup files name
