-- The room that calls of definitions take: each call goes to earlier ones.
use Rattle.std.specs.Prelude.{ℕ, ◌+◌, ◌*◌, List, [], ◌∷◌}
use Rattle.heco_syntax.specs.declared.tree.Def.{Def}
use Rattle.heco_syntax.specs.declared.tree.Expr.{size-Expr}

abbrev pub room : List Def → ℕ
room [] = 0
room (d ∷ ds) = (3 * size-Expr d.value + 4) + room ds
