use Rattle.std.proofs.Common.{◌≡◌, ◌++◌, map, drop}
use Rattle.heco_types.specs.Sites.{first}
use Rattle.heco_types.specs.Statements.{judged, of_block, added}
use Rattle.heco_types.proofs.statements.+check_all.Given as goal

abbrev pub invariant-check_all-loop-s : goal.invariant-check_all-loop-s
invariant-check_all-loop-s l =
    (of_block first l.body l.initial.scope ≡ of_block first (drop l.s-index l.body) l.scope)
    × (l.initial.scope ++ added (map (judged first) l.body) ≡ l.scope ++ added (map (judged first) (drop l.s-index l.body)))
