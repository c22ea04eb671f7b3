-- What nodes build.
use Rattle.std.specs.Prelude.{List, [], ◌∷◌, ◌++◌}

-- what nodes build, in order, each from what the nodes before it built
abbrev pub built_from : {N C : Type 0} → (List C → N → C) → List C → List N → List C
built_from step done [] = done
built_from step done (n ∷ ns) = built_from step (done ++ step done n ∷ []) ns

abbrev pub built : {N C : Type 0} → (List C → N → C) → List N → List C
built step ns = built_from step [] ns
