-- The words into which `pair` writes differ.
use Rattle.std.proofs.Common.{[], ◌∷◌}
use Rattle.heco_exec.proofs.WrittenFiles.{all_differ}
use Rattle.heco_pair.specs.Laws.{DistinctAreApart}

pub distinct_are_apart : DistinctAreApart
distinct_are_apart command a1 a2 a3 a4 a5 a6 a7 a8 a9 a10 e =
    let h = all_differ (a1 ∷ a2 ∷ a3 ∷ a4 ∷ a5 ∷ a6 ∷ a7 ∷ a8 ∷ a9 ∷ a10 ∷ []) e in
    let five = h.1.1.1.1.1 in
    (five.0, (five.1.0, (five.1.1.0, (five.1.1.1.0, (tt, tt)))))
