use Rattle.std.proofs.Common.{ℕ, ◌<◌, ◌≤◌, List, subst, sym}
use Rattle.std.specs.List.{All}
use Rattle.std.proofs.lemmas.List.Elements.{All-nil}
use Rattle.heco_key_rows.proofs.keys.made.Goals as goal

pub make-requires-clause-amounts : goal.make-requires-clause-amounts
make-requires-clause-amounts c =
    subst (λ (turns : List ℕ). All (λ r. (1 ≤ r) × (r < c.in_ok-words.words.preset.slots)) turns) (sym c.in_ok-words.ensures.turns) (All-nil (λ r. (1 ≤ r) × (r < c.in_ok-words.words.preset.slots)))
