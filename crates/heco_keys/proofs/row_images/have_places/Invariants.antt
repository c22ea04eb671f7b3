use Rattle.std.proofs.Common.{◌≡◌, ℕ, ◌<◌, List, length, get_or}
use Rattle.heco_keys.proofs.row_images.have_places.Given as goal

abbrev pub invariant-loop-pair : goal.invariant-loop-pair
invariant-loop-pair l = (k : ℕ) (d : List ℕ × List ℕ) → k < l.pair-index → (length (get_or l.rows k d).0 ≡ l.n) × (length (get_or l.rows k d).1 ≡ l.n)
