use Rattle.std.proofs.Common.{◌≡◌, ℕ, length}
use Rattle.std.specs.Prelude.{Some, slice_get}
use Rattle.heco_scheme.specs.Keys.{row}
use Rattle.heco_transform.specs.declared.half.Halves.{Halves}
use Rattle.heco_keys.specs.RowImages.{ArePairImages}
use Rattle.heco_keys.proofs.row_images.images_of.Given as goal

abbrev pub invariant-loop-i : goal.invariant-loop-i
invariant-loop-i l = record {
  long : length l.pairs ≡ l.i;
  each : (i : ℕ) (x : Halves × Halves) → slice_get l.pairs i ≡ Some x → ArePairImages l.transform.depth (row l.rows i) x;
}
