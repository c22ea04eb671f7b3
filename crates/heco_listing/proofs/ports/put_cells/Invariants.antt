use Rattle.std.proofs.Common.{◌≡◌, ◌++◌, take}
use Rattle.std.specs.List.{flat_map}
use Rattle.heco_listing.specs.Listings.{cell_words}
use Rattle.heco_listing.proofs.ports.put_cells.Given as goal

abbrev pub invariant-loop-cell : goal.invariant-loop-cell
invariant-loop-cell l = l.out ≡ l.fn.out ++ flat_map cell_words (take l.cell-index l.cells)
