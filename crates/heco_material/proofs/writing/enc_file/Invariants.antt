use Rattle.std.proofs.Common.{◌≡◌, take}
use Rattle.std.specs.List.{flat_map}
use Rattle.heco_material.specs.EncFormat.{encryption_text}
use Rattle.heco_material.proofs.writing.enc_file.Given as goal

abbrev pub invariant-loop-row : goal.invariant-loop-row
invariant-loop-row l = l.out ≡ flat_map encryption_text (take l.row-index l.w.rows)
