-- Homes among numbered roots, as written homes.
use Rattle.std.specs.Prelude.{List, map, slice_index_or}
use Rattle.heco_ir.specs.declared.home.Home.{Home}
use Rattle.heco_ir.specs.declared.home.Home.TheVariants.{Number, At}
use Rattle.heco_written.specs.VectorTerm.{VectorTerm, Input}
use Rattle.heco_written.specs.WrittenForm.{WrittenHome, Known, At as AtPlace}

-- the roots' terms being vs, a number stays, and a slot of a root is that slot of its vector
abbrev pub written_home : List VectorTerm → Home → WrittenHome
written_home vs (Number c) = Known c
written_home vs (At root slot) = AtPlace (record { vector = slice_index_or vs root (Input 0); slot = slot })

abbrev pub homes_over : List VectorTerm → List Home → List WrittenHome
homes_over vs homes = map (written_home vs) homes
