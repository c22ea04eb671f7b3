-- The circuits that compiling may give a source, and those that passes make of them.
use Rattle.std.specs.Prelude.{◌≡◌, ℕ, false, List}
use Rattle.std.specs.List.{AllZip}
use Rattle.heco_syntax.specs.declared.tree.Source.{Source}
use Rattle.heco_circuit.specs.Plans.{Plan}
use Rattle.heco_circuit.specs.declared.gate.Cell.{Cell}
use Rattle.heco_circuit.specs.declared.gate.Cell.TheVariants.{Number, Slot}
use Rattle.heco_written.specs.Bound.{greatest_bound, scheme_of}
use Rattle.heco_written.specs.WrittenForm.{WrittenHome, vectors_of}
use Rattle.heco_thrift.specs.Homes.{all_cells}
use Rattle.heco_thrift.specs.Thrift.{IsWithin}
use Rattle.heco_plainvec.specs.Gathering.{finds}
use Rattle.heco_peep.specs.Rules.{Handed}
use Rattle.heco_peep.specs.NoWorse.{is_weighed, AreBelowElsewhere}
use Rattle.heco_peep.specs.Passed.{IsPassed}
use Rattle.heco_good.specs.Good.{homes_of, Good}

-- an element is within its home where no product by a plain vector makes its wire
abbrev pub IsWithinElsewhere : Plan → Cell → WrittenHome → Type 0
IsWithinElsewhere c (Slot wire slot) home = is_weighed c wire ≡ false → IsWithin c (Slot wire slot) home
IsWithinElsewhere c (Number n) home = Unit {0}

-- but for products by plain vectors, no gate's bound is above the greatest of the homes, and each element's wire is within its
-- home
pub record IsLowElsewhere (c : Plan) (homes : List WrittenHome) : Type 0 where
  pub gates : AreBelowElsewhere (greatest_bound (scheme_of c.preset) (vectors_of homes)) c
  pub outputs : AllZip (IsWithinElsewhere c) (all_cells c) homes

-- the circuit is good for the source, and in it the rule for gathering finds no wire whose multiples it would replace; beside
-- the products by plain vectors its bounds are those of the written form at most
pub record IsCircuitOf (source : Source) (c : Plan) : Type 0 where
  pub good : Good source c
  pub nothing_found : (a : ℕ) → finds c a ≡ false
  pub low : IsLowElsewhere c (homes_of source good.terms)

-- the passes that were handed in make the circuit d of one that compiling may give the source, and are left so; and d is good for
-- the source
pub record IsPassedOf (source : Source) (handed : List Handed) (d : Plan) (left : List Handed) : Type 0 where
  pub compiled : Plan
  pub of_source : IsCircuitOf source compiled
  pub passed : IsPassed compiled handed d left
  pub good : Good source d
