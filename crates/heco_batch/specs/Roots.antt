-- The homes of roots: numbers, or slots of numbered vectors.
use Rattle.std.specs.Prelude.{ℕ, ◌+◌, ◌≡◌, true, List, [], ◌∷◌, map, length}
use Rattle.heco_written.specs.ScalarTerm.{ScalarTerm}
use Rattle.heco_written.specs.WrittenForm.{WrittenHome, Known, At as AtPlace, places, vectors_of, written}
use Rattle.heco_ir.specs.declared.dialect.NodeId.{NodeId}
use Rattle.heco_ir.specs.declared.home.Home.{Home}
use Rattle.heco_ir.specs.declared.home.Home.TheVariants.{Number as NumberHome, At}
use Rattle.heco_ir.specs.declared.vector.VNode.{VNode}
use Rattle.heco_ir.specs.Homes.{AllHomesFit}
use Rattle.heco_ir.specs.Values.{all_below, numbers}
use Rattle.heco_ir.specs.Terms.{terms_at}

-- the homes of the written forms of terms
abbrev pub written_homes : ℕ → ℕ → List ScalarTerm → List WrittenHome
written_homes modulus slots xs = map (λ x. (written modulus slots x).home) xs

-- a number stays, and a place is a slot of the next vector, which are counted from next on
abbrev pub homes_from : ℕ → List WrittenHome → List Home
homes_from next [] = []
homes_from next (Known c ∷ hs) = NumberHome c ∷ homes_from next hs
homes_from next (AtPlace p ∷ hs) = At next p.slot ∷ homes_from (next + 1) hs

-- these roots and homes are those of the written homes
pub record RootsAre (nodes : List VNode) (slots modulus : ℕ) (roots : List NodeId) (homes : List Home) (hs : List WrittenHome) : Type 0 where
  pub terms_are : terms_at nodes (numbers roots) ≡ vectors_of hs
  pub inside : all_below (length nodes) (numbers roots) ≡ true
  pub count : length roots ≡ length (places hs)
  pub homes_are : homes ≡ homes_from 0 hs
  pub fit : AllHomesFit slots modulus homes
