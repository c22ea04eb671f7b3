use Rattle.std.specs.Prelude.{◌≡◌, ℕ, ◌<◌, ◌%◌, List}
use Rattle.heco_written.specs.WrittenForm.{WrittenHome, Known, At, constant, places}
use Rattle.heco_ir.specs.declared.vector.VNode.{VNode}
use Rattle.heco_batch.specs.declared.home.NodeHome.{NodeHome}
use Rattle.heco_batch.specs.declared.home.NodeHome.TheVariants.{Number as NumberNode, At as AtNode}
use Rattle.heco_batch.specs.declared.home.NodeSum.{NodeSum}
use Rattle.heco_batch.specs.inside.Places.{PlaceIs}
use Rattle.heco_batch.specs.inside.Sums.{AreOptionPlaces}

-- the home among the nodes is this home
abbrev pub HomeIs : List VNode → ℕ → ℕ → NodeHome → WrittenHome → Type 0
HomeIs nodes slots modulus (NumberNode d) (Known c) = (d ≡ c) × (d < modulus)
HomeIs nodes slots modulus (AtNode d) (At p) = PlaceIs nodes d p × (d.slot < slots)
HomeIs nodes slots modulus d h = ⊥

-- the sum so far is that of these members
pub record SumIs (nodes : List VNode) (slots modulus : ℕ) (d : NodeSum) (hs : List WrittenHome) : Type 0 where
  pub constant_is : d.constant ≡ constant hs % modulus
  pub places_are : AreOptionPlaces nodes slots d.places (places hs)

-- the home is not the number 0
abbrev pub IsNoZero : NodeHome → Type 0
IsNoZero (NumberNode d) = 0 < d
IsNoZero (AtNode d) = Unit {0}
