-- Homes whose numbers and slots are in range.
use Rattle.std.specs.Prelude.{ℕ, ◌<◌, List, [], ◌∷◌}
use Rattle.heco_ir.specs.declared.home.Home.{Home}
use Rattle.heco_ir.specs.declared.home.Home.TheVariants.{Number, At}

abbrev pub HomeFits : ℕ → ℕ → Home → Type 0
HomeFits slots modulus (Number c) = c < modulus
HomeFits slots modulus (At root slot) = slot < slots

abbrev pub AllHomesFit : ℕ → ℕ → List Home → Type 0
AllHomesFit slots modulus [] = Unit {0}
AllHomesFit slots modulus (h ∷ hs) = HomeFits slots modulus h × AllHomesFit slots modulus hs
