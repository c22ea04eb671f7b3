-- The rule of a pass that answers nothing: one that only looks on.
use Rattle.std.specs.Prelude.{◌≡◌, Option, Some, None}
use Rattle.std.proofs.Common.{refl}
use Rattle.heco_peep.specs.declared.window.Window.{Window}
use Rattle.heco_peep.specs.declared.window.Swap.{Swap}
use Rattle.heco_peep.specs.Rules.{Rule, IsLawful}

pub none_is_lawful : (w : Window) (answer : Option Swap) (x : Swap) → answer ≡ None → answer ≡ Some x → IsLawful w x
none_is_lawful w answer x e h = absurd cc

abbrev pub silent_rule : Rule
silent_rule = record { answer = λ state w. (None, state); lawful = λ state w ready x e. none_is_lawful w None x refl e }
