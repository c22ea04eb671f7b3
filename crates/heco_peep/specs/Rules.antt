-- What a pass may answer to a window.
use Rattle.std.specs.Prelude.{◌≡◌, ℕ, ◌-◌, List, [], ◌∷◌, Option, Some, slice_get, Bool, true, false, ◌&&◌, Contains}
use Rattle.heco_nums.specs.Presets.{modulus_of, slots_of}
use Rattle.heco_circuit.specs.declared.gate.Gate.{Gate}
use Rattle.heco_circuit.specs.declared.gate.Gate.TheVariants.{Neg, Add, Sub, Scale, Shift, Turn}
use Rattle.heco_circuit.specs.Bounds.{is_below}
use Rattle.heco_circuit.specs.Validity.{is_between}
use Rattle.heco_meaning.specs.Meanings.{wire_at, wire_of}
use Rattle.heco_rewrites.specs.Wires.{operands}
use Rattle.heco_rewrites.specs.Full.{IsFull}
use Rattle.heco_peep.specs.declared.window.Window.{Window}
use Rattle.heco_peep.specs.declared.window.Swap.{Swap}
use Rattle.heco_peep.specs.declared.window.Swap.TheVariants as swap

-- the kinds of gates that are shown and answered
abbrev pub is_shown : Gate → Bool
is_shown (Neg a) = true
is_shown (Add a b) = true
is_shown (Sub a b) = true
is_shown (Scale c a) = true
is_shown (Shift c a) = true
is_shown g = false

-- the constant or the amount is in its range, for the modulus t and so many slots
abbrev pub in_range : ℕ → ℕ → Gate → Bool
in_range t slots (Scale c a) = is_between 1 (t - 1) c
in_range t slots (Shift c a) = is_between 0 (t - 1) c
in_range t slots (Turn r a) = is_between 1 (slots - 1) r
in_range t slots g = true

abbrev pub fits_preset : Window → Gate → Bool
fits_preset w g = in_range (modulus_of w.preset.id) (slots_of w.preset.id) g

-- a window that a pass may be asked to look at
pub record IsWindow (w : Window) : Type 0 where
  pub shown : is_shown w.at ≡ true
  pub at : fits_preset w w.at ≡ true
  pub first : (g : Gate) → w.first ≡ Some g → fits_preset w g ≡ true
  pub second : (g : Gate) → w.second ≡ Some g → fits_preset w g ≡ true

-- the wires that an answer may name: the operands of the gate and of the gates that make these
pub data Sees (w : Window) : ℕ → Type 0 where
  of_at : (a : ℕ) → Contains (operands w.at) a → Sees w a
  of_first : (a : ℕ) (g : Gate) → w.first ≡ Some g → Contains (operands g) a → Sees w a
  of_second : (a : ℕ) (g : Gate) → w.second ≡ Some g → Contains (operands g) a → Sees w a

-- in a circuit of these plain vectors the slots of these wires agree with the window: N numbers below t on each wire that is
-- seen, and each operand is made by the gate that is shown of it
pub record Agrees (w : Window) (vectors wires : List (List ℕ)) : Type 0 where
  pub full : (a : ℕ) → Sees w a → IsFull w.preset.id (wire_at wires a)
  pub first : (a : ℕ) (g : Gate) → slice_get (operands w.at) 0 ≡ Some a → w.first ≡ Some g → wire_at wires a ≡ wire_of (modulus_of w.preset.id) vectors wires g
  pub second : (a : ℕ) (g : Gate) → slice_get (operands w.at) 1 ≡ Some a → w.second ≡ Some g
      → wire_at wires a ≡ wire_of (modulus_of w.preset.id) vectors wires g

-- the wires that an answer names, and whether it is a wire or a gate of a shown kind with its constant in range
abbrev pub named_by : Swap → List ℕ
named_by (swap.Wire x) = x ∷ []
named_by (swap.Gate g) = operands g

abbrev pub is_answer : Window → Swap → Bool
is_answer w (swap.Wire x) = true
is_answer w (swap.Gate g) = is_shown g && fits_preset w g

-- the constant of a multiple that is answered is below t
abbrev pub is_below_in : ℕ → Swap → Bool
is_below_in t (swap.Wire x) = true
is_below_in t (swap.Gate g) = is_below t g

-- the slots of an answer
abbrev pub swap_slots : ℕ → List (List ℕ) → List (List ℕ) → Swap → List ℕ
swap_slots t vectors wires (swap.Wire x) = wire_at wires x
swap_slots t vectors wires (swap.Gate g) = wire_of t vectors wires g

-- an answer names seen wires alone, and has the slots of the gate wherever they agree with the window
pub record IsLawful (w : Window) (x : Swap) : Type 0 where
  pub seen : (a : ℕ) → Contains (named_by x) a → Sees w a
  pub kind : is_answer w x ≡ true
  pub means : (vectors wires : List (List ℕ)) → Agrees w vectors wires
      → swap_slots (modulus_of w.preset.id) vectors wires x ≡ wire_of (modulus_of w.preset.id) vectors wires w.at

-- what a pass answers and its next state, from its state and a window
pub record Rule : Type 0 where
  pub answer : List ℕ → Window → Option Swap × List ℕ
  pub lawful : (state : List ℕ) (w : Window) → IsWindow w → (x : Swap) → (answer state w).0 ≡ Some x → IsLawful w x

-- a pass as it stands: its rule, and its state
pub record Handed : Type 0 where
  pub rule : Rule
  pub state : List ℕ
