-- The looks of one pass at the gates of a circuit, over the gates as changed so far.
use Rattle.std.specs.Prelude.{ℕ, ◌+◌, Bool, true, false, ◌&&◌, ◌==◌, List, [], ◌∷◌, ◌++◌, length, Option, Some, None, slice_get}
use Rattle.std.specs.Prelude.{slice_index, nat_le, if◌then◌else◌}
use Rattle.std.specs.List.{range_with_len}
use Rattle.heco_nums.specs.declared.preset.Preset.{Preset}
use Rattle.heco_nums.specs.Runs.{along}
use Rattle.heco_circuit.specs.declared.gate.Gate.{Gate}
use Rattle.heco_circuit.specs.declared.gate.Gate.TheVariants.{Weigh}
use Rattle.heco_circuit.specs.Validity.{parts_of, with_gate}
use Rattle.heco_circuit.specs.Bounds.{bound_of, with_bound, fresh_bounds, weights_of}
use Rattle.heco_circuit.specs.Plans.{Plan, input_parts}
use Rattle.heco_rewrites.specs.Wires.{operands, over, maker}
use Rattle.heco_peep.specs.declared.window.Window.{Window}
use Rattle.heco_peep.specs.declared.window.Swap.{Swap}
use Rattle.heco_peep.specs.declared.window.Swap.TheVariants as swap
use Rattle.heco_peep.specs.Rules.{Rule, is_shown}

-- a maker is told, but for a product by a plain vector
abbrev pub told : Option Gate → Option Gate
told (Some (Weigh v a)) = None
told maker = maker

-- what is told of the maker of an operand, where there is one
abbrev pub told_maker : ℕ → List Gate → Option ℕ → Option Gate
told_maker count gates None = None
told_maker count gates (Some a) = told (maker count gates a)

-- the window of a gate behind so many inputs and these gates
abbrev pub window : Preset → ℕ → List Gate → Gate → Window
window p count gates at = record {
  preset = p;
  at = at;
  first = told_maker count gates (slice_get (operands at) 0);
  second = told_maker count gates (slice_get (operands at) 1);
}

-- the gates as changed so far, the wire that each old wire is now, and the state of the pass
pub record Progress : Type 0 where
  pub gates : List Gate
  pub names : List ℕ
  pub state : List ℕ

-- as many parts as the gate, and a bound that is no greater
abbrev pub fits : ℕ → List ℕ → List ℕ → List ℕ → Gate → Swap → Bool
fits id weights parts bounds at (swap.Wire x) = slice_index parts x == parts_of parts at && nat_le (slice_index bounds x) (bound_of id weights bounds at)
fits id weights parts bounds at (swap.Gate g) = parts_of parts g == parts_of parts at && nat_le (bound_of id weights bounds g) (bound_of id weights bounds at)

-- one gate more, whose wire is now that of this number
abbrev pub grown : Progress → Gate → ℕ → List ℕ → Progress
grown s g name state = record { gates = s.gates ++ g ∷ []; names = s.names ++ name ∷ []; state = state }

-- A gate that a wire replaces stands until the dead gates go: during a pass each wire keeps its number.
abbrev pub put : ℕ → Gate → Progress → List ℕ → Bool → Swap → Progress
put own at s state false x = grown s at own state
put own at s state true (swap.Wire x) = grown s at x state
put own at s state true (swap.Gate g) = grown s g own state

-- an answer is taken where it fits
abbrev pub taken : ℕ → List ℕ → ℕ → List ℕ → List ℕ → Gate → Progress → Option Swap × List ℕ → Progress
taken id weights own parts bounds at s (None, state) = grown s at own state
taken id weights own parts bounds at s (Some x, state) = put own at s state (fits id weights parts bounds at x) x

-- gates of other kinds are never shown
abbrev pub answered : Preset → ℕ → Rule → Gate → Progress → Option Swap × List ℕ
answered p count rule at s = if is_shown at then rule.answer s.state (window p count s.gates at) else (None, s.state)

-- the look at one gate, which reads the wires as they are now
abbrev pub look_behind : Preset → List ℕ → List ℕ → List ℕ → Rule → Progress → Gate → Progress
look_behind p weights parts bounds rule s g =
    let at = over (slice_index s.names) g in
    taken p.id weights (length parts + length s.gates) (along with_gate parts s.gates) (along (with_bound p.id weights) bounds s.gates)
    at s (answered p (length parts) rule at s)

-- before the first look
abbrev pub unchanged : ℕ → List ℕ → Progress
unchanged count state = record { gates = []; names = range_with_len 0 count; state = state }

-- the looks of a pass of this rule, from this state, at all gates of a circuit of this preset
abbrev pub looked : Preset → Plan → Rule → List ℕ → Progress
looked p c rule state =
    along (look_behind p (weights_of p.id c.vectors) (input_parts c.inputs) (fresh_bounds p.id c.inputs) rule) (unchanged (length c.inputs) state) c.gates
