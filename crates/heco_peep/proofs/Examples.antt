-- What the definitions say of small circuits.
use Rattle.std.proofs.Common.{◌≡◌, refl, ℕ, List, [], ◌∷◌, length, map, arith}
use Rattle.std.specs.Prelude.{codes, None, false, ◌+◌}
use Rattle.heco_nums.specs.declared.preset.Preset.{Preset}
use Rattle.heco_nums.specs.declared.shape.Shape.{Shape}
use Rattle.heco_nums.specs.Arithmetic.{centre_t}
use Rattle.heco_circuit.specs.declared.gate.Cell.TheVariants.{Slot}
use Rattle.heco_circuit.specs.declared.gate.Gate.{Gate}
use Rattle.heco_circuit.specs.declared.gate.Gate.TheVariants.{Neg, Add, Sub, Mul, Relin, Scale, Shift, Turn}
use Rattle.heco_circuit.specs.declared.gate.Output.{Output}
use Rattle.heco_circuit.specs.Bounds.{wire_bounds}
use Rattle.heco_circuit.specs.CircuitFormat.{circuit_text}
use Rattle.heco_circuit.specs.Plans.{Plan}
use Rattle.heco_meaning.specs.Meanings.{meaning_of}
use Rattle.heco_peep.specs.declared.window.Swap.TheVariants as swap
use Rattle.heco_peep.specs.Rules.{Rule, Handed}
use Rattle.heco_peep.specs.Looks.{fits}
use Rattle.heco_peep.specs.Passed.{passed, passed_on, tried, is_kept}
use Rattle.heco_peep.specs.NegRule.{neg_rule}
use Rattle.heco_peep.specs.SubRule.{sub_rule}
use Rattle.heco_peep.specs.ScaleRule.{scale_rule}

p8 : Preset
p8 = record { id = 1; n = 16; slots = 8; t = 257; k = 58; w = 2; l = 29; h = 4; b = 2; zeta = 136; ninv = 241; row = (omega arith, omega arith, refl, refl, refl, refl, refl, refl, refl, refl, refl, refl) }

x : Shape
x = record { name = codes "x"; len = 1 }

z : Shape
z = record { name = codes "z"; len = 1 }

y_at : ℕ → List Output
y_at wire = record { name = codes "y"; cells = Slot wire 0 ∷ [] } ∷ []

circuit : List Shape → List Gate → ℕ → Plan
circuit inputs gates wire = record { preset = 1; inputs = inputs; vectors = []; gates = gates; outputs = y_at wire }

-- the three passes of the program
three : List Handed
three = record { rule = sub_rule; state = 0 ∷ [] } ∷ record { rule = neg_rule; state = 0 ∷ [] } ∷ record { rule = scale_rule; state = 0 ∷ [] } ∷ []

abbrev states : List Handed → List (List ℕ)
states passes = map (λ h. h.state) passes

counting : Rule
counting = record { answer = λ state w. (None, (length state + 1) ∷ state); lawful = λ state w r a e. absurd cc }

-- ---- y = x - z
difference : Plan
difference = circuit (x ∷ z ∷ []) (Neg 1 ∷ Add 0 2 ∷ []) 3

difference_passed : passed p8 difference three ≡ circuit (x ∷ z ∷ []) (Sub 0 1 ∷ []) 2
unfolding tried is_kept difference circuit y_at p8 x z three
difference_passed = refl

difference_states : states (passed_on p8 difference three) ≡ (1 ∷ []) ∷ (0 ∷ []) ∷ (0 ∷ []) ∷ []
unfolding tried is_kept difference circuit y_at p8 x z three
difference_states = refl

difference_bytes : length (circuit_text (circuit (x ∷ z ∷ []) (Sub 0 1 ∷ []) 2)) ≡ 51
unfolding circuit y_at x z
difference_bytes = refl

difference_means : meaning_of (circuit (x ∷ z ∷ []) (Sub 0 1 ∷ []) 2) ((3 ∷ []) ∷ (5 ∷ []) ∷ []) ≡ (255 ∷ []) ∷ []
unfolding meaning_of circuit y_at x z
difference_means = refl

-- two windows where nothing is answered
difference_shown : states (passed_on p8 difference (record { rule = counting; state = [] } ∷ [])) ≡ (2 ∷ 1 ∷ []) ∷ []
unfolding tried is_kept difference circuit y_at p8 x z counting
difference_shown = refl

-- ---- y = 2*(3*x)
six_passed : passed p8 (circuit (x ∷ []) (Scale 3 0 ∷ Scale 2 1 ∷ []) 2) three ≡ circuit (x ∷ []) (Scale 6 0 ∷ []) 1
unfolding tried is_kept circuit y_at p8 x z three centre_t
six_passed = refl

six_bounds : wire_bounds 1 [] (x ∷ []) (Scale 6 0 ∷ []) ≡ 4754 ∷ 28524 ∷ []
unfolding x centre_t
six_bounds = refl

-- ---- an operand of an operand: two negatives of an input leave it
negatives_passed : passed p8 (circuit (x ∷ []) (Neg 0 ∷ Neg 1 ∷ []) 2) three ≡ circuit (x ∷ []) [] 0
unfolding tried is_kept circuit y_at p8 x z three
negatives_passed = refl

-- ---- a pass that answers nothing still drops a dead gate
dead_dropped : passed p8 (circuit (x ∷ []) (Neg 0 ∷ Shift 1 0 ∷ []) 2) (record { rule = counting; state = [] } ∷ []) ≡ circuit (x ∷ []) (Shift 1 0 ∷ []) 1
unfolding tried is_kept circuit y_at p8 x z counting
dead_dropped = refl

-- but not where that changes the needs
dead_turn_stays : passed p8 (circuit (x ∷ []) (Turn 1 0 ∷ Neg 0 ∷ []) 2) (record { rule = counting; state = [] } ∷ []) ≡ circuit (x ∷ []) (Turn 1 0 ∷ Neg 0 ∷ []) 2
unfolding tried is_kept circuit y_at p8 x z counting
dead_turn_stays = refl

-- ---- an answer that raises the bound, and one that has other parts, are not taken
raised : fits 1 [] (2 ∷ []) (4754 ∷ []) (Scale 1 0) (swap.Gate (Shift 0 0)) ≡ false
unfolding centre_t
raised = refl

other_parts : fits 1 [] (2 ∷ 3 ∷ []) (4754 ∷ 4754 ∷ []) (Neg 1) (swap.Wire 0) ≡ false
other_parts = refl

-- ---- the Hamming distance of eight: nine gates in place of ten
a : Shape
a = record { name = codes "a"; len = 8 }

b : Shape
b = record { name = codes "b"; len = 8 }

distance : Plan
distance = circuit (a ∷ b ∷ []) (Neg 1 ∷ Add 0 2 ∷ Mul 3 3 ∷ Relin 4 ∷ Turn 4 5 ∷ Add 5 6 ∷ Turn 2 7 ∷ Add 7 8 ∷ Turn 1 9 ∷ Add 9 10 ∷ []) 11

distance_passed : (passed p8 distance three).gates ≡ Sub 0 1 ∷ Mul 2 2 ∷ Relin 3 ∷ Turn 4 4 ∷ Add 4 5 ∷ Turn 2 6 ∷ Add 6 7 ∷ Turn 1 8 ∷ Add 8 9 ∷ []
unfolding tried is_kept distance circuit y_at p8 a b three
distance_passed = refl
