-- A circuit that is no worse than another.
use Rattle.std.specs.Prelude.{◌≡◌, ◌≤◌, ◌<◌, ◌+◌, ◌^◌, ℕ, Bool, true, false, Option, Some, None, List, length, map, slice_index, All}
use Rattle.std.specs.List.{AllZip, count_by}
use Rattle.heco_nums.specs.Presets.{modulus_of}
use Rattle.heco_nums.specs.declared.preset.Preset.{Preset}
use Rattle.heco_texts.specs.Answers.{HaveFit}
use Rattle.heco_circuit.specs.declared.gate.Cell.{Cell}
use Rattle.heco_circuit.specs.declared.gate.Cell.TheVariants.{Number, Slot}
use Rattle.heco_circuit.specs.declared.gate.Gate.{Gate}
use Rattle.heco_circuit.specs.CircuitFormat.{circuit_text}
use Rattle.heco_circuit.specs.Circuits.{IsCircuit}
use Rattle.heco_circuit.specs.Needs.{is_relin, needs_relin, needed_turns}
use Rattle.heco_circuit.specs.Plans.{Plan, shape_of}
use Rattle.heco_meaning.specs.Meanings.{wire_at, wires_of, meaning_of}
use Rattle.heco_thrift.specs.Homes.{all_cells}
use Rattle.heco_thrift.specs.Thrift.{bounds_of, gate_bounds, is_product, is_weighing}
use Rattle.heco_rewrites.specs.Wires.{maker}
use Rattle.heco_peep.specs.Rules.{Handed}
use Rattle.heco_peep.specs.Passed.{passed}

abbrev pub weighed_by : Option Gate → Bool
weighed_by (Some g) = is_weighing g
weighed_by None = false

-- a product by a plain vector makes this wire
abbrev pub is_weighed : Plan → ℕ → Bool
is_weighed c a = weighed_by (maker (length c.inputs) c.gates a)

-- no gate's bound is above this number, but for the products by plain vectors
abbrev pub AreBelowElsewhere : ℕ → Plan → Type 0
AreBelowElsewhere most c = (a : ℕ) → length c.inputs ≤ a → a < length c.inputs + length c.gates → is_weighed c a ≡ false → slice_index (bounds_of c) a ≤ most

-- the wire w has no greater bound than u, and the same slots for all inputs; a product by a plain vector stays one
pub record Replaces (c d : Plan) (u w : ℕ) : Type 0 where
  pub bound : slice_index (bounds_of d) w ≤ slice_index (bounds_of c) u
  pub means : (rows : List (List ℕ)) → HaveFit (modulus_of c.preset) c.inputs rows → wire_at (wires_of d rows) w ≡ wire_at (wires_of c rows) u
  pub weighed : is_weighed c u ≡ true → is_weighed d w ≡ true

-- the same number, or the same slot of a wire that replaces the other's
abbrev pub IsSameCell : Plan → Plan → Cell → Cell → Type 0
IsSameCell c d (Number n) (Number m) = m ≡ n
IsSameCell c d (Slot u i) (Slot w j) = (j ≡ i) × Replaces c d u w
IsSameCell c d (Number n) (Slot w j) = ⊥
IsSameCell c d (Slot u i) (Number m) = ⊥

-- the same ports, vectors and needs, the same meaning for all inputs; no more gates, none of them above the greatest bound of a
-- gate, beside products by plain vectors and without them; no greater bound of an output's wire, and relinearisations kept
-- within products
pub record IsNoWorse (c d : Plan) : Type 0 where
  pub valid : IsCircuit d
  pub preset : d.preset ≡ c.preset
  pub inputs : d.inputs ≡ c.inputs
  pub vectors : d.vectors ≡ c.vectors
  pub outputs : map shape_of d.outputs ≡ map shape_of c.outputs
  pub cells : AllZip (IsSameCell c d) (all_cells c) (all_cells d)
  pub means : (rows : List (List ℕ)) → HaveFit (modulus_of c.preset) c.inputs rows → meaning_of d rows ≡ meaning_of c rows
  pub gates : length d.gates ≤ length c.gates
  pub bounds : (most : ℕ) → All (λ e. e ≤ most) (gate_bounds c) → All (λ e. e ≤ most) (gate_bounds d)
  pub bounds_elsewhere : (most : ℕ) → AreBelowElsewhere most c → AreBelowElsewhere most d
  pub relinearisation_needed : needs_relin d ≡ needs_relin c
  pub turns_needed : needed_turns d ≡ needed_turns c
  pub relinearisations : count_by is_relin c.gates ≤ count_by is_product c.gates → count_by is_relin d.gates ≤ count_by is_product d.gates

-- the file has fewer than 2^28 bytes: were each gate to grow from 5 bytes to 9, it would still be short
abbrev pub HasFewBytes : Plan → Type 0
HasFewBytes c = length (circuit_text c) < 2 ^ 28

abbrev pub PassedCircuitsAreNoWorse : Type 0
PassedCircuitsAreNoWorse = (p : Preset) (c : Plan) (handed : List Handed) → p.id ≡ c.preset → IsCircuit c → HasFewBytes c → IsNoWorse c (passed p c handed)
