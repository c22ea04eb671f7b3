-- Passes over a circuit, one after the other.
use Rattle.std.specs.Prelude.{◌≡◌, ℕ, Bool, false, ◌&&◌, ◌==◌, List, [], ◌∷◌, map, length, slice_index, nat_le, if◌then◌else◌}
use Rattle.std.specs.List.{list_any, count_by}
use Rattle.std.specs.Str.{bytes_eq}
use Rattle.std.specs.Bool.{beq}
use Rattle.heco_nums.specs.declared.preset.Preset.{Preset}
use Rattle.heco_circuit.specs.declared.gate.Cell.{Cell}
use Rattle.heco_circuit.specs.declared.gate.Cell.TheVariants.{Number, Slot}
use Rattle.heco_circuit.specs.declared.gate.Gate.{Gate}
use Rattle.heco_circuit.specs.declared.gate.Output.{Output}
use Rattle.heco_circuit.specs.Needs.{is_relin, needs_relin, needed_turns}
use Rattle.heco_circuit.specs.Plans.{Plan}
use Rattle.heco_thrift.specs.Thrift.{is_product}
use Rattle.heco_rewrites.specs.Wires.{output_over}
use Rattle.heco_rewrites.specs.Needed.{Kept}
use Rattle.heco_rewrites.specs.Dropping.{needed_gates}
use Rattle.heco_peep.specs.Rules.{Rule, Handed}
use Rattle.heco_peep.specs.Looks.{Progress, looked}

-- an output cell is a slot of this wire
abbrev pub names_wire : ℕ → Cell → Bool
names_wire a (Number n) = false
names_wire a (Slot wire slot) = wire == a

abbrev pub shows : List Output → ℕ → Bool
shows outputs a = list_any (λ o. list_any (names_wire a) o.cells) outputs

-- the circuit with these gates in place of its own; its vectors stay
abbrev pub with_gates : Plan → List Gate → List Output → Plan
with_gates c gates outputs = record { preset = c.preset; inputs = c.inputs; vectors = c.vectors; gates = gates; outputs = outputs }

-- output cells follow the wires that were replaced
abbrev pub renamed : Plan → Progress → Plan
renamed c s = with_gates c s.gates (map (output_over (slice_index s.names)) c.outputs)

-- the gates that no output needs go, and the others keep their order
abbrev pub needed_of : Plan → Kept
needed_of c = needed_gates (shows c.outputs) (length c.inputs) c.gates

abbrev pub without_dead : Plan → Plan
without_dead c = with_gates c (needed_of c).gates (map (output_over (slice_index (needed_of c).names)) c.outputs)

-- the circuit that a pass brings
unfoldable pub tried : Preset → Plan → Rule → List ℕ → Plan
tried p c rule state = without_dead (renamed c (looked p c rule state))

-- a pass's circuit is kept exactly where its needs are those before the pass, and it relinearises no more often than it
-- multiplies
unfoldable pub is_kept : Plan → Plan → Bool
is_kept c d = beq (needs_relin d) (needs_relin c)
    && (bytes_eq (needed_turns d) (needed_turns c) && nat_le (count_by is_relin d.gates) (count_by is_product d.gates))

-- the circuit after a pass
abbrev pub after : Preset → Plan → Rule → List ℕ → Plan
after p c rule state = if is_kept c (tried p c rule state) then tried p c rule state else c

-- the last circuit
abbrev pub passed : Preset → Plan → List Handed → Plan
passed p c [] = c
passed p c (h ∷ handed) = passed p (after p c h.rule h.state) handed

-- a pass as a whole circuit leaves it, whether or not its circuit is kept
abbrev pub moved : Preset → Plan → Handed → Handed
moved p c h = record { rule = h.rule; state = (looked p c h.rule h.state).state }

-- the passes as they are left
abbrev pub passed_on : Preset → Plan → List Handed → List Handed
passed_on p c [] = []
passed_on p c (h ∷ handed) = moved p c h ∷ passed_on p (after p c h.rule h.state) handed

-- for the circuit c and the passes as they are handed in: the circuit d that comes of them, and the passes as they are left
pub record IsPassed (c : Plan) (handed : List Handed) (d : Plan) (left : List Handed) : Type 0 where
  pub preset : Preset
  pub number : preset.id ≡ c.preset
  pub circuit : d ≡ passed preset c handed
  pub left_are : left ≡ passed_on preset c handed
