-- What a gate keeps over wires that stand for its operands.
use Rattle.std.specs.Prelude.{◌≡◌, ◌≤◌, ℕ, true, List, length}
use Rattle.heco_nums.specs.Presets.{modulus_of, slots_of}
use Rattle.heco_circuit.specs.declared.gate.Gate.{Gate}
use Rattle.heco_circuit.specs.Validity.{parts_of, is_gate}
use Rattle.heco_circuit.specs.Bounds.{bound_of, weights_of}
use Rattle.heco_meaning.specs.Meanings.{wire_of}
use Rattle.heco_rewrites.specs.Wires.{Wires, over, OperandsStand, Keeps}

-- as many parts, no greater bound, the same slots, and it may stand
pub record IsRenamed (id : ℕ) (vs ws : List (List ℕ)) (old new : Wires) (g h : Gate) : Type 0 where
  pub parts : parts_of new.parts h ≡ parts_of old.parts g
  pub bound : bound_of id (weights_of id ws) new.bounds h ≤ bound_of id (weights_of id vs) old.bounds g
  pub slots : wire_of (modulus_of id) ws new.slots h ≡ wire_of (modulus_of id) vs old.slots g
  pub valid : is_gate (modulus_of id) (slots_of id) (length ws) new.parts h ≡ true

abbrev pub GatesMayBeRenamed : Type 0
GatesMayBeRenamed =
    (id : ℕ) (vs ws : List (List ℕ)) (name : ℕ → ℕ) (old new : Wires) (g : Gate) → Keeps vs ws → OperandsStand name old new g
    → is_gate (modulus_of id) (slots_of id) (length vs) old.parts g ≡ true → IsRenamed id vs ws old new g (over name g)
