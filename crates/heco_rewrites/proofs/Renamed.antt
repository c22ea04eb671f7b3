-- What a gate keeps over wires that stand for its operands, together.
use Rattle.heco_nums.specs.Presets.{modulus_of, slots_of}
use Rattle.heco_rewrites.specs.Renaming.{GatesMayBeRenamed}
use Rattle.heco_rewrites.proofs.OtherNames.{over_parts, over_bound, over_slots, over_is_gate}

pub renamed : GatesMayBeRenamed
renamed id vs ws name old new g k h v = record {
  parts = over_parts name old new g h;
  bound = over_bound id (modulus_of id) (slots_of id) vs ws name old new g k h v;
  slots = over_slots (modulus_of id) (modulus_of id) (slots_of id) vs ws name old new g k h v;
  valid = over_is_gate (modulus_of id) (slots_of id) vs ws name old new g k h v;
}
