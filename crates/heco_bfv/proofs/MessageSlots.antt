-- The slots of messages, at each place of the list of slots.
use Prim.Native.Nat.{ℕ, ◌+◌, ◌-◌, ◌*◌, ◌%◌, ◌<◌}
use native.Mathlib.Nat.{mod-lt}
use mathlib.Core.Path.{◌≡◌, refl, ◌∙◌}
use mathlib.Core.List.{List}
use lib.ListN.{length, get_or}
use Rattle.std.specs.Prelude.{All}
use Rattle.heco_nums.specs.declared.preset.Preset.{Preset}
use Rattle.heco_nums.proofs.PresetFacts.{some_slots}
use Rattle.heco_slots.specs.Messages as message
use Rattle.heco_slots.specs.Rows.{slot_in}
use Rattle.heco_slots.specs.Slots.{decoded}
use Rattle.heco_slots.proofs.PresetSlots.{decoded_encoded, decoded_long, decoded_at}
use Rattle.heco_slots.proofs.SlotsInRow.{first_is_read, in_sum, in_difference, in_opposite, in_multiple, in_raised, in_product, in_turned}
use Rattle.heco_slots.proofs.WeighedSlots.{first_weighed}

slot_at : (p : Preset) (m : List ℕ) (j : ℕ) → j < p.slots → get_or (decoded p m) j 0 ≡ slot_in p 1 m j
slot_at p m j h = decoded_at p m j h ∙ first_is_read p m j

pub sum_slot : (p : Preset) (m l : List ℕ) (j : ℕ) → j < p.slots → get_or (decoded p (message.sum p m l)) j 0 ≡ (get_or (decoded p m) j 0 + get_or (decoded p l) j 0) % p.t
sum_slot p m l j h = rw (slot_at p (message.sum p m l) j h, slot_at p m j h, slot_at p l j h) (in_sum p 1 m l j)

pub difference_slot : (p : Preset) (m l : List ℕ) (j : ℕ) → j < p.slots → get_or (decoded p (message.difference p m l)) j 0 ≡ (get_or (decoded p m) j 0 + (p.t - get_or (decoded p l) j 0)) % p.t
difference_slot p m l j h = rw (slot_at p (message.difference p m l) j h, slot_at p m j h, slot_at p l j h) (in_difference p 1 m l j)

pub opposite_slot : (p : Preset) (m : List ℕ) (j : ℕ) → j < p.slots → get_or (decoded p (message.opposite p m)) j 0 ≡ (p.t - get_or (decoded p m) j 0) % p.t
opposite_slot p m j h = rw (slot_at p (message.opposite p m) j h, slot_at p m j h) (in_opposite p 1 m j)

pub multiple_slot : (p : Preset) (c : ℕ) (m : List ℕ) (j : ℕ) → j < p.slots → get_or (decoded p (message.multiple p c m)) j 0 ≡ c * get_or (decoded p m) j 0 % p.t
multiple_slot p c m j h = rw (slot_at p (message.multiple p c m) j h, slot_at p m j h) (in_multiple p 1 c m j)

pub raised_slot : (p : Preset) (c : ℕ) (m : List ℕ) (j : ℕ) → j < p.slots → get_or (decoded p (message.raised p c m)) j 0 ≡ (get_or (decoded p m) j 0 + c) % p.t
raised_slot p c m j h = rw (slot_at p (message.raised p c m) j h, slot_at p m j h) (in_raised p 1 c m j)

pub product_slot : (p : Preset) (m l : List ℕ) (j : ℕ) → j < p.slots → get_or (decoded p (message.product p m l)) j 0 ≡ get_or (decoded p m) j 0 * get_or (decoded p l) j 0 % p.t
product_slot p m l j h = rw (slot_at p (message.product p m l) j h, slot_at p m j h, slot_at p l j h) (in_product p 1 m l j refl)

pub weighed_slot : (p : Preset) (v m : List ℕ) (j : ℕ) → length v ≡ p.slots → All (λ x. x < p.t) v → j < p.slots → get_or (decoded p (message.weighed p v m)) j 0 ≡ get_or v j 0 * get_or (decoded p m) j 0 % p.t
weighed_slot p v m j long below h = rw (slot_at p (message.weighed p v m) j h, slot_at p m j h) (first_weighed p v m j long below h)

pub turned_slot : (p : Preset) (r : ℕ) (m : List ℕ) (j : ℕ) → j < p.slots → get_or (decoded p (message.turned p r m)) j 0 ≡ get_or (decoded p m) ((j + r) % p.slots) 0
turned_slot p r m j h =
    let s : 0 < p.slots = some_slots p in
    let w : (j + r) % p.slots < p.slots = mod-lt (j + r) s in
    rw (slot_at p (message.turned p r m) j h, slot_at p m ((j + r) % p.slots) w) (in_turned p 1 r m j refl)

pub ruleset laws = (decoded_encoded, decoded_long, sum_slot, difference_slot, opposite_slot, multiple_slot, raised_slot, product_slot, weighed_slot, turned_slot)
