-- The slots that are read, for every preset.
use Rattle.std.proofs.Common.{◌≡◌, ℕ, ◌<◌, List, length, get_or, arith}
use Rattle.std.specs.Prelude.{All}
use Rattle.std.proofs.lemmas.List.FromFn.{get_or-map-range_with_len, length-map-range_with_len, fill_by_all}
use Rattle.heco_nums.specs.declared.preset.Preset.{Preset}
use Rattle.heco_nums.proofs.PresetFacts.{facts}
use Rattle.heco_ring.specs.Ring.{wholes}
use Rattle.heco_ring.specs.Slots.{slot, decode, encode, encode_at, HasSlots}
use Rattle.heco_ring.proofs.RoundTrip.{decode_encode}
use Rattle.heco_slots.specs.Slots.{slot_of, decoded, encoded}

pub has_slots : (p : Preset) → HasSlots p.n p.slots p.t p.zeta p.ninv
has_slots p = let F = facts p in record {
  depth = F.depth;
  n_power = F.n_power;
  slots_power = F.slots_power;
  t_pos = F.t_pos;
  minus_one = F.minus_one;
  inverse = F.inverse;
  round = F.round;
  half = F.half;
}

pub decoded_encoded : (p : Preset) (v : List ℕ) → length v ≡ p.slots → All (λ x. x < p.t) v → decoded p (encoded p v) ≡ v
unfolding decoded encoded
decoded_encoded p v l h = decode_encode p.n p.slots p.t p.zeta p.ninv v (has_slots p) l h

pub decoded_long : (p : Preset) (m : List ℕ) → length (decoded p m) ≡ p.slots
unfolding decoded decode
decoded_long p m = length-map-range_with_len (λ j. slot p.n p.t p.zeta (wholes m) j) 0 p.slots

pub decoded_at : (p : Preset) (m : List ℕ) (j : ℕ) → j < p.slots → get_or (decoded p m) j 0 ≡ slot_of p m j
unfolding decoded decode slot_of
decoded_at p m j h = get_or-map-range_with_len (λ j. slot p.n p.t p.zeta (wholes m) j) 0 p.slots j j 0 h (omega arith)

-- ---- lists that were filled place by place
pub encoded_filled : (p : Preset) (v out : List ℕ) → length out ≡ p.n → ((k : ℕ) → k < length out → get_or out k 0 ≡ encode_at p.n p.t p.zeta p.ninv p.slots v k) → out ≡ encoded p v
unfolding encoded encode
encoded_filled p v out e h = fill_by_all (λ k. encode_at p.n p.t p.zeta p.ninv p.slots v k) out p.n 0 e (λ k l. h k (omega arith))

pub decoded_filled : (p : Preset) (m out : List ℕ) → length out ≡ p.slots → ((j : ℕ) → j < length out → get_or out j 0 ≡ slot_of p m j) → out ≡ decoded p m
unfolding decoded decode slot_of
decoded_filled p m out e h = fill_by_all (λ j. slot p.n p.t p.zeta (wholes m) j) out p.slots 0 e (λ k l. h k (omega arith))
