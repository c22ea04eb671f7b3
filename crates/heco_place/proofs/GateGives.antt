-- What each kind of gate carries, from what its operands carry.
use Rattle.std.proofs.Common.{◌≡◌, ℕ, ◌+◌, ◌-◌, ◌*◌, ◌%◌, ◌<◌, ◌≤◌, Bool, true, false, ◌||◌, max, List, length, map, refl, ap, ◌∙◌, arith}
use Rattle.std.proofs.lemmas.Bool.{lt-ltb, le-leb, eq-eqb}
use Rattle.heco_nums.specs.Presets.{modulus_of, slots_of, degree_of, hamming_weight_of}
use Rattle.heco_nums.specs.declared.shape.Shape.{Shape}
use Rattle.heco_written.specs.VectorTerm.{VectorTerm, Negated, Added, Multiplied, Scaled, Shifted, Turned, slot_value}
use Rattle.heco_written.specs.Bound.{Scheme, scheme_of}
use Rattle.heco_circuit.specs.declared.gate.Gate.{Gate}
use Rattle.heco_circuit.specs.declared.gate.Gate.TheVariants.{Neg, Add, Mul, Relin, Scale, Shift, Turn}
use Rattle.heco_circuit.specs.Validity.{is_wire, has_parts, is_between, parts_of}
use Rattle.heco_circuit.specs.Plans.{input_parts}
use Rattle.heco_circuit.proofs.Lengths.{length-input_parts}
use Rattle.heco_meaning.specs.Meanings.{turned}
use Rattle.heco_thrift.specs.Homes.{world_of}
use Rattle.heco_place.specs.inside.Carried.{all_parts, parts_where, share, Carries, Gives}
use Rattle.heco_place.proofs.Bools.{both}
use Rattle.heco_place.proofs.Growing.{length-along}
use Rattle.heco_place.proofs.SlotLists.{map-range, sums-range, products-range, turned-range}
use Rattle.heco_place.proofs.BoundRows.{multiplied-le, scaled_by-le}

pub length-all_parts : (inputs : List Shape) (gates : List Gate) → length (all_parts inputs gates) ≡ length inputs + length gates
length-all_parts inputs gates = length-along parts_of (input_parts inputs) gates ∙ ap (λ n. n + length gates) (length-input_parts inputs)

plus-le : (x y k : ℕ) → x ≤ y → x + k ≤ y + k
plus-le x y k le = omega arith

plain-le : (x y : ℕ) → x + 0 ≤ y → x ≤ y
plain-le x y le = omega arith

plus-plain-le : (x y : ℕ) → x ≤ y → x + 0 ≤ y
plus-plain-le x y le = omega arith

swap-le : (x s k y : ℕ) → x + s ≤ y → x + k + s ≤ y + k
swap-le x s k y le = omega arith

sum-le : (p : Scheme) (a b : Bool) (x y u v : ℕ) → x + share p a ≤ u → y + share p b ≤ v → (x + y) + share p (a || b) ≤ u + v
sum-le p true b x y u v le le2 = omega arith
sum-le p false true x y u v le le2 = omega arith
sum-le p false false x y u v le le2 = omega arith

max-parts : (a b : Bool) → max (parts_where a) (parts_where b) ≡ parts_where (a || b)
max-parts true true = refl
max-parts true false = refl
max-parts false true = refl
max-parts false false = refl

pub between : (low high c : ℕ) → low ≤ c → c ≤ high → is_between low high c ≡ true
between low high c le le2 = both _ _ (le-leb low c le) (le-leb c high le2)

module _ (id : ℕ) (inputs : List Shape) (gates : List Gate) where
  abbrev t : ℕ
  t = modulus_of id

  is_there : (w : ℕ) (long : Bool) (v : VectorTerm) → Carries id inputs gates w long v → is_wire (all_parts inputs gates) w ≡ true
  is_there w long v c = rw (length-all_parts inputs gates) (lt-ltb w (length inputs + length gates) c.within)

  pub has_its_parts : (w : ℕ) (long : Bool) (v : VectorTerm) → Carries id inputs gates w long v → has_parts (parts_where long) (all_parts inputs gates) w ≡ true
  has_its_parts w long v c = both _ _ (is_there w long v c) (rw c.parts_are (eq-eqb (parts_where long) (parts_where long) refl))

  pub gives_neg : (a : ℕ) (long : Bool) (v : VectorTerm) → Carries id inputs gates a long v → Gives id inputs gates (Neg a) long (Negated v)
  gives_neg a long v c = record {
    valid = is_there a long v c;
    parts_are = c.parts_are;
    bound_within = c.bound_within;
    slots_are = λ rs r. ap (map (λ x. (t - x) % t)) (c.slots_are rs r) ∙ map-range (slot_value (world_of id rs) v) (λ x. (t - x) % t) 0 (slots_of id);
  }

  pub gives_add : (a b : ℕ) (long other : Bool) (v u : VectorTerm) → Carries id inputs gates a long v → Carries id inputs gates b other u
      → Gives id inputs gates (Add a b) (long || other) (Added v u)
  gives_add a b long other v u c d = record {
    valid = both _ _ (is_there a long v c) (is_there b other u d);
    parts_are = rw (c.parts_are, d.parts_are) (max-parts long other);
    bound_within = sum-le (scheme_of id) long other _ _ _ _ c.bound_within d.bound_within;
    slots_are = λ rs r.
        rw (c.slots_are rs r, d.slots_are rs r) (sums-range t (slot_value (world_of id rs) v) (slot_value (world_of id rs) u) 0 (slots_of id));
  }

  pub gives_mul : (a b : ℕ) (v u : VectorTerm) → Carries id inputs gates a false v → Carries id inputs gates b false u → Gives id inputs gates (Mul a b) true (Multiplied v u)
  gives_mul a b v u c d = record {
    valid = both _ _ (has_its_parts a false v c) (has_its_parts b false u d);
    parts_are = refl;
    bound_within = plus-le _ _ _ (multiplied-le (degree_of id) (modulus_of id) (hamming_weight_of id) _ _ _ _ (plain-le _ _ c.bound_within) (plain-le _ _ d.bound_within));
    slots_are = λ rs r.
        rw (c.slots_are rs r, d.slots_are rs r) (products-range t (slot_value (world_of id rs) v) (slot_value (world_of id rs) u) 0 (slots_of id));
  }

  pub gives_relin : (a : ℕ) (v : VectorTerm) → Carries id inputs gates a true v → Gives id inputs gates (Relin a) false v
  gives_relin a v c = record {
    valid = has_its_parts a true v c;
    parts_are = refl;
    bound_within = plus-plain-le _ _ c.bound_within;
    slots_are = c.slots_are;
  }

  pub gives_scale : (k a : ℕ) (long : Bool) (v : VectorTerm) → 0 < k → k < modulus_of id → Carries id inputs gates a long v → Gives id inputs gates (Scale k a) long (Scaled k v)
  gives_scale k a long v some lt c = record {
    valid = both _ _ (between 1 (t - 1) k some (omega arith)) (is_there a long v c);
    parts_are = c.parts_are;
    bound_within = scaled_by-le t k _ (share (scheme_of id) long) _ some lt c.bound_within;
    slots_are = λ rs r. ap (map (λ x. (k * x) % t)) (c.slots_are rs r) ∙ map-range (slot_value (world_of id rs) v) (λ x. (k * x) % t) 0 (slots_of id);
  }

  pub gives_shift : (k a : ℕ) (long : Bool) (v : VectorTerm) → k < modulus_of id → Carries id inputs gates a long v → Gives id inputs gates (Shift k a) long (Shifted k v)
  gives_shift k a long v lt c = record {
    valid = both _ _ (between 0 (t - 1) k (omega arith) (omega arith)) (is_there a long v c);
    parts_are = c.parts_are;
    bound_within = swap-le _ (share (scheme_of id) long) _ _ c.bound_within;
    slots_are = λ rs r. ap (map (λ x. (x + k) % t)) (c.slots_are rs r) ∙ map-range (slot_value (world_of id rs) v) (λ x. (x + k) % t) 0 (slots_of id);
  }

  pub gives_turn : (k a : ℕ) (v : VectorTerm) → 0 < k → k < slots_of id → Carries id inputs gates a false v → Gives id inputs gates (Turn k a) false (Turned k v)
  gives_turn k a v some lt c = record {
    valid = both _ _ (between 1 (slots_of id - 1) k some (omega arith)) (has_its_parts a false v c);
    parts_are = refl;
    bound_within = swap-le _ 0 _ _ c.bound_within;
    slots_are = λ rs r. ap (turned k) (c.slots_are rs r) ∙ turned-range (slot_value (world_of id rs) v) (slots_of id) k lt;
  }
