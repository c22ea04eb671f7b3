-- A gate over other names does what the gate does, and has no greater bound.
use Rattle.std.proofs.Common.{◌≡◌, ℕ, ◌+◌, ◌*◌, ◌<◌, ◌≤◌, List, [], ◌∷◌, length, map, refl, ap, sym, ◌∙◌, arith, ◌-◌, ◌%◌, true, ltb, eqb}
use Rattle.std.specs.Prelude.{Contains, slice_index}
use Rattle.std.specs.Int.RustNames.{unsigned_abs}
use native.Mathlib.Nat.{mul-le-mul_left}
use Rattle.std.proofs.lemmas.Bool.{lt-ltb, ltb-true}
use Rattle.std.proofs.lemmas.List.{get_or-map}
use Rattle.heco_nums.specs.Presets.{degree_of, modulus_of, hamming_weight_of, error_of}
use Rattle.heco_nums.specs.Arithmetic.{centre_t}
use Rattle.heco_noise.specs.Rows as rows
use Rattle.heco_fields.proofs.Bools.{both_true, and_true}
use Rattle.heco_circuit.specs.declared.gate.Gate.{Gate}
use Rattle.heco_circuit.specs.declared.gate.Gate.TheVariants.{Neg, Add, Sub, Mul, Relin, Scale, Shift, Turn, Weigh}
use Rattle.heco_circuit.specs.Validity.{parts_of, is_gate, is_wire, has_parts, is_between}
use Rattle.heco_circuit.specs.Bounds.{bound_of, weights_of, vector_weight_of}
use Rattle.heco_meaning.specs.Meanings.{wire_of, turned}
use Rattle.heco_rewrites.specs.Wires.{Wires, operands, over, StandsFor, OperandsStand, Keeps}

pub first : (x : ℕ) (xs : List ℕ) → Contains (x ∷ xs) x
first x xs = (0, omega arith, refl)

pub second : (x y : ℕ) → Contains (x ∷ y ∷ []) y
second x y = (1, omega arith, refl)

-- ---- each row of the bounds is monotone
pub added_grows : (a b c d : ℕ) → a ≤ c → b ≤ d → rows.added a b ≤ rows.added c d
added_grows a b c d h g = omega arith

pub turned_grows : (t n b e f : ℕ) → e ≤ f → rows.turned t n b e ≤ rows.turned t n b f
turned_grows t n b e f h = let k : ℕ = rows.key_switch t n b in more k e f h
  where
    more : (k e f : ℕ) → e ≤ f → e + k ≤ f + k
    more k e f h = omega arith

pub shifted_grows : (t e f : ℕ) → e ≤ f → rows.shifted t e ≤ rows.shifted t f
shifted_grows t e f h = omega arith

pub scaled_grows : (t c e f : ℕ) → e ≤ f → rows.scaled_by t c e ≤ rows.scaled_by t c f
scaled_grows t c e f h = mul-le-mul_left (unsigned_abs (centre_t t c)) h

pub weighed_grows : (s e f : ℕ) → e ≤ f → rows.weighed s e ≤ rows.weighed s f
weighed_grows s e f h = mul-le-mul_left s h

pub multiplied_grows : (n t h a b c d : ℕ) → a ≤ c → b ≤ d → rows.multiplied n t h a b ≤ rows.multiplied n t h c d
multiplied_grows n t h a b c d l r =
    more (n * (rows.message_size t h + 1) * (a + b)) (n * (rows.message_size t h + 1) * (c + d)) (t * (1 + h + h * h)) (mul-le-mul_left (n * (rows.message_size t h + 1)) (added_grows a b c d l r))
  where
    more : (x y k : ℕ) → x ≤ y → x + k ≤ y + k
    more x y k h = omega arith

-- ---- a vector that was there weighs the same
pub same_weight : (id : ℕ) (vs ws : List (List ℕ)) (v : ℕ) → Keeps vs ws → v < length vs → slice_index (weights_of id ws) v ≡ slice_index (weights_of id vs) v
same_weight id vs ws v k l =
    let m : v < length ws = (let f = k.few in omega (arith, f, l)) in
    get_or-map (vector_weight_of id) ws v [] 0 m ∙ ap (vector_weight_of id) (k.each v l) ∙ sym (get_or-map (vector_weight_of id) vs v [] 0 l)

weighs_there : (t slots count : ℕ) (parts : List ℕ) (v a : ℕ) → is_gate t slots count parts (Weigh v a) ≡ true → v < count
weighs_there t slots count parts v a h = ltb-true v count (both_true (ltb v count) (is_wire parts a) h).0

-- ---- a gate whose operands are stood for
pub over_parts : (name : ℕ → ℕ) (old new : Wires) (g : Gate) → OperandsStand name old new g → parts_of new.parts (over name g) ≡ parts_of old.parts g
over_parts name old new (Neg a) h = (h a (first a [])).parts
over_parts name old new (Add a b) h = rw ((h a (first a (b ∷ []))).parts, (h b (second a b)).parts) refl
over_parts name old new (Sub a b) h = rw ((h a (first a (b ∷ []))).parts, (h b (second a b)).parts) refl
over_parts name old new (Mul a b) h = refl
over_parts name old new (Relin a) h = refl
over_parts name old new (Scale c a) h = (h a (first a [])).parts
over_parts name old new (Shift c a) h = (h a (first a [])).parts
over_parts name old new (Turn r a) h = refl
over_parts name old new (Weigh v a) h = (h a (first a [])).parts

pub over_bound : (id t slots : ℕ) (vs ws : List (List ℕ)) (name : ℕ → ℕ) (old new : Wires) (g : Gate) → Keeps vs ws → OperandsStand name old new g → is_gate t slots (length vs) old.parts g ≡ true
    → bound_of id (weights_of id ws) new.bounds (over name g) ≤ bound_of id (weights_of id vs) old.bounds g
over_bound id t slots vs ws name old new (Neg a) k h v = (h a (first a [])).bounds
over_bound id t slots vs ws name old new (Add a b) k h v = added_grows _ _ _ _ (h a (first a (b ∷ []))).bounds (h b (second a b)).bounds
over_bound id t slots vs ws name old new (Sub a b) k h v = added_grows _ _ _ _ (h a (first a (b ∷ []))).bounds (h b (second a b)).bounds
over_bound id t slots vs ws name old new (Mul a b) k h v =
    multiplied_grows (degree_of id) (modulus_of id) (hamming_weight_of id) _ _ _ _ (h a (first a (b ∷ []))).bounds (h b (second a b)).bounds
over_bound id t slots vs ws name old new (Relin a) k h v = turned_grows (modulus_of id) (degree_of id) (error_of id) _ _ (h a (first a [])).bounds
over_bound id t slots vs ws name old new (Scale c a) k h v = scaled_grows (modulus_of id) c _ _ (h a (first a [])).bounds
over_bound id t slots vs ws name old new (Shift c a) k h v = shifted_grows (modulus_of id) _ _ (h a (first a [])).bounds
over_bound id t slots vs ws name old new (Turn r a) k h v = turned_grows (modulus_of id) (degree_of id) (error_of id) _ _ (h a (first a [])).bounds
over_bound id t slots vs ws name old new (Weigh x a) k h v =
    rw (same_weight id vs ws x k (weighs_there t slots (length vs) old.parts x a v)) (weighed_grows (slice_index (weights_of id vs) x) _ _ (h a (first a [])).bounds)

-- where the operands have the very bounds, so has the gate
pub over_bound_same : (id t slots : ℕ) (vs ws : List (List ℕ)) (name : ℕ → ℕ) (old new : Wires) (g : Gate) → Keeps vs ws → ((a : ℕ) → Contains (operands g) a → slice_index new.bounds (name a) ≡ slice_index old.bounds a)
    → is_gate t slots (length vs) old.parts g ≡ true → bound_of id (weights_of id ws) new.bounds (over name g) ≡ bound_of id (weights_of id vs) old.bounds g
over_bound_same id t slots vs ws name old new (Neg a) k h v = h a (first a [])
over_bound_same id t slots vs ws name old new (Add a b) k h v = rw (h a (first a (b ∷ [])), h b (second a b)) refl
over_bound_same id t slots vs ws name old new (Sub a b) k h v = rw (h a (first a (b ∷ [])), h b (second a b)) refl
over_bound_same id t slots vs ws name old new (Mul a b) k h v = rw (h a (first a (b ∷ [])), h b (second a b)) refl
over_bound_same id t slots vs ws name old new (Relin a) k h v = ap (rows.turned (modulus_of id) (degree_of id) (error_of id)) (h a (first a []))
over_bound_same id t slots vs ws name old new (Scale c a) k h v = ap (rows.scaled_by (modulus_of id) c) (h a (first a []))
over_bound_same id t slots vs ws name old new (Shift c a) k h v = ap (rows.shifted (modulus_of id)) (h a (first a []))
over_bound_same id t slots vs ws name old new (Turn r a) k h v = ap (rows.turned (modulus_of id) (degree_of id) (error_of id)) (h a (first a []))
over_bound_same id t slots vs ws name old new (Weigh x a) k h v = rw (same_weight id vs ws x k (weighs_there t slots (length vs) old.parts x a v), h a (first a [])) refl

pub over_slots : (m t slots : ℕ) (vs ws : List (List ℕ)) (name : ℕ → ℕ) (old new : Wires) (g : Gate) → Keeps vs ws → OperandsStand name old new g → is_gate t slots (length vs) old.parts g ≡ true
    → wire_of m ws new.slots (over name g) ≡ wire_of m vs old.slots g
over_slots m t slots vs ws name old new (Neg a) k h v = ap (map (λ x. (m - x) % m)) (h a (first a [])).slots
over_slots m t slots vs ws name old new (Add a b) k h v = rw ((h a (first a (b ∷ []))).slots, (h b (second a b)).slots) refl
over_slots m t slots vs ws name old new (Sub a b) k h v = rw ((h a (first a (b ∷ []))).slots, (h b (second a b)).slots) refl
over_slots m t slots vs ws name old new (Mul a b) k h v = rw ((h a (first a (b ∷ []))).slots, (h b (second a b)).slots) refl
over_slots m t slots vs ws name old new (Relin a) k h v = (h a (first a [])).slots
over_slots m t slots vs ws name old new (Scale c a) k h v = ap (map (λ x. (c * x) % m)) (h a (first a [])).slots
over_slots m t slots vs ws name old new (Shift c a) k h v = ap (map (λ x. (x + c) % m)) (h a (first a [])).slots
over_slots m t slots vs ws name old new (Turn r a) k h v = ap (turned r) (h a (first a [])).slots
over_slots m t slots vs ws name old new (Weigh x a) k h v = rw (k.each x (weighs_there t slots (length vs) old.parts x a v), (h a (first a [])).slots) refl

-- ---- such a gate may stand
stands_wire : (old new : Wires) (a name : ℕ) → StandsFor old new a name → is_wire new.parts name ≡ true
stands_wire old new a name s = lt-ltb name (length new.parts) s.within

stands_parts : (count : ℕ) (old new : Wires) (a name : ℕ) → StandsFor old new a name → has_parts count old.parts a ≡ true → has_parts count new.parts name ≡ true
stands_parts count old new a name s h = and_true (ltb name (length new.parts)) (eqb (slice_index new.parts name) count) (stands_wire old new a name s)
    (ap (λ k. eqb k count) s.parts ∙ (both_true (ltb a (length old.parts)) (eqb (slice_index old.parts a) count) h).1)

pub over_is_gate : (t slots : ℕ) (vs ws : List (List ℕ)) (name : ℕ → ℕ) (old new : Wires) (g : Gate) → Keeps vs ws → OperandsStand name old new g → is_gate t slots (length vs) old.parts g ≡ true
    → is_gate t slots (length ws) new.parts (over name g) ≡ true
over_is_gate t slots vs ws name old new (Neg a) k h v = stands_wire old new a _ (h a (first a []))
over_is_gate t slots vs ws name old new (Add a b) k h v = and_true _ _ (stands_wire old new a _ (h a (first a (b ∷ [])))) (stands_wire old new b _ (h b (second a b)))
over_is_gate t slots vs ws name old new (Sub a b) k h v = and_true _ _ (stands_wire old new a _ (h a (first a (b ∷ [])))) (stands_wire old new b _ (h b (second a b)))
over_is_gate t slots vs ws name old new (Mul a b) k h v =
    let u = both_true (has_parts 2 old.parts a) (has_parts 2 old.parts b) v in
    and_true _ _ (stands_parts 2 old new a _ (h a (first a (b ∷ []))) u.0) (stands_parts 2 old new b _ (h b (second a b)) u.1)
over_is_gate t slots vs ws name old new (Relin a) k h v = stands_parts 3 old new a _ (h a (first a [])) v
over_is_gate t slots vs ws name old new (Scale c a) k h v = and_true _ _ (both_true (is_between 1 (t - 1) c) (is_wire old.parts a) v).0 (stands_wire old new a _ (h a (first a [])))
over_is_gate t slots vs ws name old new (Shift c a) k h v = and_true _ _ (both_true (is_between 0 (t - 1) c) (is_wire old.parts a) v).0 (stands_wire old new a _ (h a (first a [])))
over_is_gate t slots vs ws name old new (Turn r a) k h v =
    let u = both_true (is_between 1 (slots - 1) r) (has_parts 2 old.parts a) v in
    and_true _ _ u.0 (stands_parts 2 old new a _ (h a (first a [])) u.1)
over_is_gate t slots vs ws name old new (Weigh x a) k h v =
    let l = weighs_there t slots (length vs) old.parts x a v in
    and_true (ltb x (length ws)) _ (lt-ltb x (length ws) (let f = k.few in omega (arith, f, l))) (stands_wire old new a _ (h a (first a [])))
