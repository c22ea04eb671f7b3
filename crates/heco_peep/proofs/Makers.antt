-- What the gates that make wires tell of these.
use Rattle.std.proofs.Common.{◌≡◌, ℕ, zero, suc, ◌+◌, ◌-◌, ◌*◌, ◌%◌, ◌<◌, ◌≤◌, List, [], ◌∷◌, length, map, refl, ap, sym, ◌∙◌, arith, Bool, true, false, cond, ltb, subst}
use Rattle.std.specs.Prelude.{Contains, Option, Some, None, slice_get}
use Rattle.std.proofs.lemmas.Bool.{ltb-false}
use Rattle.std.proofs.lemmas.List.{get_or_append_left, get_or_push}
use Rattle.heco_nums.specs.Presets.{modulus_of, slots_of}
use Rattle.heco_nums.specs.Runs.{along, all_along}
use Rattle.heco_fields.proofs.Bools.{both_true}
use Rattle.heco_circuit.specs.declared.gate.Gate.{Gate}
use Rattle.heco_circuit.specs.declared.gate.Gate.TheVariants.{Neg, Add, Sub, Mul, Relin, Scale, Shift, Turn, Weigh}
use Rattle.heco_circuit.specs.Validity.{parts_of, with_gate, is_gate, is_wire, has_parts, is_between}
use Rattle.heco_meaning.specs.Meanings.{wire_at, wire_of, products, turned}
use Rattle.heco_rewrites.specs.Wires.{Wires, behind, operands, maker, Even}
use Rattle.heco_rewrites.proofs.OtherNames.{first, second}
use Rattle.heco_rewrites.proofs.Named.{longer, even_more}
use Rattle.heco_rewrites.proofs.Along.{gate_below}
use Rattle.heco_peep.specs.Rules.{in_range}
use Rattle.heco_peep.specs.Looks.{told, told_maker}

-- the slots of a gate depend on its operands alone
pub same_slots : (t : ℕ) (vs us ws : List (List ℕ)) (g : Gate) → ((a : ℕ) → Contains (operands g) a → wire_at us a ≡ wire_at ws a) → wire_of t vs us g ≡ wire_of t vs ws g
same_slots t vs us ws (Neg a) h = ap (map (λ x. (t - x) % t)) (h a (first a []))
same_slots t vs us ws (Add a b) h = rw (h a (first a (b ∷ [])), h b (second a b)) refl
same_slots t vs us ws (Sub a b) h = rw (h a (first a (b ∷ [])), h b (second a b)) refl
same_slots t vs us ws (Mul a b) h = rw (h a (first a (b ∷ [])), h b (second a b)) refl
same_slots t vs us ws (Relin a) h = h a (first a [])
same_slots t vs us ws (Scale c a) h = ap (map (λ x. (c * x) % t)) (h a (first a []))
same_slots t vs us ws (Shift c a) h = ap (map (λ x. (x + c) % t)) (h a (first a []))
same_slots t vs us ws (Turn r a) h = ap (turned r) (h a (first a []))
same_slots t vs us ws (Weigh v a) h = ap (products t (wire_at vs v)) (h a (first a []))

-- later gates leave a wire as it is
pub kept_along : (id : ℕ) (vs : List (List ℕ)) (start : Wires) (gates : List Gate) (a : ℕ) → Even start → a < length start.parts → wire_at (along (behind id vs) start gates).slots a ≡ wire_at start.slots a
kept_along id vs start [] a e l = refl
kept_along id vs start (g ∷ gates) a e l =
    let m = longer start.parts (parts_of start.parts g) in
    kept_along id vs (behind id vs start g) gates a (even_more id vs start g e) (omega (arith, l, m))
    ∙ get_or_append_left start.slots (wire_of (modulus_of id) vs start.slots g ∷ []) [] a (rw (e.slots) l)

-- each gate's wire has its slots, over all wires
pub made : (id : ℕ) (vs : List (List ℕ)) (start : Wires) (gates : List Gate) → Even start → all_along (is_gate (modulus_of id) (slots_of id) (length vs)) with_gate start.parts gates ≡ true
    → (k : ℕ) (g : Gate) → slice_get gates k ≡ Some g → wire_at (along (behind id vs) start gates).slots (length start.parts + k) ≡ wire_of (modulus_of id) vs (along (behind id vs) start gates).slots g
made id vs start [] e v k g q = absurd cc
made id vs start (x ∷ gates) e v zero g q =
    let t : ℕ = modulus_of id in
    let test = is_gate t (slots_of id) (length vs) in
    let u = both_true (test start.parts x) (all_along test with_gate (with_gate start.parts x) gates) v in
    let s : x ≡ g = (let r : Some x ≡ Some g = q in cc) in
    let m = longer start.parts (parts_of start.parts x) in
    let z : length start.parts + 0 ≡ length start.parts = omega arith in
    let own : wire_at (along (behind id vs) (behind id vs start x) gates).slots (length start.parts) ≡ wire_of t vs start.slots x =
    kept_along id vs (behind id vs start x) gates (length start.parts) (even_more id vs start x e) (omega (arith, m))
    ∙ get_or_push start.slots (wire_of t vs start.slots x) [] (length start.parts) e.slots in
    let same : wire_of t vs (along (behind id vs) (behind id vs start x) gates).slots x ≡ wire_of t vs start.slots x =
    same_slots t vs (along (behind id vs) (behind id vs start x) gates).slots start.slots x
    (λ a c. kept_along id vs start (x ∷ gates) a e (gate_below t (slots_of id) (length vs) start.parts x u.0 a c)) in
    rw z (own ∙ sym same ∙ ap (λ y. wire_of t vs (along (behind id vs) (behind id vs start x) gates).slots y) s)
made id vs start (x ∷ gates) e v (suc k) g q =
    let test = is_gate (modulus_of id) (slots_of id) (length vs) in
    let u = both_true (test start.parts x) (all_along test with_gate (with_gate start.parts x) gates) v in
    let m = longer start.parts (parts_of start.parts x) in
    let z : length start.parts + suc k ≡ length (with_gate start.parts x) + k = omega (arith, m) in
    ap (wire_at (along (behind id vs) (behind id vs start x) gates).slots) z ∙ made id vs (behind id vs start x) gates (even_more id vs start x e) u.1 k g q

-- ---- constants and amounts of gates that may stand
pub gate_ranged : (t slots count : ℕ) (parts : List ℕ) (g : Gate) → is_gate t slots count parts g ≡ true → in_range t slots g ≡ true
gate_ranged t slots count parts (Neg a) h = refl
gate_ranged t slots count parts (Add a b) h = refl
gate_ranged t slots count parts (Sub a b) h = refl
gate_ranged t slots count parts (Mul a b) h = refl
gate_ranged t slots count parts (Relin a) h = refl
gate_ranged t slots count parts (Scale c a) h = (both_true (is_between 1 (t - 1) c) (is_wire parts a) h).0
gate_ranged t slots count parts (Shift c a) h = (both_true (is_between 0 (t - 1) c) (is_wire parts a) h).0
gate_ranged t slots count parts (Turn r a) h = (both_true (is_between 1 (slots - 1) r) (has_parts 2 parts a) h).0
gate_ranged t slots count parts (Weigh v a) h = refl

pub all_ranged : (t slots count : ℕ) (parts : List ℕ) (gates : List Gate) → all_along (is_gate t slots count) with_gate parts gates ≡ true → (k : ℕ) (g : Gate) → slice_get gates k ≡ Some g → in_range t slots g ≡ true
all_ranged t slots count parts [] v k g q = absurd cc
all_ranged t slots count parts (x ∷ gates) v zero g q =
    let u = both_true (is_gate t slots count parts x) (all_along (is_gate t slots count) with_gate (with_gate parts x) gates) v in
    let s : x ≡ g = (let r : Some x ≡ Some g = q in cc) in
    subst (λ y. in_range t slots y ≡ true) s (gate_ranged t slots count parts x u.0)
all_ranged t slots count parts (x ∷ gates) v (suc k) g q =
    let u = both_true (is_gate t slots count parts x) (all_along (is_gate t slots count) with_gate (with_gate parts x) gates) v in
    all_ranged t slots count (with_gate parts x) gates u.1 k g q

-- ---- the maker of a wire stands where the wire is
pub record IsMaker (count : ℕ) (gates : List Gate) (a : ℕ) (g : Gate) : Type 0 where
  pub place : ℕ
  pub wire : a ≡ count + place
  pub gate : slice_get gates place ≡ Some g

pub maker_is : (count : ℕ) (gates : List Gate) (a : ℕ) (g : Gate) → maker count gates a ≡ Some g → IsMaker count gates a g
maker_is count gates a g e = by_test (ltb a count) refl e
  where
    by_test : (b : Bool) → ltb a count ≡ b → cond b None (slice_get gates (a - count)) ≡ Some g → IsMaker count gates a g
    by_test true t e = absurd cc
    by_test false t e = let ge : count ≤ a = ltb-false a count t in record { place = a - count; wire = omega (arith, ge); gate = e }

told_is : (o : Option Gate) (g : Gate) → told o ≡ Some g → o ≡ Some g
told_is None g e = absurd cc
told_is (Some (Neg a)) g e = e
told_is (Some (Add a b)) g e = e
told_is (Some (Sub a b)) g e = e
told_is (Some (Mul a b)) g e = e
told_is (Some (Relin a)) g e = e
told_is (Some (Scale c a)) g e = e
told_is (Some (Shift c a)) g e = e
told_is (Some (Turn r a)) g e = e
told_is (Some (Weigh v a)) g e = absurd cc

-- the operand, and its maker
pub record IsTold (count : ℕ) (gates : List Gate) (o : Option ℕ) (g : Gate) : Type 0 where
  pub operand : ℕ
  pub is : o ≡ Some operand
  pub maker : IsMaker count gates operand g

pub told_maker_is : (count : ℕ) (gates : List Gate) (o : Option ℕ) (g : Gate) → told_maker count gates o ≡ Some g → IsTold count gates o g
told_maker_is count gates None g e = absurd cc
told_maker_is count gates (Some a) g e = record { operand = a; is = refl; maker = maker_is count gates a g (told_is (maker count gates a) g e) }

pub got_contained : (xs : List ℕ) (i a : ℕ) → slice_get xs i ≡ Some a → Contains xs a
got_contained [] i a e = absurd cc
got_contained (x ∷ xs) zero a e = (0, omega arith, (let r : Some x ≡ Some a = e in cc))
got_contained (x ∷ xs) (suc i) a e = let r = got_contained xs i a e in (suc r.0, (let l = r.1 in omega (arith, l)), r.2)
