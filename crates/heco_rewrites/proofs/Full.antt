-- Each gate gives N slots below t.
use Rattle.std.proofs.Common.{◌≡◌, ◌∙◌, ℕ, zero, suc, ◌+◌, ◌-◌, ◌*◌, ◌%◌, ◌<◌, ◌≤◌, List, [], ◌∷◌, length, map, take, drop, refl, sym, ap, inl, inr, arith, mod-lt, true, ltb, leb, eqb, subst}
use Rattle.std.specs.Prelude.{All, Contains}
use Rattle.std.specs.List.{list_all}
use Rattle.std.proofs.lemmas.Bool.{cases_lt, ltb-true, leb-true, eqb-true}
use Rattle.std.proofs.lemmas.List.{length-map, length-append, length-drop, length-take-le, get_or_append_left, get_or_push}
use Rattle.std.proofs.lemmas.List.Elements.{All-append, All-drop, All-take}
use Rattle.heco_nums.specs.Presets.{modulus_of, slots_of}
use Rattle.heco_nums.specs.Runs.{all_along}
use Rattle.heco_fields.proofs.Bools.{both_true}
use Rattle.heco_circuit.specs.declared.gate.Gate.{Gate}
use Rattle.heco_circuit.specs.declared.gate.Gate.TheVariants.{Neg, Add, Sub, Mul, Relin, Scale, Shift, Turn, Weigh}
use Rattle.heco_circuit.specs.Validity.{parts_of, with_gate, is_gate, is_wire, has_parts, is_between}
use Rattle.heco_circuit.specs.Plans.{is_vector}
use Rattle.heco_meaning.specs.Meanings.{wire_at, wire_of, sums, differences, products, turned}
use Rattle.heco_rewrites.specs.Wires.{Wires, behind, operands, Even}
use Rattle.heco_rewrites.specs.Full.{IsFull, AreFull, WiresAreFull}
use Rattle.heco_rewrites.proofs.OtherNames.{first, second}
use Rattle.heco_rewrites.proofs.Named.{longer, even_more}
use Rattle.heco_rewrites.proofs.Along.{gate_below}

-- ---- remainders, one for each
below_map : (t : ℕ) (f : ℕ → ℕ) (xs : List ℕ) → ((x : ℕ) → f x < t) → All (λ y. y < t) (map f xs)
below_map t f [] h k d l = absurd (omega (arith, l))
below_map t f (x ∷ xs) h zero d l = h x
below_map t f (x ∷ xs) h (suc k) d l = below_map t f xs h k d (omega (arith, l))

mapped : (id : ℕ) (f : ℕ → ℕ) (xs : List ℕ) → ((x : ℕ) → f x < modulus_of id) → IsFull id xs → IsFull id (map f xs)
mapped id f xs h o = record { long = length-map xs f ∙ o.long; below = below_map (modulus_of id) f xs h }

-- two lists place by place
pub length-sums : (t : ℕ) (xs ys : List ℕ) → length xs ≡ length ys → length (sums t xs ys) ≡ length xs
length-sums t [] ys e = refl
length-sums t (x ∷ xs) [] e = absurd (omega (arith, e))
length-sums t (x ∷ xs) (y ∷ ys) e = ap suc (length-sums t xs ys (omega (arith, e)))

pub length-differences : (t : ℕ) (xs ys : List ℕ) → length xs ≡ length ys → length (differences t xs ys) ≡ length xs
length-differences t [] ys e = refl
length-differences t (x ∷ xs) [] e = absurd (omega (arith, e))
length-differences t (x ∷ xs) (y ∷ ys) e = ap suc (length-differences t xs ys (omega (arith, e)))

pub length-products : (t : ℕ) (xs ys : List ℕ) → length xs ≡ length ys → length (products t xs ys) ≡ length xs
length-products t [] ys e = refl
length-products t (x ∷ xs) [] e = absurd (omega (arith, e))
length-products t (x ∷ xs) (y ∷ ys) e = ap suc (length-products t xs ys (omega (arith, e)))

below_sums : (t : ℕ) (xs ys : List ℕ) → 0 < t → All (λ x. x < t) (sums t xs ys)
below_sums t [] ys h k d l = absurd (omega (arith, l))
below_sums t (x ∷ xs) [] h k d l = absurd (omega (arith, l))
below_sums t (x ∷ xs) (y ∷ ys) h zero d l = mod-lt (x + y) h
below_sums t (x ∷ xs) (y ∷ ys) h (suc k) d l = below_sums t xs ys h k d (omega (arith, l))

below_differences : (t : ℕ) (xs ys : List ℕ) → 0 < t → All (λ x. x < t) (differences t xs ys)
below_differences t [] ys h k d l = absurd (omega (arith, l))
below_differences t (x ∷ xs) [] h k d l = absurd (omega (arith, l))
below_differences t (x ∷ xs) (y ∷ ys) h zero d l = mod-lt (x + (t - y % t)) h
below_differences t (x ∷ xs) (y ∷ ys) h (suc k) d l = below_differences t xs ys h k d (omega (arith, l))

below_products : (t : ℕ) (xs ys : List ℕ) → 0 < t → All (λ x. x < t) (products t xs ys)
below_products t [] ys h k d l = absurd (omega (arith, l))
below_products t (x ∷ xs) [] h k d l = absurd (omega (arith, l))
below_products t (x ∷ xs) (y ∷ ys) h zero d l = mod-lt (x * y) h
below_products t (x ∷ xs) (y ∷ ys) h (suc k) d l = below_products t xs ys h k d (omega (arith, l))

turned_full : (id r : ℕ) (xs : List ℕ) → r ≤ slots_of id → IsFull id xs → IsFull id (turned r xs)
turned_full id r xs h o = record {
  long = let l = o.long in length-append (drop r xs) (take r xs) ∙ omega (arith, l, h, length-drop r xs, length-take-le r xs (rw l h));
  below = All-append (λ x. x < modulus_of id) (drop r xs) (take r xs) (All-drop (λ x. x < modulus_of id) r xs o.below) (All-take (λ x. x < modulus_of id) r xs o.below);
}

-- ---- vectors
numbers_below : (t : ℕ) (xs : List ℕ) → 0 < t → list_all (is_between 0 (t - 1)) xs ≡ true → All (λ x. x < t) xs
numbers_below t [] h e k d l = absurd (omega (arith, l))
numbers_below t (x ∷ xs) h e zero d l =
    let u = both_true (is_between 0 (t - 1) x) (list_all (is_between 0 (t - 1)) xs) e in
    let m = leb-true x (t - 1) (both_true (leb 0 x) (leb x (t - 1)) u.0).1 in omega (arith, m, h)
numbers_below t (x ∷ xs) h e (suc k) d l = numbers_below t xs h (both_true (is_between 0 (t - 1) x) (list_all (is_between 0 (t - 1)) xs) e).1 k d (omega (arith, l))

pub vector_full : (id : ℕ) (vs : List (List ℕ)) → 0 < modulus_of id → list_all (is_vector (modulus_of id) (slots_of id)) vs ≡ true → (v : ℕ) → v < length vs → IsFull id (wire_at vs v)
vector_full id [] h e v l = absurd (omega (arith, l))
vector_full id (x ∷ vs) h e zero l =
    let u = both_true (is_vector (modulus_of id) (slots_of id) x) (list_all (is_vector (modulus_of id) (slots_of id)) vs) e in
    let w = both_true (eqb (length x) (slots_of id)) (list_all (is_between 0 (modulus_of id - 1)) x) u.0 in
    record { long = eqb-true (length x) (slots_of id) w.0; below = numbers_below (modulus_of id) x h w.1 }
vector_full id (x ∷ vs) h e (suc v) l =
    vector_full id vs h (both_true (is_vector (modulus_of id) (slots_of id) x) (list_all (is_vector (modulus_of id) (slots_of id)) vs) e).1 v (omega (arith, l))

-- ---- a gate over full wires
gate_full : (id : ℕ) (vs : List (List ℕ)) (w : Wires) (g : Gate) → 0 < modulus_of id → list_all (is_vector (modulus_of id) (slots_of id)) vs ≡ true
    → is_gate (modulus_of id) (slots_of id) (length vs) w.parts g ≡ true → ((a : ℕ) → Contains (operands g) a → IsFull id (wire_at w.slots a)) → IsFull id (wire_of (modulus_of id) vs w.slots g)
gate_full id vs w (Neg a) pos e v h = let t : ℕ = modulus_of id in mapped id (λ x. (t - x) % t) (wire_at w.slots a) (λ x. mod-lt (t - x) pos) (h a (first a []))
gate_full id vs w (Add a b) pos e v h = let x = h a (first a (b ∷ [])) in let y = h b (second a b) in
    record { long = length-sums (modulus_of id) _ _ (x.long ∙ sym y.long) ∙ x.long; below = below_sums (modulus_of id) _ _ pos }
gate_full id vs w (Sub a b) pos e v h = let x = h a (first a (b ∷ [])) in let y = h b (second a b) in
    record { long = length-differences (modulus_of id) _ _ (x.long ∙ sym y.long) ∙ x.long; below = below_differences (modulus_of id) _ _ pos }
gate_full id vs w (Mul a b) pos e v h = let x = h a (first a (b ∷ [])) in let y = h b (second a b) in
    record { long = length-products (modulus_of id) _ _ (x.long ∙ sym y.long) ∙ x.long; below = below_products (modulus_of id) _ _ pos }
gate_full id vs w (Relin a) pos e v h = h a (first a [])
gate_full id vs w (Scale c a) pos e v h = let t : ℕ = modulus_of id in mapped id (λ x. (c * x) % t) (wire_at w.slots a) (λ x. mod-lt (c * x) pos) (h a (first a []))
gate_full id vs w (Shift c a) pos e v h = let t : ℕ = modulus_of id in mapped id (λ x. (x + c) % t) (wire_at w.slots a) (λ x. mod-lt (x + c) pos) (h a (first a []))
gate_full id vs w (Turn r a) pos e v h =
    let u = both_true (is_between 1 (slots_of id - 1) r) (has_parts 2 w.parts a) v in
    let b = both_true (leb 1 r) (leb r (slots_of id - 1)) u.0 in
    let l = leb-true r (slots_of id - 1) b.1 in
    turned_full id r (wire_at w.slots a) (omega (arith, l)) (h a (first a []))
gate_full id vs w (Weigh k a) pos e v h =
    let u = both_true (ltb k (length vs)) (is_wire w.parts a) v in
    let x = vector_full id vs pos e k (ltb-true k (length vs) u.0) in let y = h a (first a []) in
    record { long = length-products (modulus_of id) _ _ (x.long ∙ sym y.long) ∙ x.long; below = below_products (modulus_of id) _ _ pos }

pub full_more : (id : ℕ) (vs : List (List ℕ)) (w : Wires) (g : Gate) → Even w → AreFull id w → IsFull id (wire_of (modulus_of id) vs w.slots g) → AreFull id (behind id vs w g)
full_more id vs w g e f n a l =
    let x : List ℕ = wire_of (modulus_of id) vs w.slots g in
    let more = longer w.parts (parts_of w.parts g) in
    elim (cases_lt a (length w.parts)) [
      | inl b ↦ (let q = get_or_append_left w.slots (x ∷ []) [] a (rw (e.slots) b) in subst (IsFull id) (sym q) (f a b))
      | inr ge ↦ (let q = get_or_push w.slots x [] a (let s = e.slots in omega (arith, s, more, l, ge)) in subst (IsFull id) (sym q) n)
    ]

pub wires_full : WiresAreFull
wires_full id vs start [] pos e v even f = f
wires_full id vs start (g ∷ gates) pos e v even f =
    let test = is_gate (modulus_of id) (slots_of id) (length vs) in
    let u = both_true (test start.parts g) (all_along test with_gate (with_gate start.parts g) gates) v in
    let one = gate_full id vs start g pos e u.0 (λ a c. f a (gate_below (modulus_of id) (slots_of id) (length vs) start.parts g u.0 a c)) in
    wires_full id vs (behind id vs start g) gates pos e u.1 (even_more id vs start g even) (full_more id vs start g even f one)
