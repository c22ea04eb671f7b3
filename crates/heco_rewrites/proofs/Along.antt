-- The wires behind many gates, and gates that may stand.
use Rattle.std.proofs.Common.{◌≡◌, ℕ, zero, suc, ◌+◌, ◌-◌, ◌<◌, List, [], ◌∷◌, ◌++◌, length, refl, sym, ◌∙◌, arith, Bool, true, ltb, eqb, subst}
use Rattle.std.specs.Prelude.{Contains, slice_get, slice_index, Some}
use Rattle.std.proofs.lemmas.Bool.{ltb-true}
use Rattle.heco_nums.specs.Presets.{modulus_of}
use Rattle.heco_nums.specs.Runs.{along, all_along}
use Rattle.heco_fields.proofs.Bools.{both_true, and_true}
use Rattle.heco_circuit.specs.declared.gate.Gate.{Gate}
use Rattle.heco_circuit.specs.declared.gate.Gate.TheVariants.{Neg, Add, Sub, Mul, Relin, Scale, Shift, Turn, Weigh}
use Rattle.heco_circuit.specs.Validity.{parts_of, with_gate, is_gate, is_wire, has_parts, is_between}
use Rattle.heco_circuit.specs.Bounds.{with_bound, weights_of}
use Rattle.heco_meaning.specs.Meanings.{with_wire}
use Rattle.heco_rewrites.specs.Wires.{Wires, behind, operands, Even}
use Rattle.heco_rewrites.proofs.Named.{longer, even_more}

-- ---- each of the three lists alone
pub along_parts : (id : ℕ) (vs : List (List ℕ)) (start : Wires) (gates : List Gate) → (along (behind id vs) start gates).parts ≡ along with_gate start.parts gates
along_parts id vs start [] = refl
along_parts id vs start (g ∷ gates) = along_parts id vs (behind id vs start g) gates

pub along_bounds : (id : ℕ) (vs : List (List ℕ)) (start : Wires) (gates : List Gate) → (along (behind id vs) start gates).bounds ≡ along (with_bound id (weights_of id vs)) start.bounds gates
along_bounds id vs start [] = refl
along_bounds id vs start (g ∷ gates) = along_bounds id vs (behind id vs start g) gates

pub along_slots : (id : ℕ) (vs : List (List ℕ)) (start : Wires) (gates : List Gate) → (along (behind id vs) start gates).slots ≡ along (with_wire (modulus_of id) vs) start.slots gates
along_slots id vs start [] = refl
along_slots id vs start (g ∷ gates) = along_slots id vs (behind id vs start g) gates

pub along_even : (id : ℕ) (vs : List (List ℕ)) (start : Wires) (gates : List Gate) → Even start → Even (along (behind id vs) start gates)
along_even id vs start [] e = e
along_even id vs start (g ∷ gates) e = along_even id vs (behind id vs start g) gates (even_more id vs start g e)

pub along_long : (id : ℕ) (vs : List (List ℕ)) (start : Wires) (gates : List Gate) → length (along (behind id vs) start gates).parts ≡ length start.parts + length gates
along_long id vs start [] = omega arith
along_long id vs start (g ∷ gates) =
    let m = longer start.parts (parts_of start.parts g) in
    along_long id vs (behind id vs start g) gates ∙ omega (arith, m)

pub all_push : {S A : Type 0} (test : S → A → Bool) (next : S → A → S) (s : S) (xs : List A) (x : A) → all_along test next s xs ≡ true → test (along next s xs) x ≡ true → all_along test next s (xs ++ x ∷ []) ≡ true
all_push test next s [] x h e = and_true (test s x) true e refl
all_push test next s (y ∷ xs) x h e =
    let u = both_true (test s y) (all_along test next (next s y) xs) h in
    and_true (test s y) (all_along test next (next s y) (xs ++ x ∷ [])) u.0 (all_push test next (next s y) xs x u.1 e)

-- ---- a gate that may stand reads wires that there are
one : (n x a : ℕ) → ltb x n ≡ true → Contains (x ∷ []) a → a < n
one n x a h (zero, l, e) = subst (λ k. k < n) e (ltb-true x n h)
one n x a h (suc i, l, e) = absurd (omega (arith, l))

two : (n x y a : ℕ) → ltb x n ≡ true → ltb y n ≡ true → Contains (x ∷ y ∷ []) a → a < n
two n x y a h g (zero, l, e) = subst (λ k. k < n) e (ltb-true x n h)
two n x y a h g (suc zero, l, e) = subst (λ k. k < n) e (ltb-true y n g)
two n x y a h g (suc (suc i), l, e) = absurd (omega (arith, l))

has_wire : (count : ℕ) (parts : List ℕ) (x : ℕ) → has_parts count parts x ≡ true → ltb x (length parts) ≡ true
has_wire count parts x h = (both_true (is_wire parts x) (eqb (slice_index parts x) count) h).0

pub gate_below : (t slots count : ℕ) (parts : List ℕ) (g : Gate) → is_gate t slots count parts g ≡ true → (a : ℕ) → Contains (operands g) a → a < length parts
gate_below t slots count parts (Neg x) h a c = one (length parts) x a h c
gate_below t slots count parts (Add x y) h a c = let u = both_true (is_wire parts x) (is_wire parts y) h in two (length parts) x y a u.0 u.1 c
gate_below t slots count parts (Sub x y) h a c = let u = both_true (is_wire parts x) (is_wire parts y) h in two (length parts) x y a u.0 u.1 c
gate_below t slots count parts (Mul x y) h a c =
    let u = both_true (has_parts 2 parts x) (has_parts 2 parts y) h in
    two (length parts) x y a (has_wire 2 parts x u.0) (has_wire 2 parts y u.1) c
gate_below t slots count parts (Relin x) h a c = one (length parts) x a (has_wire 3 parts x h) c
gate_below t slots count parts (Scale k x) h a c = one (length parts) x a (both_true (is_between 1 (t - 1) k) (is_wire parts x) h).1 c
gate_below t slots count parts (Shift k x) h a c = one (length parts) x a (both_true (is_between 0 (t - 1) k) (is_wire parts x) h).1 c
gate_below t slots count parts (Turn r x) h a c = one (length parts) x a (has_wire 2 parts x (both_true (is_between 1 (slots - 1) r) (has_parts 2 parts x) h).1) c
gate_below t slots count parts (Weigh v x) h a c = one (length parts) x a (both_true (ltb v count) (is_wire parts x) h).1 c

-- operands come earlier
pub all_earlier : (t slots count : ℕ) (parts : List ℕ) (gates : List Gate) → all_along (is_gate t slots count) with_gate parts gates ≡ true → (k : ℕ) (g : Gate) → slice_get gates k ≡ Some g → (a : ℕ) → Contains (operands g) a
    → a < length parts + k
all_earlier t slots count parts [] h k g e a c = absurd cc
all_earlier t slots count parts (x ∷ gates) h zero g e a c =
    let u = both_true (is_gate t slots count parts x) (all_along (is_gate t slots count) with_gate (with_gate parts x) gates) h in
    let q : x ≡ g = (let f : Some x ≡ Some g = e in cc) in
    let l = gate_below t slots count parts x u.0 a (subst (λ y. Contains (operands y) a) (sym q) c) in omega (arith, l)
all_earlier t slots count parts (x ∷ gates) h (suc k) g e a c =
    let u = both_true (is_gate t slots count parts x) (all_along (is_gate t slots count) with_gate (with_gate parts x) gates) h in
    let l = all_earlier t slots count (with_gate parts x) gates u.1 k g e a c in
    let m = longer parts (parts_of parts x) in omega (arith, l, m)
