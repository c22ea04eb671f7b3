-- What is read of plain vectors is what was spelled, for exactly those that may stand in a file of the version.
use Rattle.std.proofs.Common.{◌≡◌, ℕ, ◌-◌, ◌^◌, ◌<◌, ◌≤◌, Bool, true, false, cond, ◌&&◌, leb, eqb, List, [], ◌∷◌, ◌++◌, length, refl, ap, subst, arith}
use Rattle.std.specs.Prelude.{IsTrue}
use Rattle.std.specs.List.{flat_map, list_all, All}
use Rattle.std.specs.Int.{w32, to_be_bytes}
use Rattle.std.proofs.lemmas.Bool.{eqb-true, eq-eqb, leb-true, le-leb}
use Rattle.std.proofs.lemmas.List.Elements.{All-nil, All-cons, All-head, All-tail}
use Rattle.heco_nums.specs.Presets.{modulus_of, slots_of}
use Rattle.heco_fields.specs.Formats.{Value, within, many}
use Rattle.heco_nums.specs.Runs.{stays}
use Rattle.heco_fields.proofs.Bools.{both_true, and_true}
use Rattle.heco_fields.proofs.FieldLaws.{number_law, wide32}
use Rattle.heco_fields.proofs.Laws.{Law, value_law, then_law, same_law}
use Rattle.heco_fields.proofs.ManyLaws.{each_law}
use Rattle.heco_circuit.specs.Validity.{is_between}
use Rattle.heco_circuit.specs.Plans.{is_vector}
use Rattle.heco_circuit.specs.VectorFormat.{entry, vector, some_vectors, vectors, vector_text, vectors_text}

abbrev pub IsEntry : ℕ → ℕ → Type 0
IsEntry t n = (n < 2 ^ 32) × IsTrue (is_between 0 (t - 1) n)

abbrev pub IsVector : ℕ → ℕ → List ℕ → Type 0
IsVector t slots v = (length v ≡ slots) × All (IsEntry t) v

entry_law : (t s : ℕ) → Law (entry t s) (to_be_bytes w32) (IsEntry t)
entry_law t s = number_law w32 (2 ^ 32) wide32 (is_between 0 (t - 1))

vector_law : (t slots s : ℕ) → Law (vector t slots s) vector_text (IsVector t slots)
unfolding vector
vector_law t slots s = each_law (entry t) (to_be_bytes w32) (IsEntry t) (entry_law t) slots 0

abbrev pub IsVectorCount : ℕ → Type 0
IsVectorCount n = (n < 2 ^ 32) × IsTrue (is_between 1 256 n)

abbrev pub AreSome : ℕ → List (List ℕ) → Type 0
AreSome id vs = IsVectorCount (length vs) × All (IsVector (modulus_of id) (slots_of id)) vs

counted_text : List (List ℕ) → List ℕ
counted_text vs = to_be_bytes w32 (length vs) ++ flat_map vector_text vs

counted_is : (vs : List (List ℕ)) → IsVectorCount (length vs) → counted_text vs ≡ vectors_text vs
unfolding counted_text
counted_is [] h = absurd (omega (arith, leb-true 1 0 (both_true (leb 1 0) (leb 0 256) h.1).0))
counted_is (v ∷ vs) h = refl

some_law : (id : ℕ) → Law (some_vectors id) vectors_text (AreSome id)
unfolding some_vectors counted_text
some_law id =
    same_law (some_vectors id) counted_text vectors_text (λ vs. IsVectorCount (length vs) × ((length vs ≡ length vs) × All (IsVector (modulus_of id) (slots_of id)) vs)) (AreSome id)
    (then_law (within w32 1 256) (λ n. many (vector (modulus_of id) (slots_of id)) stays n 0) (to_be_bytes w32) (flat_map vector_text) IsVectorCount (λ n vs. (length vs ≡ n) × All (IsVector (modulus_of id) (slots_of id)) vs) length
    (number_law w32 (2 ^ 32) wide32 (is_between 1 256)) (λ n _. each_law (vector (modulus_of id) (slots_of id)) vector_text (IsVector (modulus_of id) (slots_of id)) (vector_law (modulus_of id) (slots_of id)) n 0) (λ n vs h. h.0))
    (λ vs h. counted_is vs h.0) (λ vs h. (h.0, h.1.1)) (λ vs h. (h.0, (refl, h.1)))

-- where a file has vectors, and where it has none
abbrev pub Vectors : Bool → ℕ → List (List ℕ) → Type 0
Vectors true id vs = AreSome id vs
Vectors false id vs = [] ≡ vs

abbrev pub AreVectors : ℕ → ℕ → List (List ℕ) → Type 0
AreVectors version id vs = Vectors (eqb version 3) id vs

none_text : (vs : List (List ℕ)) → [] ≡ vs → ◌≡◌ {A = List ℕ} [] (vectors_text vs)
none_text vs e = ap vectors_text e

by_version : (b : Bool) (id : ℕ) → Law (cond b (some_vectors id) (Value [])) vectors_text (Vectors b id)
by_version true id = some_law id
by_version false id = same_law (Value []) (λ _. []) vectors_text (λ vs. [] ≡ vs) (λ vs. [] ≡ vs) (value_law []) (λ vs e. none_text vs e) (λ vs e. e) (λ vs e. e)

pub vectors_law : (version id : ℕ) → Law (vectors version id) vectors_text (AreVectors version id)
unfolding vectors
vectors_law version id = by_version (eqb version 3) id

-- ---- the same as a test

entry_from : (t : ℕ) → t ≤ 65537 → (n : ℕ) → IsTrue (is_between 0 (t - 1) n) → IsEntry t n
entry_from t small n h = let le = leb-true n (t - 1) (both_true (leb 0 n) (leb n (t - 1)) h).1 in (omega arith, h)

entries_pass : (t : ℕ) (v : List ℕ) → All (IsEntry t) v → IsTrue (list_all (is_between 0 (t - 1)) v)
entries_pass t [] h = refl
entries_pass t (n ∷ v) h = and_true _ _ (All-head (IsEntry t) n v h).1 (entries_pass t v (All-tail (IsEntry t) n v h))

entries_from : (t : ℕ) → t ≤ 65537 → (v : List ℕ) → IsTrue (list_all (is_between 0 (t - 1)) v) → All (IsEntry t) v
entries_from t small [] h = All-nil (IsEntry t)
entries_from t small (n ∷ v) h =
    let b = both_true (is_between 0 (t - 1) n) (list_all (is_between 0 (t - 1)) v) h in
    All-cons (IsEntry t) n v (entry_from t small n b.0) (entries_from t small v b.1)

vectors_pass : (t slots : ℕ) (vs : List (List ℕ)) → All (IsVector t slots) vs → IsTrue (list_all (is_vector t slots) vs)
vectors_pass t slots [] h = refl
vectors_pass t slots (v ∷ vs) h =
    let f = All-head (IsVector t slots) v vs h in
    and_true _ _ (and_true (eqb (length v) slots) _ (eq-eqb (length v) slots f.0) (entries_pass t v f.1)) (vectors_pass t slots vs (All-tail (IsVector t slots) v vs h))

vectors_from : (t slots : ℕ) → t ≤ 65537 → (vs : List (List ℕ)) → IsTrue (list_all (is_vector t slots) vs) → All (IsVector t slots) vs
vectors_from t slots small [] h = All-nil (IsVector t slots)
vectors_from t slots small (v ∷ vs) h =
    let b = both_true (is_vector t slots v) (list_all (is_vector t slots) vs) h in
    let c = both_true (eqb (length v) slots) (list_all (is_between 0 (t - 1)) v) b.0 in
    All-cons (IsVector t slots) v vs (eqb-true (length v) slots c.0, entries_from t small v c.1) (vectors_from t slots small vs b.1)

-- at most 256, and each passes
abbrev pub Pass : ℕ → List (List ℕ) → Type 0
Pass id vs = IsTrue (leb (length vs) 256 && list_all (is_vector (modulus_of id) (slots_of id)) vs)

pub vectors_pass_all : (version id : ℕ) (vs : List (List ℕ)) → AreVectors version id vs → Pass id vs
vectors_pass_all version id vs h = by (eqb version 3) vs h
  where
    by : (b : Bool) (vs : List (List ℕ)) → Vectors b id vs → Pass id vs
    by true vs h = and_true _ _ (both_true (leb 1 (length vs)) (leb (length vs) 256) h.0.1).1 (vectors_pass (modulus_of id) (slots_of id) vs h.1)
    by false vs h = subst (Pass id) h refl

pub none_there : (version id : ℕ) → eqb version 3 ≡ false → AreVectors version id []
none_there version id e = rw e refl

pub some_there : (id : ℕ) → modulus_of id ≤ 65537 → (v : List ℕ) (vs : List (List ℕ)) → Pass id (v ∷ vs) → AreVectors 3 id (v ∷ vs)
some_there id small v vs h =
    let b = both_true (leb (length (v ∷ vs)) 256) (list_all (is_vector (modulus_of id) (slots_of id)) (v ∷ vs)) h in
    let le = leb-true (length (v ∷ vs)) 256 b.0 in
    let one : 1 ≤ length (v ∷ vs) = omega arith in
    ((omega arith, and_true (leb 1 (length (v ∷ vs))) (leb (length (v ∷ vs)) 256) (le-leb 1 (length (v ∷ vs)) one) b.0), vectors_from (modulus_of id) (slots_of id) small (v ∷ vs) b.1)
