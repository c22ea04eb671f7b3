-- What is read of a gate is what was spelled, for exactly the gates that may stand there.
use Rattle.std.proofs.Common.{◌≡◌, ℕ, ◌-◌, ◌^◌, ◌<◌, ◌≤◌, Bool, true, false, cond, ◌&&◌, ◌||◌, eqb, leb, ltb, List, [], ◌∷◌, ◌++◌, length, refl, sym, ap, subst, arith, inl, inr, ◌⊎◌}
use Rattle.std.specs.Prelude.{IsTrue}
use Rattle.std.specs.List.{list_any, list_all}
use Rattle.std.specs.Int.{w8, w16, w32, to_be_bytes}
use Rattle.std.proofs.lemmas.List.{append-nil}
use Rattle.std.proofs.lemmas.Bool.{eqb-true, le-leb, ltb-true, or_left, or_right}
use Rattle.heco_fields.specs.Formats.{Value, number, within, ◌>>=◌ as ◌then◌}
use Rattle.heco_fields.proofs.Laws.{Law, value_law, then_law, same_law}
use Rattle.heco_fields.proofs.FieldLaws.{number_law, wide8, wide16, wide32}
use Rattle.heco_fields.proofs.Bools.{both_true, and_true}
use Rattle.heco_circuit.specs.declared.gate.Gate.{Gate}
use Rattle.heco_circuit.specs.declared.gate.Gate.TheVariants.{Neg, Add, Sub, Mul, Relin, Scale, Shift, Turn, Weigh}
use Rattle.heco_circuit.specs.Validity.{is_wire, has_parts, is_between, is_gate}
use Rattle.heco_circuit.specs.Versions.{is_sub, version_of}
use Rattle.heco_circuit.specs.GateFormat.{is_tag, wire, wire_with, neg, add, sub, mul, relin, scale, shift, turn, weigh, operands, gate, operands_text, tag_of, gate_text}

-- the numbers of a gate fit their fields
abbrev pub IsNarrow : Gate → Type 0
IsNarrow (Neg a) = a < 2 ^ 32
IsNarrow (Add a b) = (a < 2 ^ 32) × (b < 2 ^ 32)
IsNarrow (Sub a b) = (a < 2 ^ 32) × (b < 2 ^ 32)
IsNarrow (Mul a b) = (a < 2 ^ 32) × (b < 2 ^ 32)
IsNarrow (Relin a) = a < 2 ^ 32
IsNarrow (Scale c a) = (c < 2 ^ 32) × (a < 2 ^ 32)
IsNarrow (Shift c a) = (c < 2 ^ 32) × (a < 2 ^ 32)
IsNarrow (Turn r a) = (r < 2 ^ 16) × (a < 2 ^ 32)
IsNarrow (Weigh v a) = (v < 2 ^ 32) × (a < 2 ^ 32)

-- the vector that a Weigh names is one of so many
abbrev pub names_vector : ℕ → Gate → Bool
names_vector vectors (Weigh v a) = ltb v vectors
names_vector vectors g = true

-- a gate with this tag that may stand there
abbrev pub Stands : ℕ → ℕ → ℕ → List ℕ → ℕ → Gate → Type 0
Stands t slots vectors parts tag g = (tag_of g ≡ tag) × IsTrue (is_gate t slots vectors parts g) × IsNarrow g

-- the first number behind the tag, and the second
abbrev first : Gate → ℕ
first (Neg a) = a
first (Add a b) = a
first (Sub a b) = a
first (Mul a b) = a
first (Relin a) = a
first (Scale c a) = c
first (Shift c a) = c
first (Turn r a) = r
first (Weigh v a) = v

abbrev second : Gate → ℕ
second (Add a b) = b
second (Sub a b) = b
second (Mul a b) = b
second (Scale c a) = a
second (Shift c a) = a
second (Turn r a) = a
second (Weigh v a) = a
second g = 0

wire_law : (parts : List ℕ) → Law (wire parts) (to_be_bytes w32) (λ a. (a < 2 ^ 32) × IsTrue (is_wire parts a))
wire_law parts = number_law w32 (2 ^ 32) wide32 (is_wire parts)

wire_of_law : (count : ℕ) (parts : List ℕ) → Law (wire_with count parts) (to_be_bytes w32) (λ a. (a < 2 ^ 32) × IsTrue (has_parts count parts a))
wire_of_law count parts = number_law w32 (2 ^ 32) wide32 (has_parts count parts)

constant_law : (low high : ℕ) → Law (within w32 low high) (to_be_bytes w32) (λ c. (c < 2 ^ 32) × IsTrue (is_between low high c))
constant_law low high = number_law w32 (2 ^ 32) wide32 (is_between low high)

amount_law : (low high : ℕ) → Law (within w16 low high) (to_be_bytes w16) (λ c. (c < 2 ^ 16) × IsTrue (is_between low high c))
amount_law low high = number_law w16 (2 ^ 16) wide16 (is_between low high)

neg_from : (t slots vectors : ℕ) (parts : List ℕ) (g : Gate) → Stands t slots vectors parts 1 g → ((first g < 2 ^ 32) × IsTrue (is_wire parts (first g))) × (Neg (first g) ≡ g)
neg_from t slots vectors parts (Neg a) h = ((h.2, h.1), refl)
neg_from t slots vectors parts g h = absurd (omega (arith, h.0))

neg_law : (t slots vectors : ℕ) (parts : List ℕ) → Law (neg parts) operands_text (Stands t slots vectors parts 1)
unfolding neg
neg_law t slots vectors parts =
    same_law (neg parts) (λ g. to_be_bytes w32 (first g) ++ []) operands_text (λ g. ((first g < 2 ^ 32) × IsTrue (is_wire parts (first g))) × (Neg (first g) ≡ g)) (Stands t slots vectors parts 1)
    (then_law (wire parts) (λ a. Value (Neg a)) (to_be_bytes w32) (λ _. []) (λ a. (a < 2 ^ 32) × IsTrue (is_wire parts a)) (λ a g. Neg a ≡ g) first (wire_law parts) (λ a _. value_law (Neg a)) (λ a g e. ap first (sym e)))
    (λ g h. subst (λ (k : Gate). to_be_bytes w32 (first k) ++ [] ≡ operands_text k) h.1 (append-nil (to_be_bytes w32 (first g))))
    (λ g h. subst (Stands t slots vectors parts 1) h.1 (refl, h.0.1, h.0.0))
    (neg_from t slots vectors parts)

relin_from : (t slots vectors : ℕ) (parts : List ℕ) (g : Gate) → Stands t slots vectors parts 5 g → ((first g < 2 ^ 32) × IsTrue (has_parts 3 parts (first g))) × (Relin (first g) ≡ g)
relin_from t slots vectors parts (Relin a) h = ((h.2, h.1), refl)
relin_from t slots vectors parts g h = absurd (omega (arith, h.0))

relin_law : (t slots vectors : ℕ) (parts : List ℕ) → Law (relin parts) operands_text (Stands t slots vectors parts 5)
unfolding relin
relin_law t slots vectors parts =
    same_law (relin parts) (λ g. to_be_bytes w32 (first g) ++ []) operands_text (λ g. ((first g < 2 ^ 32) × IsTrue (has_parts 3 parts (first g))) × (Relin (first g) ≡ g)) (Stands t slots vectors parts 5)
    (then_law (wire_with 3 parts) (λ a. Value (Relin a)) (to_be_bytes w32) (λ _. []) (λ a. (a < 2 ^ 32) × IsTrue (has_parts 3 parts a)) (λ a g. Relin a ≡ g) first (wire_of_law 3 parts) (λ a _. value_law (Relin a)) (λ a g e. ap first (sym e)))
    (λ g h. subst (λ (k : Gate). to_be_bytes w32 (first k) ++ [] ≡ operands_text k) h.1 (append-nil (to_be_bytes w32 (first g))))
    (λ g h. subst (Stands t slots vectors parts 5) h.1 (refl, h.0.1, h.0.0))
    (relin_from t slots vectors parts)

abbrev add_fits : (t slots vectors : ℕ) (parts : List ℕ) → Gate → Type 0
add_fits t slots vectors parts g = (((first g) < 2 ^ 32) × IsTrue (is_wire parts (first g))) × ((((second g) < 2 ^ 32) × IsTrue (is_wire parts (second g))) × (Add (first g) (second g) ≡ g))

add_from : (t slots vectors : ℕ) (parts : List ℕ) (g : Gate) → Stands t slots vectors parts 2 g → add_fits t slots vectors parts g
add_from t slots vectors parts (Add a b) h = let v = both_true (is_wire parts a) (is_wire parts b) h.1 in ((h.2.0, v.0), ((h.2.1, v.1), refl))
add_from t slots vectors parts g h = absurd (omega (arith, h.0))

add_law : (t slots vectors : ℕ) (parts : List ℕ) → Law (add parts) operands_text (Stands t slots vectors parts 2)
unfolding add
add_law t slots vectors parts =
    same_law (add parts) (λ g. to_be_bytes w32 (first g) ++ (to_be_bytes w32 (second g) ++ [])) operands_text (add_fits t slots vectors parts) (Stands t slots vectors parts 2)
    (then_law (wire parts) (λ a. wire parts then λ b. Value (Add a b)) (to_be_bytes w32) (λ g. to_be_bytes w32 (second g) ++ []) (λ a. ((a < 2 ^ 32) × IsTrue (is_wire parts a))) (λ a g. (((second g) < 2 ^ 32) × IsTrue (is_wire parts (second g))) × (Add a (second g) ≡ g)) first (wire_law parts)
    (λ a _. then_law (wire parts) (λ b. Value (Add a b)) (to_be_bytes w32) (λ _. []) (λ b. ((b < 2 ^ 32) × IsTrue (is_wire parts b))) (λ b g. Add a b ≡ g) second (wire_law parts) (λ b _. value_law (Add a b)) (λ b g e. ap second (sym e)))
    (λ a g h. ap first (sym h.1)))
    (λ g h. subst (λ (k : Gate). to_be_bytes w32 (first k) ++ (to_be_bytes w32 (second k) ++ []) ≡ operands_text k) h.1.1 (ap (λ s. to_be_bytes w32 (first g) ++ s) (append-nil (to_be_bytes w32 (second g)))))
    (λ g h. subst (Stands t slots vectors parts 2) h.1.1 (refl, and_true _ _ h.0.1 h.1.0.1, (h.0.0, h.1.0.0)))
    (add_from t slots vectors parts)

abbrev sub_fits : (t slots vectors : ℕ) (parts : List ℕ) → Gate → Type 0
sub_fits t slots vectors parts g = (((first g) < 2 ^ 32) × IsTrue (is_wire parts (first g))) × ((((second g) < 2 ^ 32) × IsTrue (is_wire parts (second g))) × (Sub (first g) (second g) ≡ g))

sub_from : (t slots vectors : ℕ) (parts : List ℕ) (g : Gate) → Stands t slots vectors parts 3 g → sub_fits t slots vectors parts g
sub_from t slots vectors parts (Sub a b) h = let v = both_true (is_wire parts a) (is_wire parts b) h.1 in ((h.2.0, v.0), ((h.2.1, v.1), refl))
sub_from t slots vectors parts g h = absurd (omega (arith, h.0))

sub_law : (t slots vectors : ℕ) (parts : List ℕ) → Law (sub parts) operands_text (Stands t slots vectors parts 3)
unfolding sub
sub_law t slots vectors parts =
    same_law (sub parts) (λ g. to_be_bytes w32 (first g) ++ (to_be_bytes w32 (second g) ++ [])) operands_text (sub_fits t slots vectors parts) (Stands t slots vectors parts 3)
    (then_law (wire parts) (λ a. wire parts then λ b. Value (Sub a b)) (to_be_bytes w32) (λ g. to_be_bytes w32 (second g) ++ []) (λ a. ((a < 2 ^ 32) × IsTrue (is_wire parts a))) (λ a g. (((second g) < 2 ^ 32) × IsTrue (is_wire parts (second g))) × (Sub a (second g) ≡ g)) first (wire_law parts)
    (λ a _. then_law (wire parts) (λ b. Value (Sub a b)) (to_be_bytes w32) (λ _. []) (λ b. ((b < 2 ^ 32) × IsTrue (is_wire parts b))) (λ b g. Sub a b ≡ g) second (wire_law parts) (λ b _. value_law (Sub a b)) (λ b g e. ap second (sym e)))
    (λ a g h. ap first (sym h.1)))
    (λ g h. subst (λ (k : Gate). to_be_bytes w32 (first k) ++ (to_be_bytes w32 (second k) ++ []) ≡ operands_text k) h.1.1 (ap (λ s. to_be_bytes w32 (first g) ++ s) (append-nil (to_be_bytes w32 (second g)))))
    (λ g h. subst (Stands t slots vectors parts 3) h.1.1 (refl, and_true _ _ h.0.1 h.1.0.1, (h.0.0, h.1.0.0)))
    (sub_from t slots vectors parts)

abbrev mul_fits : (t slots vectors : ℕ) (parts : List ℕ) → Gate → Type 0
mul_fits t slots vectors parts g = (((first g) < 2 ^ 32) × IsTrue (has_parts 2 parts (first g))) × ((((second g) < 2 ^ 32) × IsTrue (has_parts 2 parts (second g))) × (Mul (first g) (second g) ≡ g))

mul_from : (t slots vectors : ℕ) (parts : List ℕ) (g : Gate) → Stands t slots vectors parts 4 g → mul_fits t slots vectors parts g
mul_from t slots vectors parts (Mul a b) h = let v = both_true (has_parts 2 parts a) (has_parts 2 parts b) h.1 in ((h.2.0, v.0), ((h.2.1, v.1), refl))
mul_from t slots vectors parts g h = absurd (omega (arith, h.0))

mul_law : (t slots vectors : ℕ) (parts : List ℕ) → Law (mul parts) operands_text (Stands t slots vectors parts 4)
unfolding mul
mul_law t slots vectors parts =
    same_law (mul parts) (λ g. to_be_bytes w32 (first g) ++ (to_be_bytes w32 (second g) ++ [])) operands_text (mul_fits t slots vectors parts) (Stands t slots vectors parts 4)
    (then_law (wire_with 2 parts) (λ a. wire_with 2 parts then λ b. Value (Mul a b)) (to_be_bytes w32) (λ g. to_be_bytes w32 (second g) ++ []) (λ a. ((a < 2 ^ 32) × IsTrue (has_parts 2 parts a))) (λ a g. (((second g) < 2 ^ 32) × IsTrue (has_parts 2 parts (second g))) × (Mul a (second g) ≡ g)) first (wire_of_law 2 parts)
    (λ a _. then_law (wire_with 2 parts) (λ b. Value (Mul a b)) (to_be_bytes w32) (λ _. []) (λ b. ((b < 2 ^ 32) × IsTrue (has_parts 2 parts b))) (λ b g. Mul a b ≡ g) second (wire_of_law 2 parts) (λ b _. value_law (Mul a b)) (λ b g e. ap second (sym e)))
    (λ a g h. ap first (sym h.1)))
    (λ g h. subst (λ (k : Gate). to_be_bytes w32 (first k) ++ (to_be_bytes w32 (second k) ++ []) ≡ operands_text k) h.1.1 (ap (λ s. to_be_bytes w32 (first g) ++ s) (append-nil (to_be_bytes w32 (second g)))))
    (λ g h. subst (Stands t slots vectors parts 4) h.1.1 (refl, and_true _ _ h.0.1 h.1.0.1, (h.0.0, h.1.0.0)))
    (mul_from t slots vectors parts)

abbrev scale_fits : (t slots vectors : ℕ) (parts : List ℕ) → Gate → Type 0
scale_fits t slots vectors parts g = (((first g) < 2 ^ 32) × IsTrue (is_between 1 (t - 1) (first g))) × ((((second g) < 2 ^ 32) × IsTrue (is_wire parts (second g))) × (Scale (first g) (second g) ≡ g))

scale_from : (t slots vectors : ℕ) (parts : List ℕ) (g : Gate) → Stands t slots vectors parts 6 g → scale_fits t slots vectors parts g
scale_from t slots vectors parts (Scale a b) h = let v = both_true (is_between 1 (t - 1) a) (is_wire parts b) h.1 in ((h.2.0, v.0), ((h.2.1, v.1), refl))
scale_from t slots vectors parts g h = absurd (omega (arith, h.0))

scale_law : (t slots vectors : ℕ) (parts : List ℕ) → Law (scale t parts) operands_text (Stands t slots vectors parts 6)
unfolding scale
scale_law t slots vectors parts =
    same_law (scale t parts) (λ g. to_be_bytes w32 (first g) ++ (to_be_bytes w32 (second g) ++ [])) operands_text (scale_fits t slots vectors parts) (Stands t slots vectors parts 6)
    (then_law (within w32 1 (t - 1)) (λ a. wire parts then λ b. Value (Scale a b)) (to_be_bytes w32) (λ g. to_be_bytes w32 (second g) ++ []) (λ a. ((a < 2 ^ 32) × IsTrue (is_between 1 (t - 1) a))) (λ a g. (((second g) < 2 ^ 32) × IsTrue (is_wire parts (second g))) × (Scale a (second g) ≡ g)) first (constant_law 1 (t - 1))
    (λ a _. then_law (wire parts) (λ b. Value (Scale a b)) (to_be_bytes w32) (λ _. []) (λ b. ((b < 2 ^ 32) × IsTrue (is_wire parts b))) (λ b g. Scale a b ≡ g) second (wire_law parts) (λ b _. value_law (Scale a b)) (λ b g e. ap second (sym e)))
    (λ a g h. ap first (sym h.1)))
    (λ g h. subst (λ (k : Gate). to_be_bytes w32 (first k) ++ (to_be_bytes w32 (second k) ++ []) ≡ operands_text k) h.1.1 (ap (λ s. to_be_bytes w32 (first g) ++ s) (append-nil (to_be_bytes w32 (second g)))))
    (λ g h. subst (Stands t slots vectors parts 6) h.1.1 (refl, and_true _ _ h.0.1 h.1.0.1, (h.0.0, h.1.0.0)))
    (scale_from t slots vectors parts)

abbrev shift_fits : (t slots vectors : ℕ) (parts : List ℕ) → Gate → Type 0
shift_fits t slots vectors parts g = (((first g) < 2 ^ 32) × IsTrue (is_between 0 (t - 1) (first g))) × ((((second g) < 2 ^ 32) × IsTrue (is_wire parts (second g))) × (Shift (first g) (second g) ≡ g))

shift_from : (t slots vectors : ℕ) (parts : List ℕ) (g : Gate) → Stands t slots vectors parts 7 g → shift_fits t slots vectors parts g
shift_from t slots vectors parts (Shift a b) h = let v = both_true (is_between 0 (t - 1) a) (is_wire parts b) h.1 in ((h.2.0, v.0), ((h.2.1, v.1), refl))
shift_from t slots vectors parts g h = absurd (omega (arith, h.0))

shift_law : (t slots vectors : ℕ) (parts : List ℕ) → Law (shift t parts) operands_text (Stands t slots vectors parts 7)
unfolding shift
shift_law t slots vectors parts =
    same_law (shift t parts) (λ g. to_be_bytes w32 (first g) ++ (to_be_bytes w32 (second g) ++ [])) operands_text (shift_fits t slots vectors parts) (Stands t slots vectors parts 7)
    (then_law (within w32 0 (t - 1)) (λ a. wire parts then λ b. Value (Shift a b)) (to_be_bytes w32) (λ g. to_be_bytes w32 (second g) ++ []) (λ a. ((a < 2 ^ 32) × IsTrue (is_between 0 (t - 1) a))) (λ a g. (((second g) < 2 ^ 32) × IsTrue (is_wire parts (second g))) × (Shift a (second g) ≡ g)) first (constant_law 0 (t - 1))
    (λ a _. then_law (wire parts) (λ b. Value (Shift a b)) (to_be_bytes w32) (λ _. []) (λ b. ((b < 2 ^ 32) × IsTrue (is_wire parts b))) (λ b g. Shift a b ≡ g) second (wire_law parts) (λ b _. value_law (Shift a b)) (λ b g e. ap second (sym e)))
    (λ a g h. ap first (sym h.1)))
    (λ g h. subst (λ (k : Gate). to_be_bytes w32 (first k) ++ (to_be_bytes w32 (second k) ++ []) ≡ operands_text k) h.1.1 (ap (λ s. to_be_bytes w32 (first g) ++ s) (append-nil (to_be_bytes w32 (second g)))))
    (λ g h. subst (Stands t slots vectors parts 7) h.1.1 (refl, and_true _ _ h.0.1 h.1.0.1, (h.0.0, h.1.0.0)))
    (shift_from t slots vectors parts)

abbrev turn_fits : (t slots vectors : ℕ) (parts : List ℕ) → Gate → Type 0
turn_fits t slots vectors parts g = (((first g) < 2 ^ 16) × IsTrue (is_between 1 (slots - 1) (first g))) × ((((second g) < 2 ^ 32) × IsTrue (has_parts 2 parts (second g))) × (Turn (first g) (second g) ≡ g))

turn_from : (t slots vectors : ℕ) (parts : List ℕ) (g : Gate) → Stands t slots vectors parts 8 g → turn_fits t slots vectors parts g
turn_from t slots vectors parts (Turn a b) h = let v = both_true (is_between 1 (slots - 1) a) (has_parts 2 parts b) h.1 in ((h.2.0, v.0), ((h.2.1, v.1), refl))
turn_from t slots vectors parts g h = absurd (omega (arith, h.0))

turn_law : (t slots vectors : ℕ) (parts : List ℕ) → Law (turn slots parts) operands_text (Stands t slots vectors parts 8)
unfolding turn
turn_law t slots vectors parts =
    same_law (turn slots parts) (λ g. to_be_bytes w16 (first g) ++ (to_be_bytes w32 (second g) ++ [])) operands_text (turn_fits t slots vectors parts) (Stands t slots vectors parts 8)
    (then_law (within w16 1 (slots - 1)) (λ a. wire_with 2 parts then λ b. Value (Turn a b)) (to_be_bytes w16) (λ g. to_be_bytes w32 (second g) ++ []) (λ a. ((a < 2 ^ 16) × IsTrue (is_between 1 (slots - 1) a))) (λ a g. (((second g) < 2 ^ 32) × IsTrue (has_parts 2 parts (second g))) × (Turn a (second g) ≡ g)) first (amount_law 1 (slots - 1))
    (λ a _. then_law (wire_with 2 parts) (λ b. Value (Turn a b)) (to_be_bytes w32) (λ _. []) (λ b. ((b < 2 ^ 32) × IsTrue (has_parts 2 parts b))) (λ b g. Turn a b ≡ g) second (wire_of_law 2 parts) (λ b _. value_law (Turn a b)) (λ b g e. ap second (sym e)))
    (λ a g h. ap first (sym h.1)))
    (λ g h. subst (λ (k : Gate). to_be_bytes w16 (first k) ++ (to_be_bytes w32 (second k) ++ []) ≡ operands_text k) h.1.1 (ap (λ s. to_be_bytes w16 (first g) ++ s) (append-nil (to_be_bytes w32 (second g)))))
    (λ g h. subst (Stands t slots vectors parts 8) h.1.1 (refl, and_true _ _ h.0.1 h.1.0.1, (h.0.0, h.1.0.0)))
    (turn_from t slots vectors parts)

abbrev weigh_fits : (t slots vectors : ℕ) (parts : List ℕ) → Gate → Type 0
weigh_fits t slots vectors parts g = (((first g) < 2 ^ 32) × IsTrue (ltb (first g) vectors)) × ((((second g) < 2 ^ 32) × IsTrue (is_wire parts (second g))) × (Weigh (first g) (second g) ≡ g))

weigh_from : (t slots vectors : ℕ) (parts : List ℕ) (g : Gate) → Stands t slots vectors parts 9 g → weigh_fits t slots vectors parts g
weigh_from t slots vectors parts (Weigh a b) h = let v = both_true (ltb a vectors) (is_wire parts b) h.1 in ((h.2.0, v.0), ((h.2.1, v.1), refl))
weigh_from t slots vectors parts g h = absurd (omega (arith, h.0))

weigh_law : (t slots vectors : ℕ) (parts : List ℕ) → Law (weigh vectors parts) operands_text (Stands t slots vectors parts 9)
unfolding weigh
weigh_law t slots vectors parts =
    same_law (weigh vectors parts) (λ g. to_be_bytes w32 (first g) ++ (to_be_bytes w32 (second g) ++ [])) operands_text (weigh_fits t slots vectors parts) (Stands t slots vectors parts 9)
    (then_law (number w32 (λ v. ltb v vectors)) (λ a. wire parts then λ b. Value (Weigh a b)) (to_be_bytes w32) (λ g. to_be_bytes w32 (second g) ++ []) (λ a. ((a < 2 ^ 32) × IsTrue (ltb a vectors))) (λ a g. (((second g) < 2 ^ 32) × IsTrue (is_wire parts (second g))) × (Weigh a (second g) ≡ g)) first (number_law w32 (2 ^ 32) wide32 (λ v. ltb v vectors))
    (λ a _. then_law (wire parts) (λ b. Value (Weigh a b)) (to_be_bytes w32) (λ _. []) (λ b. ((b < 2 ^ 32) × IsTrue (is_wire parts b))) (λ b g. Weigh a b ≡ g) second (wire_law parts) (λ b _. value_law (Weigh a b)) (λ b g e. ap second (sym e)))
    (λ a g h. ap first (sym h.1)))
    (λ g h. subst (λ (k : Gate). to_be_bytes w32 (first k) ++ (to_be_bytes w32 (second k) ++ []) ≡ operands_text k) h.1.1 (ap (λ s. to_be_bytes w32 (first g) ++ s) (append-nil (to_be_bytes w32 (second g)))))
    (λ g h. subst (Stands t slots vectors parts 9) h.1.1 (refl, and_true _ _ h.0.1 h.1.0.1, (h.0.0, h.1.0.0)))
    (weigh_from t slots vectors parts)

-- ---- the tag and what follows it

either : (a b : Bool) → (a || b) ≡ true → (a ≡ true) ⊎ (b ≡ true)
either true b e = inl refl
either false b e = inr e

tag_cases : (P : ℕ → Type 0) → P 1 → P 2 → P 3 → P 4 → P 5 → P 6 → P 7 → P 8 → P 9 → (version tag : ℕ) → IsTrue (is_tag version tag) → P tag
tag_cases P p1 p2 p3 p4 p5 p6 p7 p8 p9 version tag h =
    let is : (n : ℕ) → P n → eqb tag n ≡ true → P tag = λ n p e. subst P (sym (eqb-true tag n e)) p in
    elim (either _ (eqb tag 9 && eqb version 3) h) [
      | inr e ↦ is 9 p9 (both_true (eqb tag 9) (eqb version 3) e).0
      | inl h8 ↦ elim (either _ (eqb tag 8) h8) [
        | inr e ↦ is 8 p8 e
        | inl h7 ↦ elim (either _ (eqb tag 7) h7) [
          | inr e ↦ is 7 p7 e
          | inl h6 ↦ elim (either _ (eqb tag 6) h6) [
            | inr e ↦ is 6 p6 e
            | inl h5 ↦ elim (either _ (eqb tag 5) h5) [
              | inr e ↦ is 5 p5 e
              | inl h4 ↦ elim (either _ (eqb tag 4) h4) [
                | inr e ↦ is 4 p4 e
                | inl h3 ↦ elim (either _ (eqb tag 3 && leb 2 version) h3) [
                  | inr e ↦ is 3 p3 (both_true (eqb tag 3) (leb 2 version) e).0
                  | inl h2 ↦ elim (either _ (eqb tag 2) h2) [
                    | inr e ↦ is 2 p2 e
                    | inl e ↦ is 1 p1 e
                  ]
                ]
              ]
            ]
          ]
        ]
      ]
    ]

operands_law : (t slots vectors : ℕ) (parts : List ℕ) (version tag : ℕ) → IsTrue (is_tag version tag) → Law (operands t slots vectors parts tag) operands_text (Stands t slots vectors parts tag)
operands_law t slots vectors parts =
    tag_cases (λ tag. Law (operands t slots vectors parts tag) operands_text (Stands t slots vectors parts tag)) (neg_law t slots vectors parts) (add_law t slots vectors parts) (sub_law t slots vectors parts) (mul_law t slots vectors parts) (relin_law t slots vectors parts)
    (scale_law t slots vectors parts) (shift_law t slots vectors parts) (turn_law t slots vectors parts) (weigh_law t slots vectors parts)

-- a file of this version may have the gate
abbrev pub is_of : ℕ → Gate → Bool
is_of version g = is_tag version (tag_of g)

-- a gate that may stand there
abbrev pub MayStand : ℕ → ℕ → ℕ → ℕ → List ℕ → Gate → Type 0
MayStand version t slots vectors parts g = (IsTrue (is_gate t slots vectors parts g) × IsNarrow g) × IsTrue (is_of version g)

tag_small : (g : Gate) → tag_of g < 2 ^ 8
tag_small (Neg a) = omega arith
tag_small (Add a b) = omega arith
tag_small (Sub a b) = omega arith
tag_small (Mul a b) = omega arith
tag_small (Relin a) = omega arith
tag_small (Scale c a) = omega arith
tag_small (Shift c a) = omega arith
tag_small (Turn r a) = omega arith
tag_small (Weigh v a) = omega arith

pub gate_law : (version t slots vectors : ℕ) (parts : List ℕ) → Law (gate version t slots vectors parts) gate_text (MayStand version t slots vectors parts)
unfolding gate
gate_law version t slots vectors parts =
    same_law (gate version t slots vectors parts) gate_text gate_text (λ g. ((tag_of g < 2 ^ 8) × IsTrue (is_of version g)) × Stands t slots vectors parts (tag_of g) g) (MayStand version t slots vectors parts)
    (then_law (number w8 (is_tag version)) (operands t slots vectors parts) (to_be_bytes w8) operands_text (λ tag. (tag < 2 ^ 8) × IsTrue (is_tag version tag)) (Stands t slots vectors parts) tag_of
    (number_law w8 (2 ^ 8) wide8 (is_tag version)) (λ tag h. operands_law t slots vectors parts version tag h.1) (λ tag g h. h.0))
    (λ g h. refl)
    (λ g h. ((h.1.1, h.1.2), h.0.1))
    (λ g h. ((tag_small g, h.1), (refl, h.0.0, h.0.1)))

-- ---- a file of the circuit's own version may have its gates

own_sub : (version : ℕ) → 2 ≤ version → IsTrue (is_tag version 3)
own_sub version le = let e : leb 2 version ≡ true = le-leb 2 version le in rw e refl

own_weigh : (version : ℕ) → version ≡ 3 → IsTrue (is_tag version 9)
own_weigh version e = rw e refl

-- differences are from version 2 on, and gates that name a vector in version 3 alone
of_version : (version vectors : ℕ) (gates : List Gate) → (list_any is_sub gates ≡ true → 2 ≤ version) → (0 < vectors → version ≡ 3) → IsTrue (list_all (names_vector vectors) gates) → IsTrue (list_all (is_of version) gates)
of_version version vectors [] h k names = refl
of_version version vectors (g ∷ gates) h k names =
    let n = both_true (names_vector vectors g) (list_all (names_vector vectors) gates) names in
    and_true (is_of version g) (list_all (is_of version) gates) (by g (λ e. h (or_left (is_sub g) (list_any is_sub gates) e)) n.0) (of_version version vectors gates (λ e. h (or_right (is_sub g) (list_any is_sub gates) e)) k n.1)
  where
    by : (g : Gate) → (is_sub g ≡ true → 2 ≤ version) → IsTrue (names_vector vectors g) → IsTrue (is_of version g)
    by (Neg a) h n = refl
    by (Add a b) h n = refl
    by (Sub a b) h n = own_sub version (h refl)
    by (Mul a b) h n = refl
    by (Relin a) h n = refl
    by (Scale c a) h n = refl
    by (Shift c a) h n = refl
    by (Turn r a) h n = refl
    by (Weigh v a) h n = own_weigh version (k (omega (arith, ltb-true v vectors n)))

version_two : (some : Bool) → some ≡ true → 2 ≤ cond some 2 1
version_two some e = rw e (omega arith)

pub own_version : (vectors : List (List ℕ)) (gates : List Gate) → IsTrue (list_all (names_vector (length vectors)) gates) → IsTrue (list_all (is_of (version_of vectors gates)) gates)
own_version [] gates names = of_version (version_of [] gates) 0 gates (version_two (list_any is_sub gates)) (λ h. absurd (omega arith)) names
own_version (v ∷ vectors) gates names = of_version 3 (length (v ∷ vectors)) gates (λ e. omega arith) (λ h. refl) names
