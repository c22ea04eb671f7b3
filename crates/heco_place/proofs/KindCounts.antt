-- What the kinds of gates say of their number, their relinearisations and their turns, and that none is a difference or a
-- product by a plain vector.
use Rattle.std.proofs.Common.{◌≡◌, ℕ, suc, ◌+◌, Bool, true, false, ◌||◌, eqb, cond, List, [], ◌∷◌, ◌++◌, length, map, refl, sym, ap, ◌∙◌, arith}
use Rattle.std.specs.List.{list_any, sum_by, count_by, flat_map}
use Rattle.std.proofs.lemmas.List.{length-map}
use Rattle.std.proofs.lemmas.Bool.{eq-eqb, eqb-true}
use Rattle.std.proofs.lemmas.List.Concat.{length-flat_map}
use Rattle.std.proofs.lemmas.List.Sums.{sum_by-append, sum_by-cons}
use Rattle.heco_written.specs.VectorTerm.{VectorTerm, Input, Negated, Added, Multiplied, Scaled, Shifted, Turned}
use Rattle.heco_written.specs.Cost.{gates, late_gates, is_due}
use Rattle.heco_written.specs.Needs.{is_product, turns_by}
use Rattle.heco_circuit.specs.declared.gate.Gate.{Gate}
use Rattle.heco_circuit.specs.declared.gate.Gate.TheVariants.{Neg, Add, Sub, Mul, Relin, Scale, Shift, Turn, Weigh}
use Rattle.heco_circuit.specs.Needs.{is_relin, turns_by as gate_turns_by}
use Rattle.heco_circuit.specs.Versions.{is_sub, version_of}
use Rattle.heco_place.specs.Kinds.{Kind, Linear, Difference, Weighing, Product, Relinearisation, TurnBy, kind, kinds, relinearisation_where, is_relinearised}
use Rattle.heco_thrift.specs.Thrift.{is_product as is_product_gate, is_weighing}
use Rattle.heco_place.proofs.Bools.{or_false, or_assoc, equal}

abbrev is_relin_kind : Kind → Bool
is_relin_kind Relinearisation = true
is_relin_kind k = false

abbrev is_difference_kind : Kind → Bool
is_difference_kind Difference = true
is_difference_kind k = false

abbrev is_weighing_kind : Kind → Bool
is_weighing_kind Weighing = true
is_weighing_kind k = false

abbrev is_product_kind : Kind → Bool
is_product_kind Product = true
is_product_kind k = false

abbrev turns_kind : ℕ → Kind → Bool
turns_kind r (TurnBy s) = eqb r s
turns_kind r k = false

eqb_sym : (a b : ℕ) → eqb a b ≡ eqb b a
eqb_sym a b = equal (eqb a b) (eqb b a) (λ e. eq-eqb b a (sym (eqb-true a b e))) (λ e. eq-eqb a b (sym (eqb-true b a e)))

pub any-map : {X Y : Type 0} (f : X → Y) (q : Y → Bool) (p : X → Bool) → ((x : X) → p x ≡ q (f x)) → (xs : List X) → list_any p xs ≡ list_any q (map f xs)
any-map f q p h [] = refl
any-map f q p h (x ∷ xs) = rw (h x, any-map f q p h xs) refl

one_where : (a b : Bool) → a ≡ b → ◌≡◌ {A = ℕ} (cond a 1 0) (cond b 1 0)
one_where a b e = rw e refl

pub count-map : {X Y : Type 0} (f : X → Y) (q : Y → Bool) (p : X → Bool) → ((x : X) → p x ≡ q (f x)) → (xs : List X) → count_by p xs ≡ count_by q (map f xs)
count-map f q p h [] = refl
count-map f q p h (x ∷ xs) =
    omega (arith, sum_by-cons (λ y. cond (p y) 1 0) x xs, sum_by-cons (λ y. cond (q y) 1 0) (f x) (map f xs), one_where (p x) (q (f x)) (h x), count-map f q p h xs)

pub any-append : {X : Type 0} (p : X → Bool) (xs ys : List X) → list_any p (xs ++ ys) ≡ (list_any p xs || list_any p ys)
any-append p [] ys = refl
any-append p (x ∷ xs) ys = ap (λ b. p x || b) (any-append p xs ys) ∙ sym (or_assoc (p x) (list_any p xs) (list_any p ys))

any-flat : {X Y : Type 0} (f : X → List Y) (p : Y → Bool) (q : X → Bool) → ((x : X) → list_any p (f x) ≡ q x) → (xs : List X) → list_any p (flat_map f xs) ≡ list_any q xs
any-flat f p q h [] = refl
any-flat f p q h (x ∷ xs) = any-append p (f x) (flat_map f xs) ∙ ap (λ b. b || list_any p (flat_map f xs)) (h x) ∙ ap (λ b. q x || b) (any-flat f p q h xs)

count-flat : {X Y : Type 0} (f : X → List Y) (p : Y → Bool) (q : X → Bool) → ((x : X) → count_by p (f x) ≡ cond (q x) 1 0) → (xs : List X) → count_by p (flat_map f xs) ≡ count_by q xs
count-flat f p q h [] = refl
count-flat f p q h (x ∷ xs) = omega (arith, sum_by-append (λ y. cond (p y) 1 0) (f x) (flat_map f xs), sum_by-cons (λ y. cond (q y) 1 0) x xs, h x, count-flat f p q h xs)

relin_is : (g : Gate) → is_relin g ≡ is_relin_kind (kind g)
relin_is (Neg a) = refl
relin_is (Add a b) = refl
relin_is (Sub a b) = refl
relin_is (Mul a b) = refl
relin_is (Relin a) = refl
relin_is (Scale c a) = refl
relin_is (Shift c a) = refl
relin_is (Turn r a) = refl
relin_is (Weigh v a) = refl

mul_is : (g : Gate) → is_product_gate g ≡ is_product_kind (kind g)
mul_is (Neg a) = refl
mul_is (Add a b) = refl
mul_is (Sub a b) = refl
mul_is (Mul a b) = refl
mul_is (Relin a) = refl
mul_is (Scale c a) = refl
mul_is (Shift c a) = refl
mul_is (Turn r a) = refl
mul_is (Weigh v a) = refl

sub_is : (g : Gate) → is_sub g ≡ is_difference_kind (kind g)
sub_is (Neg a) = refl
sub_is (Add a b) = refl
sub_is (Sub a b) = refl
sub_is (Mul a b) = refl
sub_is (Relin a) = refl
sub_is (Scale c a) = refl
sub_is (Shift c a) = refl
sub_is (Turn r a) = refl
sub_is (Weigh v a) = refl

weighing_is : (g : Gate) → is_weighing g ≡ is_weighing_kind (kind g)
weighing_is (Neg a) = refl
weighing_is (Add a b) = refl
weighing_is (Sub a b) = refl
weighing_is (Mul a b) = refl
weighing_is (Relin a) = refl
weighing_is (Scale c a) = refl
weighing_is (Shift c a) = refl
weighing_is (Turn r a) = refl
weighing_is (Weigh v a) = refl

-- no gate of a term is of this kind
record IsUnheard (p : Kind → Bool) : Type 0 where
  linear : p Linear ≡ false
  product : p Product ≡ false
  relinearisation : p Relinearisation ≡ false
  turn : (r : ℕ) → p (TurnBy r) ≡ false

turn_is : (r : ℕ) (g : Gate) → gate_turns_by r g ≡ turns_kind r (kind g)
turn_is r (Neg a) = refl
turn_is r (Add a b) = refl
turn_is r (Sub a b) = refl
turn_is r (Mul a b) = refl
turn_is r (Relin a) = refl
turn_is r (Scale c a) = refl
turn_is r (Shift c a) = refl
turn_is r (Turn s a) = eqb_sym s r
turn_is r (Weigh v a) = refl

module _ (late : Bool) (ts vs : List VectorTerm) where
  abbrev relins : VectorTerm → Bool
  relins = is_relinearised late ts vs

  abbrev weight : VectorTerm → ℕ
  weight v = cond late (late_gates ts vs v) (gates v)

  plain : (b : Bool) → suc (length (relinearisation_where b)) ≡ 1 + cond b 1 0
  plain true = refl
  plain false = refl

  one_more : (v : VectorTerm) (l : Bool) (g : ℕ) → late_gates ts vs v ≡ 1 + cond (is_due ts vs v) 1 0 → gates v ≡ 1 + cond (is_product v) 1 0
      → suc (length (relinearisation_where (is_relinearised l ts vs v))) ≡ cond l (late_gates ts vs v) (gates v)
  one_more v true g e f = plain (is_due ts vs v) ∙ sym e
  one_more v false g e f = plain (is_product v) ∙ sym f

  none : (l : Bool) → ◌≡◌ {A = ℕ} 0 (cond l 0 0)
  none true = refl
  none false = refl

  weight_is : (v : VectorTerm) → length (kinds late ts vs v) ≡ weight v
  weight_is (Input a) = none late
  weight_is (Negated v) = one_more (Negated v) late 0 refl refl
  weight_is (Added v u) = one_more (Added v u) late 0 refl refl
  weight_is (Multiplied v u) = one_more (Multiplied v u) late 0 refl refl
  weight_is (Scaled c v) = one_more (Scaled c v) late 0 refl refl
  weight_is (Shifted c v) = one_more (Shifted c v) late 0 refl refl
  weight_is (Turned r v) = one_more (Turned r v) late 0 refl refl

  no_relin : (l : Bool) → ◌≡◌ {A = ℕ} 0 (cond (cond l false false) 1 0)
  no_relin true = refl
  no_relin false = refl

  relin_count : (b : Bool) → count_by is_relin_kind (relinearisation_where b) ≡ cond b 1 0
  relin_count true = refl
  relin_count false = refl

  relins_are : (v : VectorTerm) → count_by is_relin_kind (kinds late ts vs v) ≡ cond (relins v) 1 0
  relins_are (Input a) = no_relin late
  relins_are (Negated v) = relin_count (relins (Negated v))
  relins_are (Added v u) = relin_count (relins (Added v u))
  relins_are (Multiplied v u) = relin_count (relins (Multiplied v u))
  relins_are (Scaled c v) = relin_count (relins (Scaled c v))
  relins_are (Shifted c v) = relin_count (relins (Shifted c v))
  relins_are (Turned r v) = relin_count (relins (Turned r v))

  no_products : (b : Bool) → count_by is_product_kind (relinearisation_where b) ≡ 0
  no_products true = refl
  no_products false = refl

  products_are : (v : VectorTerm) → count_by is_product_kind (kinds late ts vs v) ≡ cond (is_product v) 1 0
  products_are (Input a) = refl
  products_are (Negated v) = no_products (relins (Negated v))
  products_are (Added v u) = no_products (relins (Added v u))
  products_are (Multiplied v u) =
      omega (arith, sum_by-cons (λ k. cond (is_product_kind k) 1 0) Product (relinearisation_where (relins (Multiplied v u))), no_products (relins (Multiplied v u)))
  products_are (Scaled c v) = no_products (relins (Scaled c v))
  products_are (Shifted c v) = no_products (relins (Shifted c v))
  products_are (Turned r v) = no_products (relins (Turned r v))

  some_relin : (b : Bool) → list_any is_relin_kind (relinearisation_where b) ≡ b
  some_relin true = refl
  some_relin false = refl

  never : (l : Bool) → false ≡ cond l false false
  never true = refl
  never false = refl

  has_relin : (v : VectorTerm) → list_any is_relin_kind (kinds late ts vs v) ≡ relins v
  has_relin (Input a) = never late
  has_relin (Negated v) = some_relin (relins (Negated v))
  has_relin (Added v u) = some_relin (relins (Added v u))
  has_relin (Multiplied v u) = some_relin (relins (Multiplied v u))
  has_relin (Scaled c v) = some_relin (relins (Scaled c v))
  has_relin (Shifted c v) = some_relin (relins (Shifted c v))
  has_relin (Turned r v) = some_relin (relins (Turned r v))

  no_turn : (r : ℕ) (b : Bool) → list_any (turns_kind r) (relinearisation_where b) ≡ false
  no_turn r true = refl
  no_turn r false = refl

  has_turn : (r : ℕ) (v : VectorTerm) → list_any (turns_kind r) (kinds late ts vs v) ≡ turns_by r v
  has_turn r (Input a) = refl
  has_turn r (Negated v) = no_turn r (relins (Negated v))
  has_turn r (Added v u) = no_turn r (relins (Added v u))
  has_turn r (Multiplied v u) = no_turn r (relins (Multiplied v u))
  has_turn r (Scaled c v) = no_turn r (relins (Scaled c v))
  has_turn r (Shifted c v) = no_turn r (relins (Shifted c v))
  has_turn r (Turned s v) = ap (λ b. eqb r s || b) (no_turn r (relins (Turned s v))) ∙ or_false (eqb r s)

  none_where : (p : Kind → Bool) (b : Bool) → IsUnheard p → list_any p (relinearisation_where b) ≡ false
  none_where p true u = ap (λ x. x || false) u.relinearisation
  none_where p false u = refl

  none_of_two : (p : Kind → Bool) (k : Kind) (b : Bool) → IsUnheard p → p k ≡ false → list_any p (k ∷ relinearisation_where b) ≡ false
  none_of_two p k b u e = ap (λ x. x || list_any p (relinearisation_where b)) e ∙ none_where p b u

  has_none : (p : Kind → Bool) → IsUnheard p → (v : VectorTerm) → list_any p (kinds late ts vs v) ≡ false
  has_none p u (Input a) = refl
  has_none p u (Negated v) = none_of_two p Linear (relins (Negated v)) u u.linear
  has_none p u (Added v w) = none_of_two p Linear (relins (Added v w)) u u.linear
  has_none p u (Multiplied v w) = none_of_two p Product (relins (Multiplied v w)) u u.product
  has_none p u (Scaled c v) = none_of_two p Linear (relins (Scaled c v)) u u.linear
  has_none p u (Shifted c v) = none_of_two p Linear (relins (Shifted c v)) u u.linear
  has_none p u (Turned r v) = none_of_two p (TurnBy r) (relins (Turned r v)) u (u.turn r)

  any_never : (xs : List VectorTerm) → list_any (λ v. false) xs ≡ false
  any_never [] = refl
  any_never (x ∷ xs) = any_never xs

  sum-same : (f g : VectorTerm → ℕ) → ((v : VectorTerm) → f v ≡ g v) → (xs : List VectorTerm) → sum_by f xs ≡ sum_by g xs
  sum-same f g h [] = refl
  sum-same f g h (x ∷ xs) = omega (arith, sum_by-cons f x xs, sum_by-cons g x xs, h x, sum-same f g h xs)

  -- gates of the kinds of these terms
  module _ (gs : List Gate) (xs : List VectorTerm) (are : map kind gs ≡ flat_map (kinds late ts vs) xs) where
    pub gate_count : length gs ≡ sum_by weight xs
    gate_count =
        sym (length-map gs kind) ∙ ap length are ∙ length-flat_map (kinds late ts vs) xs ∙ sum-same (λ v. length (kinds late ts vs v)) weight weight_is xs

    pub relin_count_is : count_by is_relin gs ≡ count_by relins xs
    relin_count_is = count-map kind is_relin_kind is_relin relin_is gs ∙ ap (count_by is_relin_kind) are ∙ count-flat (kinds late ts vs) is_relin_kind relins relins_are xs

    pub mul_count_is : count_by is_product_gate gs ≡ count_by is_product xs
    mul_count_is = count-map kind is_product_kind is_product_gate mul_is gs ∙ ap (count_by is_product_kind) are ∙ count-flat (kinds late ts vs) is_product_kind is_product products_are xs

    pub any_relin_is : list_any is_relin gs ≡ list_any relins xs
    any_relin_is = any-map kind is_relin_kind is_relin relin_is gs ∙ ap (list_any is_relin_kind) are ∙ any-flat (kinds late ts vs) is_relin_kind relins has_relin xs

    pub any_turn_is : (r : ℕ) → list_any (gate_turns_by r) gs ≡ list_any (turns_by r) xs
    any_turn_is r = any-map kind (turns_kind r) (gate_turns_by r) (turn_is r) gs ∙ ap (list_any (turns_kind r)) are ∙ any-flat (kinds late ts vs) (turns_kind r) (turns_by r) (has_turn r) xs

    none_is : (p : Kind → Bool) (test : Gate → Bool) → ((g : Gate) → test g ≡ p (kind g)) → IsUnheard p → list_any test gs ≡ false
    none_is p test same u = any-map kind p test same gs ∙ ap (list_any p) are ∙ any-flat (kinds late ts vs) p (λ v. false) (has_none p u) xs ∙ any_never xs

    no_subs : list_any is_sub gs ≡ false
    no_subs = none_is is_difference_kind is_sub sub_is (record { linear = refl; product = refl; relinearisation = refl; turn = λ r. refl })

    pub none_weighs : list_any is_weighing gs ≡ false
    none_weighs = none_is is_weighing_kind is_weighing weighing_is (record { linear = refl; product = refl; relinearisation = refl; turn = λ r. refl })

    pub version_is : version_of [] gs ≡ 1
    version_is = rw no_subs refl

-- both forms of the gates differ by what is due and what is a product
pub forms_differ : (ts vs xs : List VectorTerm) → sum_by (late_gates ts vs) xs + count_by is_product xs ≡ sum_by gates xs + count_by (is_due ts vs) xs
forms_differ ts vs [] = refl
forms_differ ts vs (x ∷ xs) =
    omega (arith, sum_by-cons (late_gates ts vs) x xs, sum_by-cons (λ v. cond (is_product v) 1 0) x xs, sum_by-cons gates x xs, sum_by-cons (λ v. cond (is_due ts vs v) 1 0) x xs, by x, forms_differ ts vs xs)
  where
    by : (v : VectorTerm) → late_gates ts vs v + cond (is_product v) 1 0 ≡ gates v + cond (is_due ts vs v) 1 0
    by (Input a) = refl
    by (Negated v) = omega arith
    by (Added v u) = omega arith
    by (Multiplied v u) = omega arith
    by (Scaled c v) = omega arith
    by (Shifted c v) = omega arith
    by (Turned r v) = omega arith
