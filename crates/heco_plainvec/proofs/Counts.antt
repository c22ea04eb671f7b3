-- What a gathered circuit needs and costs.
use Rattle.std.proofs.Common.{◌≡◌, ℕ, ◌+◌, ◌-◌, ◌≤◌, length, refl, ap, sym, ◌∙◌, arith, Bool, false, cond, inl, inr}
use Rattle.std.specs.Prelude.{Some, None, slice_get}
use Rattle.std.specs.List.{list_any, count_by, range_with_len}
use Rattle.std.proofs.lemmas.List.Elements.{filter_agree}
use Rattle.heco_nums.specs.Presets.{slots_of}
use Rattle.heco_circuit.specs.declared.gate.Gate.{Gate}
use Rattle.heco_circuit.specs.declared.gate.Gate.TheVariants.{Neg, Add, Sub, Mul, Relin, Scale, Shift, Turn, Weigh}
use Rattle.heco_circuit.specs.Plans.{Plan}
use Rattle.heco_circuit.specs.Needs.{is_relin, turns_by, needs_relin, needed_turns}
use Rattle.heco_thrift.specs.Thrift.{is_product}
use Rattle.heco_rewrites.specs.Wires.{over}
use Rattle.heco_plainvec.specs.Gathered.{name, gathered_gate, gathered_gates, gathered}
use Rattle.heco_plainvec.proofs.Images.{image_is, gone_is, same_any, same_by, less_by, length-sum}

-- a test that sees neither wires nor products by constants and vectors
pub record IsBlind (test : Gate → Bool) : Type 0 where
  pub names : (f : ℕ → ℕ) (g : Gate) → test (over f g) ≡ test g
  pub scales : (k a : ℕ) → test (Scale k a) ≡ false
  pub weighs : (v a : ℕ) → test (Weigh v a) ≡ false

none_lost : (c : Plan) (test : Gate → Bool) → IsBlind test → (k : ℕ) (g : Gate) → slice_get c.gates k ≡ Some g → gathered_gate c (length c.inputs + k, g) ≡ None → test g ≡ false
none_lost c test b k g e q = let r = gone_is c (length c.inputs + k) k g refl e q in ap test r.2 ∙ b.scales r.1 r.0

none_changed : (c : Plan) (test : Gate → Bool) → IsBlind test → (k : ℕ) (g h : Gate) → slice_get c.gates k ≡ Some g → gathered_gate c (length c.inputs + k, g) ≡ Some h → test h ≡ test g
none_changed c test b k g h e q = elim (image_is c (length c.inputs + k) k g h refl e q) [
  | inl r ↦ ap test r.is ∙ b.names (name c) g
  | inr r ↦ ap test r.is ∙ b.weighs _ _ ∙ sym (ap test r.gate ∙ b.scales r.by r.of)
]

pub any_kept : (c : Plan) (test : Gate → Bool) → IsBlind test → list_any test (gathered_gates c) ≡ list_any test c.gates
any_kept c test b = same_any (gathered_gate c) test (length c.inputs) c.gates (none_lost c test b) (none_changed c test b)

pub count_kept : (c : Plan) (test : Gate → Bool) → IsBlind test → count_by test (gathered_gates c) ≡ count_by test c.gates
count_kept c test b =
    same_by (gathered_gate c) (λ g. cond (test g) 1 0) (length c.inputs) c.gates (λ k g e q. ap (λ t. cond t 1 0) (none_lost c test b k g e q)) (λ k g h e q. ap (λ t. cond t 1 0) (none_changed c test b k g h e q))

relin_over : (f : ℕ → ℕ) (g : Gate) → is_relin (over f g) ≡ is_relin g
relin_over f (Relin a) = refl
relin_over f (Neg a) = refl
relin_over f (Add a b) = refl
relin_over f (Sub a b) = refl
relin_over f (Mul a b) = refl
relin_over f (Scale c a) = refl
relin_over f (Shift c a) = refl
relin_over f (Turn r a) = refl
relin_over f (Weigh v a) = refl

product_over : (f : ℕ → ℕ) (g : Gate) → is_product (over f g) ≡ is_product g
product_over f (Relin a) = refl
product_over f (Neg a) = refl
product_over f (Add a b) = refl
product_over f (Sub a b) = refl
product_over f (Mul a b) = refl
product_over f (Scale c a) = refl
product_over f (Shift c a) = refl
product_over f (Turn r a) = refl
product_over f (Weigh v a) = refl

turn_over : (amount : ℕ) (f : ℕ → ℕ) (g : Gate) → turns_by amount (over f g) ≡ turns_by amount g
turn_over amount f (Relin a) = refl
turn_over amount f (Neg a) = refl
turn_over amount f (Add a b) = refl
turn_over amount f (Sub a b) = refl
turn_over amount f (Mul a b) = refl
turn_over amount f (Scale c a) = refl
turn_over amount f (Shift c a) = refl
turn_over amount f (Turn r a) = refl
turn_over amount f (Weigh v a) = refl

blind_relin : IsBlind is_relin
blind_relin = record { names = relin_over; scales = λ k a. refl; weighs = λ v a. refl }

blind_product : IsBlind is_product
blind_product = record { names = product_over; scales = λ k a. refl; weighs = λ v a. refl }

blind_turn : (amount : ℕ) → IsBlind (turns_by amount)
blind_turn amount = record { names = turn_over amount; scales = λ k a. refl; weighs = λ v a. refl }

pub same_relin : (c : Plan) → needs_relin (gathered c) ≡ needs_relin c
unfolding gathered
same_relin c = any_kept c is_relin blind_relin

pub same_turns : (c : Plan) → needed_turns (gathered c) ≡ needed_turns c
unfolding gathered
same_turns c = filter_agree (λ r. list_any (turns_by r) (gathered_gates c)) (λ r. list_any (turns_by r) c.gates) (λ r. any_kept c (turns_by r) (blind_turn r)) (range_with_len 1 (slots_of c.preset - 1))

pub same_relinearisations : (c : Plan) → count_by is_relin (gathered c).gates ≡ count_by is_relin c.gates
unfolding gathered
same_relinearisations c = count_kept c is_relin blind_relin

pub same_products : (c : Plan) → count_by is_product (gathered c).gates ≡ count_by is_product c.gates
unfolding gathered
same_products c = count_kept c is_product blind_product

pub fewer_gates : (c : Plan) → length (gathered_gates c) ≤ length c.gates
fewer_gates c =
    let l = less_by (gathered_gate c) (λ g. 1) (length c.inputs) c.gates (λ k g h e q. omega arith) in
    omega (arith, l, length-sum (gathered_gates c), length-sum c.gates)
