-- What a lawful answer means on the wires of a circuit.
use Rattle.std.proofs.Common.{◌≡◌, ℕ, zero, suc, ◌+◌, ◌<◌, List, [], ◌∷◌, length, ap, sym, ◌∙◌, arith, true, ltb}
use Rattle.std.specs.Prelude.{Contains, Option, Some, slice_get}
use Rattle.std.specs.List.{list_all}
use Rattle.std.proofs.lemmas.Bool.{lt-ltb}
use Rattle.heco_nums.specs.Presets.{modulus_of, slots_of}
use Rattle.heco_nums.specs.declared.preset.Preset.{Preset}
use Rattle.heco_nums.specs.Runs.{along, all_along}
use Rattle.heco_fields.proofs.Bools.{and_true}
use Rattle.heco_circuit.specs.declared.gate.Gate.{Gate}
use Rattle.heco_circuit.specs.declared.gate.Gate.TheVariants.{Neg, Add, Sub, Mul, Relin, Scale, Shift, Turn, Weigh}
use Rattle.heco_circuit.specs.Plans.{is_vector}
use Rattle.heco_circuit.specs.Validity.{with_gate, is_gate}
use Rattle.heco_meaning.specs.Meanings.{wire_at, wire_of}
use Rattle.heco_rewrites.specs.Wires.{Wires, behind, operands, Even}
use Rattle.heco_rewrites.specs.Full.{AreFull}
use Rattle.heco_rewrites.proofs.OtherNames.{first, second}
use Rattle.heco_rewrites.proofs.Along.{along_long, all_earlier}
use Rattle.heco_rewrites.proofs.Full.{wires_full}
use Rattle.heco_peep.specs.Rules.{IsWindow, Agrees, Sees, of_at, of_first, of_second, is_shown, in_range}
use Rattle.heco_peep.specs.Looks.{window, told_maker}
use Rattle.heco_peep.proofs.Makers.{made, all_ranged, IsTold, told_maker_is}

-- the first wires: one entry each, N numbers below t; and the plain vectors are such
pub record Ground (id : ℕ) (vs : List (List ℕ)) (start : Wires) : Type 0 where
  pub some : 0 < modulus_of id
  pub vectors : list_all (is_vector (modulus_of id) (slots_of id)) vs ≡ true
  pub even : Even start
  pub full : AreFull id start

-- these gates may stand behind the first wires
abbrev pub Formed : ℕ → List (List ℕ) → Wires → List Gate → Type 0
Formed id vs start gates = all_along (is_gate (modulus_of id) (slots_of id) (length vs)) with_gate start.parts gates ≡ true

-- the window of a gate behind them is one that a pass may be shown
pub ready : (p : Preset) (vs : List (List ℕ)) (start : Wires) (gates : List Gate) (at : Gate) → Formed p.id vs start gates → is_shown at ≡ true → in_range (modulus_of p.id) (slots_of p.id) at ≡ true
    → IsWindow (window p (length start.parts) gates at)
ready p vs start gates at f s r = record {
  shown = s;
  at = r;
  first = λ g e. let m : IsTold (length start.parts) gates (slice_get (operands at) 0) g = told_maker_is (length start.parts) gates (slice_get (operands at) 0) g e in
      all_ranged (modulus_of p.id) (slots_of p.id) (length vs) start.parts gates f m.maker.place g m.maker.gate;
  second = λ g e. let m : IsTold (length start.parts) gates (slice_get (operands at) 1) g = told_maker_is (length start.parts) gates (slice_get (operands at) 1) g e in
      all_ranged (modulus_of p.id) (slots_of p.id) (length vs) start.parts gates f m.maker.place g m.maker.gate;
}

got_below : {A : Type 0} (xs : List A) (k : ℕ) (x : A) → slice_get xs k ≡ Some x → k < length xs
got_below [] k x e = absurd cc
got_below (y ∷ xs) zero x e = omega arith
got_below (y ∷ xs) (suc k) x e = let l = got_below xs k x e in omega (arith, l)

-- what a told maker reads stands
told_below : (id : ℕ) (vs : List (List ℕ)) (start : Wires) (gates : List Gate) (o : Option ℕ) (g : Gate) → Formed id vs start gates → told_maker (length start.parts) gates o ≡ Some g
    → (a : ℕ) → Contains (operands g) a → a < length (along (behind id vs) start gates).parts
told_below id vs start gates o g f e a c =
    let m : IsTold (length start.parts) gates o g = told_maker_is (length start.parts) gates o g e in
    let l = all_earlier (modulus_of id) (slots_of id) (length vs) start.parts gates f m.maker.place g m.maker.gate a c in
    let k = got_below gates m.maker.place g m.maker.gate in
    let n = along_long id vs start gates in
    omega (arith, l, k, n)

-- so does each wire that a window shows
pub seen_below : (p : Preset) (vs : List (List ℕ)) (start : Wires) (gates : List Gate) (at : Gate) → Formed p.id vs start gates → ((a : ℕ) → Contains (operands at) a → a < length (along (behind p.id vs) start gates).parts)
    → (a : ℕ) → Sees (window p (length start.parts) gates at) a → a < length (along (behind p.id vs) start gates).parts
seen_below p vs start gates at f b _ (of_at a c) = b a c
seen_below p vs start gates at f b _ (of_first a g e c) = told_below p.id vs start gates (slice_get (operands at) 0) g f e a c
seen_below p vs start gates at f b _ (of_second a g e c) = told_below p.id vs start gates (slice_get (operands at) 1) g f e a c

same_some : (o : Option ℕ) (a b : ℕ) → o ≡ Some a → o ≡ Some b → a ≡ b
same_some o a b e f = (let q : Some a ≡ Some b = sym e ∙ f in cc)

-- an operand has the slots of its maker
told_made : (id : ℕ) (vs : List (List ℕ)) (start : Wires) (gates : List Gate) (o : Option ℕ) (a : ℕ) (g : Gate) → Even start → Formed id vs start gates → o ≡ Some a → told_maker (length start.parts) gates o ≡ Some g
    → wire_at (along (behind id vs) start gates).slots a ≡ wire_of (modulus_of id) vs (along (behind id vs) start gates).slots g
told_made id vs start gates o a g even f q e =
    let m : IsTold (length start.parts) gates o g = told_maker_is (length start.parts) gates o g e in
    let at : a ≡ length start.parts + m.maker.place = same_some o a m.operand q m.is ∙ m.maker.wire in
    ap (wire_at (along (behind id vs) start gates).slots) at ∙ made id vs start gates even f m.maker.place g m.maker.gate

pub agrees : (p : Preset) (vs : List (List ℕ)) (start : Wires) (gates : List Gate) (at : Gate) → Ground p.id vs start → Formed p.id vs start gates → ((a : ℕ) → Contains (operands at) a → a < length (along (behind p.id vs) start gates).parts)
    → Agrees (window p (length start.parts) gates at) vs (along (behind p.id vs) start gates).slots
agrees p vs start gates at u f b = record {
  full = λ a s. wires_full p.id vs start gates u.some u.vectors f u.even u.full a (seen_below p vs start gates at f b a s);
  first = λ a g q e. told_made p.id vs start gates (slice_get (operands at) 0) a g u.even f q e;
  second = λ a g q e. told_made p.id vs start gates (slice_get (operands at) 1) a g u.even f q e;
}

-- a gate of a shown kind, whose operands stand and whose constant is in range, may stand
pub shown_is_gate : (t slots count : ℕ) (parts : List ℕ) (g : Gate) → is_shown g ≡ true → in_range t slots g ≡ true → ((a : ℕ) → Contains (operands g) a → a < length parts) → is_gate t slots count parts g ≡ true
shown_is_gate t slots count parts (Neg a) e r h = lt-ltb a (length parts) (h a (first a []))
shown_is_gate t slots count parts (Add a b) e r h = and_true (ltb a (length parts)) (ltb b (length parts)) (lt-ltb a (length parts) (h a (first a (b ∷ [])))) (lt-ltb b (length parts) (h b (second a b)))
shown_is_gate t slots count parts (Sub a b) e r h = and_true (ltb a (length parts)) (ltb b (length parts)) (lt-ltb a (length parts) (h a (first a (b ∷ [])))) (lt-ltb b (length parts) (h b (second a b)))
shown_is_gate t slots count parts (Scale c a) e r h = and_true _ (ltb a (length parts)) r (lt-ltb a (length parts) (h a (first a [])))
shown_is_gate t slots count parts (Shift c a) e r h = and_true _ (ltb a (length parts)) r (lt-ltb a (length parts) (h a (first a [])))
shown_is_gate t slots count parts (Mul a b) e r h = absurd cc
shown_is_gate t slots count parts (Relin a) e r h = absurd cc
shown_is_gate t slots count parts (Turn k a) e r h = absurd cc
shown_is_gate t slots count parts (Weigh v a) e r h = absurd cc
