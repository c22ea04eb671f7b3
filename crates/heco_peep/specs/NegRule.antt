-- The negative of a negative is the wire itself.
use Rattle.std.specs.Prelude.{◌≡◌, ◌<◌, ℕ, zero, suc, ◌-◌, ◌+◌, ◌%◌, ◌^◌, List, [], ◌∷◌, map, Option, Some, None, All, slice_index, min}
use Rattle.std.proofs.Common.{refl, sym, arith, subst}
use Rattle.std.proofs.Math.Nat.{mod-eq_of_lt, mod_self}
use Rattle.heco_nums.specs.Presets.{modulus_of}
use Rattle.heco_circuit.specs.declared.gate.Gate.{Gate}
use Rattle.heco_circuit.specs.declared.gate.Gate.TheVariants.{Neg, Add, Sub, Mul, Relin, Scale, Shift, Turn, Weigh}
use Rattle.heco_meaning.specs.Meanings.{wire_at}
use Rattle.heco_peep.specs.declared.window.Window.{Window}
use Rattle.heco_peep.specs.declared.window.Swap.{Swap}
use Rattle.heco_peep.specs.declared.window.Swap.TheVariants as swap
use Rattle.heco_peep.specs.Rules.{Rule, IsLawful, of_first}

-- one answer more, stopping at the greatest number
abbrev pub one_more : List ℕ → List ℕ
one_more state = min (slice_index state 0 + 1) (2 ^ 64 - 1) ∷ []

abbrev pub neg_by : List ℕ → Gate → Option Gate → Option Swap × List ℕ
neg_by state (Neg a) (Some (Neg x)) = (Some (swap.Wire x), one_more state)
neg_by state at first = (None, state)

abbrev pub neg_answer : List ℕ → Window → Option Swap × List ℕ
neg_answer state w = neg_by state w.at w.first

-- ---- it is lawful
twice : (t x : ℕ) → x < t → (t - (t - x) % t) % t ≡ x
twice t zero h = let e : t - 0 ≡ t = omega arith in let z : t % t ≡ 0 = mod_self t in rw (e, z, e) z
twice t (suc x) h =
    let a : (t - suc x) % t ≡ t - suc x = mod-eq_of_lt (omega arith) in
    let b : t - (t - suc x) ≡ suc x = omega arith in
    rw (a, b) (mod-eq_of_lt h)

all_twice : (t : ℕ) (xs : List ℕ) → All (λ x. x < t) xs → map (λ x. (t - x) % t) (map (λ x. (t - x) % t) xs) ≡ xs
all_twice t [] h = refl
all_twice t (x ∷ xs) h = rw (twice t x (h 0 0 (omega arith)), all_twice t xs (λ i d l. h (suc i) d (omega (arith, l)))) refl

is_wire : (w : Window) (a y : ℕ) → w.at ≡ Neg a → w.first ≡ Some (Neg y) → IsLawful w (swap.Wire y)
is_wire w a y e f = record {
  seen = λ b c. of_first b (Neg y) f c;
  kind = refl;
  means = λ vs ws g.
      let t : ℕ = modulus_of w.preset.id in
      let q : wire_at ws a ≡ map (λ x. (t - x) % t) (wire_at ws y) = g.first a (Neg y) (rw e refl) f in
      rw (e, q) (sym (all_twice t (wire_at ws y) (g.full y (of_first y (Neg y) f (0, omega arith, refl))).below));
}

pub neg_is_lawful : (state : List ℕ) (w : Window) (at : Gate) (first : Option Gate) (x : Swap) → w.at ≡ at → w.first ≡ first
    → (neg_by state at first).0 ≡ Some x → IsLawful w x
neg_is_lawful state w (Neg a) (Some (Neg y)) x e f h = let q : swap.Wire y ≡ x = cc in subst (IsLawful w) q (is_wire w a y e f)
neg_is_lawful state w (Neg a) (Some (Add b c)) x e f h = absurd cc
neg_is_lawful state w (Neg a) (Some (Sub b c)) x e f h = absurd cc
neg_is_lawful state w (Neg a) (Some (Mul b c)) x e f h = absurd cc
neg_is_lawful state w (Neg a) (Some (Relin b)) x e f h = absurd cc
neg_is_lawful state w (Neg a) (Some (Scale c b)) x e f h = absurd cc
neg_is_lawful state w (Neg a) (Some (Shift c b)) x e f h = absurd cc
neg_is_lawful state w (Neg a) (Some (Turn r b)) x e f h = absurd cc
neg_is_lawful state w (Neg a) (Some (Weigh v b)) x e f h = absurd cc
neg_is_lawful state w (Neg a) None x e f h = absurd cc
neg_is_lawful state w (Add a b) o x e f h = absurd cc
neg_is_lawful state w (Sub a b) o x e f h = absurd cc
neg_is_lawful state w (Mul a b) o x e f h = absurd cc
neg_is_lawful state w (Relin a) o x e f h = absurd cc
neg_is_lawful state w (Scale c a) o x e f h = absurd cc
neg_is_lawful state w (Shift c a) o x e f h = absurd cc
neg_is_lawful state w (Turn r a) o x e f h = absurd cc
neg_is_lawful state w (Weigh v a) o x e f h = absurd cc

abbrev pub neg_rule : Rule
neg_rule = record { answer = neg_answer; lawful = λ state w ready x h. neg_is_lawful state w w.at w.first x refl refl h }
